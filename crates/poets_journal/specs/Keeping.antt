-- What a machine with a journal keeps.
use Rattle.std.specs.Prelude.{◌≡◌, ◌⊎◌, ℕ, ◌+◌, ◌≤◌, ◌<◌, ◌^◌, Bool, true, false, List, ◌++◌}
use Rattle.std.specs.Prelude.{length, take, map, refl}
use Rattle.poets_io.specs.Causes.{Rose}
use Rattle.std.specs.Coded.{Coded, code_by, coded×, coded_ℕ}
use Rattle.poets_disk.specs.Disks.{Seen, MayLeave, Since, GoesOn}
use Rattle.poets_journal.specs.Texts.{HoldsTexts, Texts}
use Rattle.poets_journal.specs.Journals.{AllHold}
use Rattle.poets_journal.specs.JournalValue.{JournalOf, journal_code}

-- what contracts see of a machine with a journal: the machine, its journal, what gives calls their
-- texts, how many of its first calls are stored, and the disk as it was when the two were put
-- together
pub record JournaledOf (M D P : Type 0) : Type 0 where
  pub machine : M
  pub journal : JournalOf D
  pub put : P
  pub stored : ℕ
  pub made : D

abbrev pub journaled_code : {M D P : Type 0} → Coded M → Coded D → Coded P → Coded (JournaledOf M D P)
journaled_code {M} {D} {P} m d p =
    code_by (M × (JournalOf D × (P × (ℕ × D)))) (coded× m (coded× (journal_code d) (coded× p (coded× coded_ℕ d))))
    (λ j. (j.machine, (j.journal, (j.put, (j.stored, j.made)))))
    (λ t. record { machine = t.0; journal = t.1.0; put = t.1.1.0; stored = t.1.1.1.0; made = t.1.1.1.1 })
    (λ _. refl)

-- the texts of a history's calls
abbrev pub texts_by : {C : Type 0} → (ℕ → C → List ℕ) → List (ℕ × C) → List (List ℕ)
texts_by text history = map (λ e. text e.0 e.1) history

-- the file holds the earlier texts, and then so many of the new ones, the first ones
abbrev pub HoldsFirst : (earlier texts : Texts) → ℕ → List ℕ → Type 0
HoldsFirst earlier texts count file = (count ≤ length texts) × HoldsTexts file (earlier ++ take count texts)

-- the file holds the earlier texts, and then the first ones of the new ones, however many
abbrev pub HoldsFront : (earlier texts : Texts) → List ℕ → Type 0
HoldsFront earlier texts file = (count : ℕ) × HoldsFirst earlier texts count file

-- what is kept of the texts of a history since the making, whatever texts the disk held then: an
-- image holds these, and then the first so many of the history's, which are stored, or one more; at
-- each moment an image held these, and then some first ones; and where the journal has not failed,
-- all are stored, and the disk had no fault
pub record IsKept (made disk : Seen) (before now : ℕ)
    (failed : Bool) (stored : ℕ) (texts : Texts) : Type 0 where
  pub time : GoesOn made disk
  pub first : stored ≤ length texts
  pub now_holds : (earlier : Texts) → AllHold made earlier → (image : List ℕ) → MayLeave disk image
      → HoldsFirst earlier texts stored image ⊎ HoldsFirst earlier texts (stored + 1) image
  pub since : (earlier : Texts) → AllHold made earlier → (image : List ℕ) → Since disk made.clock image
      → HoldsFront earlier texts image
  pub whole : failed ≡ false → stored ≡ length texts
  pub later : before ≤ now
  pub sound : failed ≡ false → now ≡ before
  pub cause : failed ≡ true → Rose before now

-- the call has a text under each clerk's number, which fits a record
abbrev pub IsStorable : {T C : Type 0} → (T → C → Type 0) → (T → ℕ → C → List ℕ) → T → C → Type 0
IsStorable has_text text table call =
    has_text table call × ((clerk : ℕ) → clerk < 2 ^ 32 → length (text table clerk call) < 2 ^ 32)
