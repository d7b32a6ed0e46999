-- A run that keeps the calls of a session, by what its parts answer.
use Rattle.std.proofs.Common.{◌≡◌, ℕ, ◌<◌, Bool, true, false, List, [], ◌∷◌, length, map, Ok, Err, refl, sym, ◌∙◌, ap, subst, arith}
use Rattle.std.specs.Prelude.{Option, Result, String, IfOk, OnErr, string_bytes}
use Rattle.std.specs.declared.alloc.Global.{Global}
use Rattle.std.proofs.KnownBytes.{Appends-nil}
use Rattle.std.proofs.lemmas.Bool.{false≢true}
use Rattle.std.proofs.lemmas.List.{length-map}
use Rattle.poets_io.specs.Causes.{Rose}
use Rattle.poets_value.specs.Listed.{Listed}
use Rattle.poets_lex.specs.Table.{Table}
use Rattle.poets_command.specs.Plain.{Entry}
use Rattle.poets_command.specs.Said.{Statement}
use Rattle.poets_disk.specs.Disks.{During, GoesOn, Seen}
use Rattle.poets_journal.specs.Journals.{texts_of}
use Rattle.poets_journal.specs.Starts.{StaysOrIsShort, disk_of}
use Rattle.poets_journal.specs.declared.start.StartFault.{StartFault}
use Rattle.poets_journal.specs.declared.start.Started.{Started}
use Rattle.poets_opening.specs.Unread.{EndsUnread}
use Rattle.poets_session.specs.declared.form.Form.TheVariants as F
use Rattle.poets_writing.specs.Writing.{Stream, stream}
use Rattle.poets_keeping.specs.Journals.{HeldTexts, OnlyStarted, holds_line}
use Rattle.poets_keeping.specs.Keeping.{EndsKeeping, IsKeptAs, KeepsSession}
use Rattle.poets_keeping.specs.Writing.{EndsWriting}

-- a journal that holds no text, by the list of texts that was read
no_texts : (texts : Listed (Listed ℕ)) → texts.items ≡ [] → texts_of texts ≡ []
no_texts texts none = ap (map (λ (t : Listed ℕ). t.items)) none

pub held_none : (disk made : Seen) (faults begun : ℕ) (texts : Listed (Listed ℕ)) → texts.items ≡ [] → HeldTexts disk made faults begun (texts_of texts) → HeldTexts disk made faults begun []
held_none disk made faults begun texts none held = subst (HeldTexts disk made faults begun) (no_texts texts none) held

-- and one that holds some
pub some_held : (empty : Bool) (texts : Listed (Listed ℕ)) → (texts.items ≡ [] → empty ≡ true) → empty ≡ false → 0 < length (texts_of texts)
some_held empty texts tells held = some texts.items (λ none. false≢true (sym held ∙ tells none))
  where
    some : (items : List (Listed ℕ)) → (items ≡ [] → ⊥) → 0 < length (map (λ (t : Listed ℕ). t.items) items)
    some [] ne = absurd (ne refl)
    some (t ∷ ts) ne = omega arith

-- their number in a line
pub holds_line_of : {E : Type 0} (line : Result (String Global) E) (count : ℕ) (texts : Listed (Listed ℕ)) → count ≡ length texts.items → IfOk line (λ l. string_bytes l ≡ holds_line count) →
    IfOk line (λ l. string_bytes l ≡ holds_line (length (texts_of texts)))
holds_line_of line count texts is written =
    subst (λ n. IfOk line (λ l. string_bytes l ≡ holds_line n)) (is ∙ sym (length-map texts.items (λ (t : Listed ℕ). t.items))) written

module _ {D K : Type 0} (seen : D → Seen) (faults : D → ℕ) (held : K → Option (List ℕ)) (count : K → ℕ) (old new : K) (names : Table) (statements : List Statement) (disk disk' : D) where
  abbrev of : K → Stream
  of k = stream (held k) (count k)

  abbrev Ends : D → ℕ → List Entry → ℕ → Type 0
  Ends given status h stored = KeepsSession seen faults names statements (of old) (of new) disk given status h stored

  -- the same of an outcome
  pub keeps_as : (given : D) (status : ℕ) (h g : List Entry) (stored n : ℕ) → given ≡ disk' → g ≡ h → n ≡ stored → Ends disk' status h stored → Ends given status g n
  keeps_as given status h g stored n at same many kept =
      subst (λ d. Ends d status g n) (sym at) (subst (λ l. Ends disk' status l n) (sym same) (subst (Ends disk' status h) (sym many) kept))

  -- out of memory ahead of all calls
  pub keeps_none : (status : ℕ) → OnlyStarted (seen disk) (seen disk') → status ≡ 3 → new ≡ old → Ends disk' status [] 0
  keeps_none status started three same = subst (λ s. Ends disk' s [] 0) (sym three) (KeepsSession.NoneMade started (ap of same))

  -- the disk failed ahead of all calls
  pub keeps_unstarted : (status : ℕ) → OnlyStarted (seen disk) (seen disk') → Rose (faults disk) (faults disk') → status ≡ 7 → new ≡ old → Ends disk' status [] 0
  keeps_unstarted status started rose seven same =
      subst (λ s. Ends disk' s [] 0) (sym seven)
      (KeepsSession.Answered (IsKeptAs.NotStarted started rose)
      (subst (λ k. EndsWriting 7 [] (of old) (of k) 7) (sym same) (EndsWriting.Whole (Appends-nil (of old).bytes) refl)))

  -- a line was told, where there was memory for it
  pub keeps_told : {E : Type 0} (line : Result (String Global) E) (answer status : ℕ) (text : List ℕ) → OnlyStarted (seen disk) (seen disk') →
      IsKeptAs names statements (seen disk) (seen disk') (faults disk) (faults disk') 0 answer [] text → IfOk line (λ l. string_bytes l ≡ text) →
      IfOk line (λ l. EndsWriting answer (string_bytes l) (of old) (of new) status) → OnErr line ((status ≡ 3) × (new ≡ old)) → Ends disk' status [] 0
  keeps_told (Ok l) answer status text started kept is ends untold = KeepsSession.Answered kept (subst (λ t. EndsWriting answer t (of old) (of new) status) is ends)
  keeps_told (Err e) answer status text started kept is ends untold = keeps_none status started untold.0 untold.1

module _ {D : Type 0} (seen : D → Seen) (faults : D → ℕ) (disk : D) where
  -- a journal was started, or begun to be
  pub only_started : (result : Result (Started D) (StartFault D)) (now : D) → disk_of result ≡ now → GoesOn (seen disk) (seen (disk_of result)) →
      During (seen disk) (seen (disk_of result)) (StaysOrIsShort (seen disk) (seen (disk_of result))) → OnlyStarted (seen disk) (seen now)
  only_started result now at time during = subst (λ d. OnlyStarted (seen disk) (seen d)) at (record { time = time; during = during })

  -- there was no session
  module _ (source source' sink sink' : Stream) where
    pub ends_unread : (given : D) (status answer : ℕ) (h g : List Entry) (n : ℕ) → given ≡ disk → status ≡ answer → g ≡ h → n ≡ 0 →
        EndsUnread F.Clerks source source' sink sink' answer h → EndsKeeping seen faults source source' sink sink' disk given status g n
    ends_unread given status answer h g n at same held none ends =
        subst (EndsKeeping seen faults source source' sink sink' disk given status g) (sym none)
        (EndsKeeping.Unread (subst (λ s. EndsUnread F.Clerks source source' sink sink' s g) (sym same) (subst (EndsUnread F.Clerks source source' sink sink' answer) (sym held) ends)) at)
