-- The rule of the turnstile, which holds between any two steps of any threads. A clerk who calls
-- draws a ticket, waits until it is served, takes the machine out of its slot, and hands on. Each
-- clerk and each note has a seat, and the view of a seat is what its owner knows.
use Rattle.std.specs.Prelude.{◌≡◌, ◌⊎◌, ℕ, ◌<◌, ◌≤◌, ltb, Bool, true, false, List, [], ◌∷◌, length}
use Rattle.std.specs.Prelude.{if◌then◌else◌}
use Rattle.std.specs.Prelude.{Option, Some, All, Contains}
use mathlib.Core.List.{IsPrefix}
use mathlib.Core.Option.{none, some}
use lib.ListN.{get_elem?}
use Rattle.atomic_table.specs.Table.{State}
use Rattle.poets_machine.specs.Histories.{calls_by}
use Rattle.poets_turn.specs.Settings.{OnlyClerks}
use Rattle.poets_turn.specs.declared.view.View.{View}
use Rattle.poets_turn.specs.declared.view.Setting.{Setting}
use Rattle.poets_turn.specs.declared.view.Stage.{Stage}
use Rattle.poets_turn.specs.declared.view.Stage.TheVariants.{Idle, Waiting, Serving}

-- the numbers of clerks, which count from 1
pub record Numbers : Type 0 where
  -- how many were made
  pub made : ℕ
  -- the seat that makes them
  pub maker : ℕ
  -- the seat of a number: its clerk's, or the one that took in its clerk
  pub number_seat : ℕ → ℕ
  -- whether the clerk of a number was taken in
  pub is_ended : ℕ → Bool

-- what the words and the seats of a turnstile stand for
pub record Meaning (C : Type 0) : Type 0 where
  -- the next ticket
  pub ticket : ℕ
  -- the ticket that is served
  pub serving : ℕ
  -- the seat of a ticket
  pub ticket_seat : ℕ → ℕ
  -- all entries, each a clerk's number and a call
  pub log : List (ℕ × C)
  pub numbers : Numbers

module _ {C : Type 0} where
  -- the seat's ticket, if any, was drawn and is not past, and is its own; where it is served, the
  -- log is as noted
  abbrev pub FitsStage : Meaning C → ℕ → Stage C → Type 0
  FitsStage m seat Idle = Unit {0}
  FitsStage m seat (Waiting ticket) = (m.serving ≤ ticket) × (ticket < m.ticket) × (m.ticket_seat ticket ≡ seat)
  FitsStage m seat (Serving ticket log) =
      (ticket ≡ m.serving) × (ticket < m.ticket) × (m.ticket_seat ticket ≡ seat) × (log ≡ m.log)

  abbrev pub HasTicket : ℕ → Stage C → Type 0
  HasTicket ticket Idle = ⊥
  HasTicket ticket (Waiting mine) = mine ≡ ticket
  HasTicket ticket (Serving mine log) = mine ≡ ticket

  -- the clerk of the number is among those that were taken in
  abbrev pub HasEnded : ℕ → List (ℕ × List C) → Type 0
  HasEnded number ended = (calls : List C) × Contains ended (number, calls)

  abbrev pub longer : List (ℕ × C) → List (ℕ × C) → List (ℕ × C)
  longer xs ys = if ltb (length xs) (length ys) then ys else xs

-- all that a seat saw or heard of
abbrev pub known : {C F : Type 0} → View C F → List (ℕ × C)
known v = longer v.front v.heard

-- a clerk that was taken in by the seat at the place, with its own calls
pub record IsEnded {C : Type 0} (n : Numbers) (log : List (ℕ × C)) (place : ℕ) (e : ℕ × List C) : Type 0 where
  -- its number was made
  pub low : 0 < e.0
  pub high : e.0 ≤ n.made
  -- no other seat has this number, and no clerk has it any more
  pub seat : n.number_seat e.0 ≡ place
  pub over : n.is_ended e.0 ≡ true
  -- its own calls are exactly those that the log has of it
  pub calls : e.1 ≡ calls_by e.0 log

-- the seat at the place is that of the clerk of the number, with this front and these own calls
pub record IsClerk {C : Type 0} (n : Numbers) (log : List (ℕ × C)) (place number : ℕ) (front : List (ℕ × C))
    (mine : List C) : Type 0 where
  -- its number was made
  pub high : number ≤ n.made
  -- no other seat has this number, and the clerk was not taken in
  pub seat : n.number_seat number ≡ place
  pub over : n.is_ended number ≡ false
  -- its own calls are exactly those that the log has of it
  pub calls : mine ≡ calls_by number log
  -- its front has all of them
  pub seen : calls_by number front ≡ mine

-- the view of the seat is right; the machine's frame and the number of clerks are those that the
-- turnstile was made with
pub record Fits {C F : Type 0} (frame : F) (clerks : ℕ) (m : Meaning C) (seat : ℕ) (v : View C F) : Type 0 where
  -- its front begins the log
  pub front : IsPrefix v.front m.log
  -- what it heard of begins the log
  pub heard : IsPrefix v.heard m.log
  -- its setting, if any, is that of the turnstile
  pub setting : (s : Setting F) → v.setting ≡ Some s → (s.frame ≡ frame) × (s.clerks ≡ clerks)
  -- its ticket, if any, is its own, and is served or waits
  pub stage : FitsStage m seat v.stage
  -- with a number it is the seat of that clerk
  pub clerk : 0 < v.number → IsClerk m.numbers m.log seat v.number v.front v.calls
  -- with none, as that of a note, it has no ticket, no own calls, no count and no ended clerks
  pub nobody : v.number ≡ 0 → (v.stage ≡ Idle) × (v.calls ≡ []) × (v.count ≡ 0) × (v.ended ≡ [])
  -- with a count it is the seat that makes numbers, and has made so many
  pub count : 0 < v.count → (m.numbers.maker ≡ seat) × (v.count ≡ m.numbers.made)
  -- each clerk that it took in is one that ended
  pub ended : All (IsEnded m.numbers m.log seat) v.ended

module _ {M C F : Type 0} (history : M → List (ℕ × C)) (frame : M → F) (f : F) where
  -- the machine is in its slot
  pub record IsInSlot (log : List (ℕ × C)) (homes : List (mathlib.Core.Option.Option (Option M))) : Type 0 where
    pub machine : M
    pub home : homes ≡ some (Some machine) ∷ []
    -- its history is the log
    pub history_is : history machine ≡ log
    -- its frame is that of the machine at the start
    pub frame_is : frame machine ≡ f

-- the machine is out of its slot, and its holder is the seat whose ticket is served
pub record IsHeld {M C F : Type 0} (serving seat : ℕ) (log : List (ℕ × C))
    (homes : List (mathlib.Core.Option.Option (Option M))) (views : List (View C F)) : Type 0 where
  pub holder : View C F
  pub away : homes ≡ none ∷ []
  pub there : get_elem? views seat ≡ some holder
  -- it has noted the log
  pub serves : holder.stage ≡ Serving serving log

-- the seat with this view has the number, or took in its clerk
abbrev pub HasNumber : {C F : Type 0} → (ended : Bool) → ℕ → View C F → Type 0
HasNumber true number v = HasEnded number v.ended
HasNumber false number v = v.number ≡ number

-- each ticket that was drawn and is not past is that of its seat
abbrev pub TicketsHeld : {C F : Type 0} → Meaning C → List (View C F) → Type 0
TicketsHeld {C} {F} m views = (t : ℕ) → m.serving ≤ t → t < m.ticket
    → (v : View C F) × (get_elem? views (m.ticket_seat t) ≡ some v) × HasTicket t v.stage

-- the numbers that were made are held
pub record NumbersHeld {C F : Type 0} (n : Numbers) (clerks : ℕ) (views : List (View C F)) : Type 0 where
  -- one seat makes them, and counts how many it made
  pub makes : (v : View C F) × (get_elem? views n.maker ≡ some v) × (v.count ≡ n.made)
  -- there is a clerk, and there are no more than were asked for
  pub some_made : 0 < n.made
  pub few_made : n.made ≤ clerks
  -- each number is that of its seat, or of a clerk that its seat took in
  pub each : (k : ℕ) → 0 < k → k ≤ n.made →
      (v : View C F) × (get_elem? views (n.number_seat k) ≡ some v) × HasNumber (n.is_ended k) k v

-- some seat knows the whole log
abbrev pub IsKnown : {C F : Type 0} → List (ℕ × C) → List (View C F) → Type 0
IsKnown {C} {F} log views = (seat : ℕ) × (v : View C F) × (get_elem? views seat ≡ some v) × (known v ≡ log)

-- The rule. No two seats have one ticket or one number, since each ticket and each number has one
-- seat. What the holder of the machine knows of it stands in no view. Once the machine took the
-- holder's call, its history is the log with this call at the end, under the holder's number; it
-- becomes the log in the step that hands on.
pub record Rule {M C F : Type 0} (history : M → List (ℕ × C)) (frame : M → F) (f : F) (clerks : ℕ)
    (s : State (Option M) (View C F)) : Type 0 where
  -- names for what the words and the seats stand for
  pub meaning : Meaning C
  -- word 0 is the next ticket, and word 1 the ticket that is served
  pub words : s.words ≡ meaning.ticket ∷ meaning.serving ∷ []
  -- no ticket is past that was not drawn
  pub order : meaning.serving ≤ meaning.ticket
  -- each ticket that was drawn and is not past is that of its seat
  pub tickets : TicketsHeld meaning s.views
  -- the machine is in its slot, with the log for its history; or the seat whose ticket is served is
  -- its holder
  pub machine : IsInSlot history frame f meaning.log s.homes
      ⊎ IsHeld meaning.serving (meaning.ticket_seat meaning.serving) meaning.log s.homes s.views
  -- of each seat: its front begins the log, its ticket and its number are its own, and its own
  -- calls are those that the log has of it
  pub each_seat : (seat : ℕ) (v : View C F) → get_elem? s.views seat ≡ some v → Fits f clerks meaning seat v
  -- each number that was made is that of a clerk's seat, or of a clerk that was taken in
  pub numbers : NumbersHeld meaning.numbers clerks s.views
  -- each entry of the log is under a number that was made
  pub all_made : OnlyClerks meaning.numbers.made meaning.log
  -- the log is the longest of what the seats know
  pub seen : IsKnown meaning.log s.views
  -- the log has at most one entry for each ticket that is past
  pub short : length meaning.log ≤ meaning.serving
