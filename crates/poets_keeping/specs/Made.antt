-- Calls of scripts that are made after earlier ones, and kept.
use Rattle.std.specs.Prelude.{◌≡◌, ℕ, nat_eq, Bool, if◌then◌else◌, List, [], ◌++◌, All, length}
use Rattle.std.specs.Prelude.{take}
use Rattle.std.specs.Prelude.{Option, Some, None, IfSome}
use Rattle.poets_lex.specs.Table.{Table}
use Rattle.poets_command.specs.Calls.{calls_of, history_of}
use Rattle.poets_command.specs.Plain.{Command, Entry}
use Rattle.poets_command.specs.Typing.{IsTypedCommand}
use Rattle.poets_command.specs.declared.call.Entry as code
use Rattle.poets_rules.specs.Rules.{book_of_rules, reports_of_rules}
use Rattle.poets_rules.specs.declared.rules.Rules.{Rules}
use Rattle.poets_history.specs.Histories.{IsRightHistory}
use Rattle.poets_clerks.specs.Histories.{HasScripts, HasScriptParts}
use Rattle.poets_disk.specs.Disks.{Seen}
use Rattle.poets_engine.specs.State.{State}
use Rattle.poets_journal.specs.Keeping.{IsKept}
use Rattle.poets_making.specs.Noted.{AreNoted}
use Rattle.poets_value.specs.Listed.{Listed}
use Rattle.poets_writing.specs.Outcomes.{lines_after}
use Rattle.poets_writing.specs.Writing.{Change}
use Rattle.poets_writing.specs.declared.outcome.TheConstants.{DONE, NO_MEMORY}
use Rattle.poets_keeping.specs.declared.outcome.TheConstants.{DISK_FAULT}
use Rattle.poets_keeping.specs.Writing.{WritesAs}
use Rattle.poets_keeping.specs.Journals.{texts_of}

-- the engine took the calls of this legal history, each of which is typed
pub record HasTaken (engine : State) (p : List Entry) : Type 0 where
  pub noted : AreNoted engine p
  pub typed :
      All (λ call. IsTypedCommand (book_of_rules engine.rules) (reports_of_rules engine.rules) call.1) (calls_of p)

-- this holds of the history that the engine took, whichever legal one that is
abbrev pub OfTaken : State → (List Entry → Type 0) → Type 0
OfTaken engine P = (p : List Entry) → HasTaken engine p → P p

-- these entries are the history made, and have the scripts whole
abbrev pub IsWhole : List Entry → List (List Command) → Listed code.Entry → Type 0
IsWhole made scripts h = (history_of h.items ≡ made) × HasScripts scripts (calls_of made)

-- after the history p a part of the calls of scripts was made, or all of them, and kept on the
-- disk: with p they make a right history, and the first so many of them are stored
pub record AreMade (rules : Rules) (names : Table) (p : List Entry) (scripts : List (List Command)) (disk disk' : Seen)
    (faults faults' : ℕ) (stored : ℕ) (whole : Option (Listed code.Entry)) : Type 0 where
  pub made : List Entry
  pub right : IsRightHistory (book_of_rules rules) (reports_of_rules rules) (p ++ made)
  pub parts : HasScriptParts scripts (calls_of made)
  pub failed : Bool
  pub kept : IsKept disk disk' faults faults' failed stored (texts_of names made)
  -- where there is a whole history, it is this one
  pub all : IfSome whole (IsWhole made scripts)

-- the status of a run that stored so many calls of its history
abbrev pub kept_status : (stored : ℕ) → Listed code.Entry → ℕ
kept_status stored history = if nat_eq stored (length history.items) then DONE else DISK_FAULT

module _ {D : Type 0} (seen : D → Seen) (faults : D → ℕ) where
  -- how it ends to make the calls of scripts after the history p, to keep them, and to write the
  -- lines of the stored ones, with numbers that go on from p; by the change of the sink
  pub data KeepsScripts (rules : Rules) (names : Table) (p : List Entry) (scripts : List (List Command))
      (disk disk' : D) (sink : Change) : (status : ℕ) → List Entry → (stored : ℕ) → Type 0 where
    -- all calls were made
    Made :
        {stored status : ℕ} (h : Listed code.Entry) →
        AreMade rules names p scripts (seen disk) (seen disk') (faults disk) (faults disk') stored (Some h) →
        WritesAs (kept_status stored h) (lines_after names (length p) (take stored h.items)) sink status →
        KeepsScripts rules names p scripts disk disk' sink status (history_of h.items) stored
    -- out of memory on the way: nothing was written
    PartMade :
        {stored : ℕ} →
        AreMade rules names p scripts (seen disk) (seen disk') (faults disk) (faults disk') stored None →
        sink.after ≡ sink.before → KeepsScripts rules names p scripts disk disk' sink NO_MEMORY [] stored
