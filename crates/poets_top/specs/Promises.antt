-- What the program's one call promises.
use Rattle.std.specs.Prelude.{◌≡◌, ℕ, List, Option, String, map, string_bytes}
use Rattle.std.specs.declared.alloc.Global.{Global}
use Rattle.poets_command.specs.Plain.{Entry}
use Rattle.poets_command.specs.Calls.{history_of}
use Rattle.poets_words.specs.Words.{AskFor, IsCommandForm}
use Rattle.poets_words.specs.declared.mode.Mode.{Mode}
use Rattle.poets_words.specs.declared.mode.Mode.TheVariants as M
use Rattle.poets_words.specs.declared.mode.Task.{Task}
use Rattle.poets_top.specs.Demonstrating.{HasDemonstrated}
use Rattle.poets_top.specs.Runs.{DeservesRun, Ends, IsStatusOrMemory, NoFaultRose}
use Rattle.poets_writing.specs.Writing.{Change}
use Rattle.poets_writing.specs.declared.outcome.Outcome.{Outcome}
use Rattle.poets_writing.specs.declared.outcome.TheConstants.{DONE}

-- the words are no command form
abbrev pub AreNoForm : List (String Global) → Type 0
AreNoForm words = ¬ (IsCommandForm (map string_bytes words))

-- the words ask for the task with the text that is read
abbrev pub AskTo : List (String Global) → Task → Type 0
AskTo words task = AskFor (map string_bytes words) (M.Read task)

-- the words ask for a demonstration with so many sales
abbrev pub AskToShow : List (String Global) → (sales : ℕ) → Type 0
AskToShow words sales = AskFor (map string_bytes words) (M.Demo sales)

-- where the run ends with the status 0, this holds of its history
abbrev pub IfDone : Outcome → (List Entry → Type 0) → Type 0
IfDone outcome Holds = outcome.status ≡ DONE → Holds (history_of outcome.history.items)

-- a demonstration reads nothing, and where the run ends with the status 0, it was shown
abbrev pub Demonstrates : {S : Type 0} → (sales : ℕ) → (source source' : S) → (held held' : Option (List ℕ)) → Outcome →
    Type 0
Demonstrates sales source source' held held' outcome =
    (source' ≡ source) × IfDone outcome (HasDemonstrated sales held held')

-- the run ends as one that was asked for what the words ask for
abbrev pub EndsAsAsked : List (String Global) → (source sink : Change) → Outcome → Type 0
EndsAsAsked words source sink outcome =
    (mode : Mode) → AskFor (map string_bytes words) mode →
    Ends source.before source.after sink.before sink.after outcome.status (history_of outcome.history.items) mode

-- where no count of faults rose, the run ends with the status that it deserves, or with that of
-- "out of memory"
abbrev pub EndsAsDeserved : List (String Global) → (source sink : Change) → Outcome → Type 0
EndsAsDeserved words source sink outcome =
    (mode : Mode) (wanted : ℕ) → AskFor (map string_bytes words) mode → DeservesRun source.before.bytes mode wanted →
    NoFaultRose source.before.faults source.after.faults sink.before.faults sink.after.faults →
    IsStatusOrMemory wanted outcome.status
