-- The laws of runs, as statements.
use Rattle.std.specs.Prelude.{◌≡◌, ◌↔◌, ℕ, List, [], ◌∷◌, Option, Some}
use Rattle.poets_command.specs.Plain.{Command, Entry}
use Rattle.poets_command.specs.Calls.{calls_of}
use Rattle.poets_command.specs.Declarations.{book_from, reports_of}
use Rattle.poets_command.specs.Said.{Statement}
use Rattle.poets_session.specs.Sessions.{scripts_of, journal_of}
use Rattle.poets_words.specs.Words.{AskFor, IsCommandForm}
use Rattle.poets_words.specs.declared.mode.Mode.{Mode}
use Rattle.poets_writing.specs.Writing.{Change}
use Rattle.poets_writing.specs.declared.outcome.TheConstants.{USAGE}
use Rattle.poets_top.specs.RunEnds.{RunEnds}
use Rattle.poets_top.specs.Runs.{Ends, IsStatusOrMemory}
use Rattle.poets_top.specs.Scripts.{under_clerk}
use Rattle.poets_top.specs.Running.{IsHistoryOf, HasRun}
use Rattle.poets_top.specs.Replaying.{IsReplayOf, HasReplayed}

-- the calls in a history of one clerk's session are his script, in its order
abbrev pub OneClerk : Type 0
OneClerk =
    (statements : List Statement) (script : List Command) (h : List Entry)
    → scripts_of statements ≡ script ∷ [] → IsHistoryOf statements h → calls_of h ≡ under_clerk 1 script

-- over a source and a sink that tell their bytes, a run of one clerk's session has one history and
-- writes one text
abbrev pub OneRun : Type 0
OneRun =
    (bytes held : List ℕ) (left left' held' held'' : Option (List ℕ)) (script : List Command) (h h' : List Entry)
    → (run : HasRun (Some bytes) left (Some held) held' h) → scripts_of run.statements ≡ script ∷ []
    → HasRun (Some bytes) left' (Some held) held'' h' → (h ≡ h') × (left ≡ left') × (held' ≡ held'')

-- a journal has one history at most
abbrev pub OneReplay : Type 0
OneReplay =
    (statements : List Statement) (h h' : List Entry) → IsReplayOf statements h → IsReplayOf statements h' → h ≡ h'

-- over a source and a sink that tell their bytes, a replay of a journal has one history and writes
-- one text
abbrev pub OneReplayed : Type 0
OneReplayed =
    (bytes held : List ℕ) (left left' held' held'' : Option (List ℕ)) (h h' : List Entry)
    → HasReplayed (Some bytes) left (Some held) held' h → HasReplayed (Some bytes) left' (Some held) held'' h'
    → (h ≡ h') × (left ≡ left') × (held' ≡ held'')

-- a history of clerks is the history of the journal that has their book and its calls
abbrev pub RunsAreReplayed : Type 0
RunsAreReplayed =
    (statements journal : List Statement) (h : List Entry)
    → book_from journal ≡ book_from statements → reports_of journal ≡ reports_of statements
    → journal_of journal ≡ calls_of h → IsHistoryOf statements h → IsReplayOf journal h

-- of words that ask for something, a run ends by the rule of its status exactly where it ends as
-- one that was asked for that
abbrev pub RunsEndByStatus : Type 0
RunsEndByStatus =
    (words : List (List ℕ)) (mode : Mode) (source sink : Change) (status : ℕ) (h : List Entry) → AskFor words mode →
    RunEnds words source sink status h ↔ Ends source.before source.after sink.before sink.after status h mode

-- of words that are no command form, a run ends by the rule of its status exactly where nothing was
-- read or written and the status is 2, or that of out of memory
abbrev pub NoFormsEndByStatus : Type 0
NoFormsEndByStatus =
    (words : List (List ℕ)) (source sink : Change) (status : ℕ) (h : List Entry) → ¬ (IsCommandForm words) →
    RunEnds words source sink status h
    ↔ (IsStatusOrMemory USAGE status × (source.after ≡ source.before) × (sink.after ≡ sink.before) × (h ≡ []))
