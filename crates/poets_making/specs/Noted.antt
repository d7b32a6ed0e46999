-- Calls of scripts that an engine takes, and their entries.
use Rattle.std.specs.Prelude.{◌≡◌, ℕ, ◌+◌, List, [], ◌∷◌, ◌++◌, map, All}
use Rattle.std.specs.declared.alloc.Global.{Global}
use Rattle.std.specs.declared.sync.Arc.{Arc}
use Rattle.std.specs.Arc.{arc_value}
use Rattle.std.specs.List.{zip}
use Rattle.poets_value.specs.Listed.{Listed}
use Rattle.poets_command.specs.declared.call.Command.{Command}
use Rattle.poets_command.specs.declared.call.Entry as code
use Rattle.poets_command.specs.declared.call.Reply.{Reply}
use Rattle.poets_command.specs.Calls.{Call, calls_of, command_of, history_of, reply_of}
use Rattle.poets_command.specs.Plain.{Entry}
use Rattle.poets_rules.specs.declared.rules.Rules.{Rules}
use Rattle.poets_rules.specs.Rules.{book_of_rules, reports_of_rules}
use Rattle.poets_history.specs.Histories.{IsLegal, IsRightHistory}
use Rattle.poets_clerks.specs.Histories.{HasScripts}
use Rattle.poets_engine.specs.State.{State, commands_of, plain_calls}
use Rattle.poets_engine.specs.Takes.{IsTakenBy}
use Rattle.poets_session.specs.Sessions.{commands_in}

-- an engine with these rules takes each of the calls
abbrev pub AreTaken : Rules → List (ℕ × Arc Command Global) → Type 0
AreTaken rules calls = All (λ call. IsTakenBy rules (command_of (arc_value call.1))) calls

-- the entries are a legal history of the engine's calls
pub record AreNoted (engine : State) (h : List Entry) : Type 0 where
  pub legal : IsLegal (book_of_rules engine.rules) (reports_of_rules engine.rules) h
  pub calls : calls_of h ≡ plain_calls engine.calls

-- an engine with these rules takes each of the calls of the scripts
abbrev pub AreScriptsTaken : Rules → List (Listed (Arc Command Global)) → Type 0
AreScriptsTaken rules scripts =
    All (λ script. All (λ command. IsTakenBy rules (command_of (arc_value command))) script.items) scripts

-- a call with its reply, as an entry
abbrev pub entry_with : (ℕ × Command) × Reply → Entry
entry_with p = record { clerk = p.0.0; command = command_of p.0.1; reply = reply_of p.1 }

-- calls with their replies, as entries
abbrev pub entries_of : List (ℕ × Command) → List Reply → List Entry
entries_of calls replies = map entry_with (zip calls replies)

-- the entries are those of the calls with their replies
abbrev pub AreEntriesOf : List (ℕ × Arc Command Global) → List Reply → Listed code.Entry → Type 0
AreEntriesOf calls replies entries = history_of entries.items ≡ entries_of (commands_of calls) replies

-- the entries are a right history under the rules
abbrev pub AreRight : Rules → Listed code.Entry → Type 0
AreRight rules entries = IsRightHistory (book_of_rules rules) (reports_of_rules rules) (history_of entries.items)

-- the entries have the calls of each script, in its order, and no others
abbrev pub HaveScripts : List (Listed (Arc Command Global)) → Listed code.Entry → Type 0
HaveScripts scripts entries = HasScripts (commands_in scripts) (calls_of (history_of entries.items))

-- the entries have these calls
abbrev pub HaveCalls : List Call → Listed code.Entry → Type 0
HaveCalls calls entries = calls_of (history_of entries.items) ≡ calls

-- the entries have one more call, which is the clerk's, with the command
abbrev pub NotesCall : (clerk : ℕ) → Arc Command Global → (old new : Listed code.Entry) → Type 0
NotesCall clerk command old new =
    calls_of (history_of new.items) ≡ calls_of (history_of old.items) ++ (clerk, command_of (arc_value command)) ∷ []
