-- The commands of a session as the code has them, and numbers of clerks.
use Rattle.std.specs.Prelude.{⊤, ◌≡◌, ◌<◌, ◌^◌, List, [], ◌∷◌, ◌++◌, Result, IfOk}
use Rattle.std.specs.Arc.{arc_value}
use Rattle.std.specs.declared.alloc.Global.{Global}
use Rattle.std.specs.declared.sync.Arc.{Arc}
use Rattle.poets_command.specs.Calls.{command_of}
use Rattle.poets_command.specs.declared.call.Command.{Command as CodeCommand}
use Rattle.poets_command.specs.Said.{Statement, Command, Numbered}
use Rattle.poets_session.specs.Sessions.{commands_in, calls_in, scripts_of, journal_of}
use Rattle.poets_session.specs.Sessions.{numbered_call}
use Rattle.poets_session.specs.declared.scripts.Calls.{Calls}

-- 32 bits hold the number of the statement's clerk, if it has one
abbrev pub HasShortNumber : Statement → Type 0
HasShortNumber (Numbered clerk command) = clerk < 2 ^ 32
HasShortNumber s = ⊤

-- the statement that is the command
abbrev pub command_statement : Arc CodeCommand Global → Statement
command_statement command = Command (command_of (arc_value command))

-- the scripts are those of the statements
abbrev pub HasScripts : List Statement → Calls → Type 0
HasScripts statements calls = commands_in calls.scripts.items ≡ scripts_of statements

-- the journal is that of the statements
abbrev pub HasJournal : List Statement → Calls → Type 0
HasJournal statements calls = calls_in calls.journal.items ≡ journal_of statements

-- the scripts of any statements become those of the statements and this one after them, if memory
-- is found for it
abbrev pub AddsToScripts : {X E : Type 0} → (old new : Calls) → Statement → Result X E → Type 0
AddsToScripts old new s result =
    (before : List Statement) → HasScripts before old → IfOk result (λ _. HasScripts (before ++ s ∷ []) new)

-- the call of the statement, if it is one, comes after those of the journal, if memory is found for
-- it
abbrev pub AddsToJournal : {X E : Type 0} → (old new : Calls) → Statement → Result X E → Type 0
AddsToJournal old new s result =
    IfOk result (λ _. calls_in new.journal.items ≡ calls_in old.journal.items ++ numbered_call s)
