-- An engine as plain data, and what it owes.
use Rattle.std.specs.Prelude.{◌≡◌, ℕ, false, List, [], ◌∷◌, ◌++◌, map, length}
use Rattle.std.specs.declared.alloc.Global.{Global}
use Rattle.std.specs.declared.sync.Arc.{Arc}
use Rattle.std.specs.Arc.{arc_value}
use Rattle.poets_syntax.specs.Plain.{Book}
use Rattle.poets_report.specs.Plain.{Report}
use Rattle.poets_command.specs.declared.call.Command.{Command}
use Rattle.poets_command.specs.Calls.{Call, calls_of, command_of}
use Rattle.poets_command.specs.Plain.{Reply}
use Rattle.poets_command.specs.Plain as plain
use Rattle.poets_rules.specs.declared.rules.Rules.{Rules}
use Rattle.poets_rules.specs.Rules.{book_of_rules, reports_of_rules}
use Rattle.poets_history.specs.Histories.{AnswersIn, IsLegal}
use Rattle.poets_history.specs.Ledger.{ledger_of}
use Rattle.poets_engine.specs.Accepted.{has_changed}
use Rattle.poets_engine.specs.Works.{OwesReply}
use Rattle.poets_engine.specs.Store.{StoreView}
use Rattle.poets_engine.specs.Rows.{IsLedger}
use Rattle.poets_engine.specs.declared.kept.Body.{Body}
use Rattle.poets_engine.specs.declared.kept.Kept.{Kept}

-- the studied book with its reports, the calls made, and what is kept of them
pub record State : Type 0 where
  pub rules : Rules
  pub calls : List (ℕ × Command)
  pub store : StoreView

-- the clerks and commands of a list of calls
abbrev pub commands_of : List (ℕ × Arc Command Global) → List (ℕ × Command)
commands_of history = map (λ p. (p.0, arc_value p.1)) history

-- the clerks and commands of a list of calls as plain data
abbrev pub plain_calls : List (ℕ × Command) → List Call
plain_calls calls = map (λ p. (p.0, command_of p.1)) calls

-- the engine's calls are those of a legal history, and what it keeps is what that history amounts
-- to
pub record HasLegalHistory (e : State) : Type 0 where
  pub entries : List plain.Entry
  pub legal : IsLegal (book_of_rules e.rules) (reports_of_rules e.rules) entries
  pub same : calls_of entries ≡ plain_calls e.calls
  pub ledger : IsLedger e.rules (ledger_of entries) e.store

-- the engine has one more call, which is the clerk's, with the command
abbrev pub AddsCall : ℕ → Arc Command Global → (old new : State) → Type 0
AddsCall clerk command old new = new.calls ≡ old.calls ++ (clerk, arc_value command) ∷ []

-- where the body is one by which nothing changed, the engine keeps what it kept
abbrev pub IsKeptUnlessChanged : Body → (old new : State) → Type 0
IsKeptUnlessChanged body old new = has_changed body ≡ false → new.store ≡ old.store

-- the kept value has the place of the call after those calls, and owes the right reply to the
-- command there
pub record Owes (book : Book) (reports : List Report) (calls : List Call) (command : plain.Command)
    (kept : Kept) : Type 0 where
  pub place : kept.place ≡ length calls
  pub reply : OwesReply book reports calls command kept.body

-- the kept value has the place of the call after the engine's calls, and owes the right reply to
-- the command there
abbrev pub OwesNext : State → Command → Kept → Type 0
OwesNext e command kept =
    Owes (book_of_rules e.rules) (reports_of_rules e.rules) (plain_calls e.calls) (command_of command) kept

-- the reply answers whatever command the kept value is owed to
abbrev pub Fulfils : Kept → Reply → Type 0
Fulfils kept reply = (book : Book) (reports : List Report) (calls : List Call) (command : plain.Command) →
    Owes book reports calls command kept → AnswersIn book reports calls command reply
