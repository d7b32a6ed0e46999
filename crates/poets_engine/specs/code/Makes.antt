-- What it is to make a command.
use Rattle.std.specs.Prelude.{◌≡◌, false, List}
use Rattle.poets_rules.specs.declared.rules.Rules.{Rules}
use Rattle.poets_rules.specs.Rules.{book_of_rules, reports_of_rules}
use Rattle.poets_value.specs.declared.value.Name.{Name}
use Rattle.poets_expr.specs.Expression.{Expression}
use Rattle.poets_command.specs.Plain.{Command, Reply}
use Rattle.poets_command.specs.declared.call.Reply.{Reply as CodeReply}
use Rattle.poets_command.specs.Calls.{reply_of}
use Rattle.poets_history.specs.Ledger.{Ledger, with_entry}
use Rattle.poets_history.specs.Histories.{RepliesIn}
use Rattle.poets_engine.specs.Store.{StoreView}
use Rattle.poets_engine.specs.Works.{HoldsPortfolio}
use Rattle.poets_engine.specs.declared.kept.FolioWork.{FolioWork}
use Rattle.poets_engine.specs.declared.kept.Body.{Body}
use Rattle.poets_engine.specs.declared.kept.Body.TheVariants.{Done, Folio}
use Rattle.poets_engine.specs.Rows.{IsLedger}
use Rattle.poets_history.specs.Ledger.{is_accepted}

-- the command was made: its reply is the one after the ledger of what was kept, what is kept then
-- is that of the ledger with the entry, and a refusal or a look leaves it
pub record Makes (rules : Rules) (command : Command) (old new : StoreView) (r : Reply) : Type 0 where
  pub reply : (l : Ledger) → IsLedger rules l old → RepliesIn (book_of_rules rules) (reports_of_rules rules) l command r
  pub store : (l : Ledger) → IsLedger rules l old → IsLedger rules (with_entry l command r) new
  pub refused : is_accepted r ≡ false → new ≡ old

-- the command was made, with this reply
abbrev pub MakesReply : Rules → Command → (old new : StoreView) → CodeReply → Type 0
MakesReply rules command old new reply = Makes rules command old new (reply_of reply)

-- the command was made, with this reply, whatever the rules are
abbrev pub MakesUnderAll : Command → (old new : StoreView) → CodeReply → Type 0
MakesUnderAll command old new reply = (rules : Rules) → Makes rules command old new (reply_of reply)

-- the command is a portfolio, and the work is the one after the ledger of what is kept
pub record Prepares (rules : Rules) (command : Command) (store : StoreView) (work : FolioWork) : Type 0 where
  pub report : Name
  pub args : List Expression
  pub over : List Name
  pub asked : command ≡ Command.Portfolio report args over
  pub holds : (l : Ledger) → IsLedger rules l store →
      HoldsPortfolio (book_of_rules rules) (reports_of_rules rules) l report args over work

-- the command was made, but for what the body still owes
abbrev pub MakesBody : Rules → Command → StoreView → StoreView → Body → Type 0
MakesBody rules command old new (Done reply) = Makes rules command old new (reply_of reply)
MakesBody rules command old new (Folio work) = (new ≡ old) × Prepares rules command old work
