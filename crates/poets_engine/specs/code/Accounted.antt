-- Accounts of what is kept.
use Rattle.std.specs.Prelude.{◌≡◌, List, Option, IfSome}
use Rattle.poets_value.specs.declared.value.Name.{Name}
use Rattle.poets_syntax.specs.Contract.{contract_of}
use Rattle.poets_syntax.specs.declared.term.Term.{Term}
use Rattle.poets_cons.specs.declared.node.Node.{Node}
use Rattle.poets_cons.specs.Table.{contract_of_rows}
use Rattle.poets_table.specs.TableView.{RowView}
use Rattle.poets_rules.specs.declared.rules.Rules.{Rules}
use Rattle.poets_history.specs.Ledger.{Ledger}
use Rattle.poets_engine.specs.Accounts.{Accounts, IsFormedAccount}
use Rattle.poets_engine.specs.Rows.{IsLedger}
use Rattle.poets_engine.specs.Store.{StoreView}
use Rattle.poets_engine.specs.declared.accounts.Account.{Account}

-- the account has what the row has
pub record IsAccountOfRow (r : RowView Term (List Node)) (a : Account) : Type 0 where
  pub original : contract_of a.original ≡ contract_of r.original
  pub residual : contract_of a.residual ≡ contract_of_rows r.current
  pub events : a.events.items ≡ r.events
  pub ended : a.ended ≡ r.ended

-- the account is right in each ledger of what is kept, and it is formed
pub record AccountsInStore (rules : Rules) (store : StoreView) (x : Name) (found : Option Account) : Type 0 where
  pub right : (l : Ledger) → IsLedger rules l store → Accounts rules.studied l x found
  pub formed : IfSome found (IsFormedAccount rules.studied)
