use Rattle.std.proofs.Common.{sym}
use Rattle.poets_table.specs.TableView.{row_view}
use Rattle.poets_engine.proofs.Accounted.{none_accounted, some_accounted}
use Rattle.poets_engine.proofs.accounts.account_named.Goals as goal

pub returns-in_default : goal.returns-in_default
returns-in_default c = none_accounted c.args.rules.now c.args.name c.args.store.now (sym c.in_default.ensures)

pub returns : goal.returns
returns c =
    some_accounted c.args.rules.now c.args.name c.args.store.now c.requires c.in-Some.number (row_view c.row.result.now) c.in_ok-account.account
    (sym c.in-Some.ensures) c.row.ensures c.in_ok-account.ensures
