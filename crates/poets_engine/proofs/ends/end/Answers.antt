use Rattle.std.proofs.Common.{[], subst, sym}
use Rattle.std.specs.Prelude.{IsTrue, ◌↔◌}
use Rattle.poets_meaning.specs.Perf.{Perf}
use Rattle.poets_cons.specs.Table.{contract_of_rows}
use Rattle.poets_rules.specs.Rules.{book_of_rules}
use Rattle.poets_table.specs.TableView.{row_view}
use Rattle.poets_engine.proofs.Ending.{end_over, end_owes, end_now}
use Rattle.poets_engine.proofs.ends.end.Goals as goal

pub returns-then-row : goal.returns-then-row
returns-then-row c =
    end_over c.args.rules.now c.args.name c.args.store.now c.in-Some.number (row_view c.row-row.result.now) (sym c.in-Some.ensures) c.row-row.ensures c.if-row.true

pub returns-then-not-may_end_rows : goal.returns-then-not-may_end_rows
returns-then-not-may_end_rows c =
    end_owes c.args.rules.now c.args.name c.args.store.now c.in-Some.number (row_view c.row-row.result.now) (sym c.in-Some.ensures) c.row-row.ensures
    c.if-row.false c.may_end_rows.result
    (subst (λ t. IsTrue c.may_end_rows.result ↔ Perf (book_of_rules c.args.rules.now) [] (contract_of_rows t) []) c.deref.ensures c.may_end_rows.ensures) c.if-not-may_end_rows.true

pub returns : goal.returns
returns c =
    end_now c.args.rules.now c.args.name c.args.store.now c.in-Some.number (row_view c.row-row.result.now) (sym c.in-Some.ensures) c.row-row.ensures
    c.if-row.false c.may_end_rows.result
    (subst (λ t. IsTrue c.may_end_rows.result ↔ Perf (book_of_rules c.args.rules.now) [] (contract_of_rows t) []) c.deref.ensures c.may_end_rows.ensures) c.finish.new.self c.finish.ensures.rows c.finish.ensures.log c.finish.ensures.watches c.if-not-may_end_rows.false
