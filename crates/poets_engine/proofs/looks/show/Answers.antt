use Rattle.std.proofs.Common.{[], ◌∙◌, ap, subst, sym}
use Rattle.std.specs.Prelude.{IsTrue, ◌↔◌}
use Rattle.poets_meaning.specs.Perf.{Perf}
use Rattle.poets_cons.specs.Table.{contract_of_rows}
use Rattle.poets_rules.specs.Rules.{book_of_rules}
use Rattle.poets_syntax.specs.Contract.{contract_of}
use Rattle.poets_table.specs.TableView.{row_view}
use Rattle.poets_engine.proofs.Showing.{show_found}
use Rattle.poets_engine.proofs.looks.show.Goals as goal

pub returns : goal.returns
returns c =
    show_found c.args.rules.now c.args.name c.args.store.now c.in-Some.number (row_view c.row-row.result.now) c.may_end_rows.result
    (contract_of c.in_ok-to_term.field-0) c.len.result (sym c.in-Some.ensures) c.row-row.ensures
    (subst (λ t. IsTrue c.may_end_rows.result ↔ Perf (book_of_rules c.args.rules.now) [] (contract_of_rows t) []) c.deref-2.ensures c.may_end_rows.ensures)
    (c.in_ok-to_term.ensures ∙ ap contract_of_rows c.deref.ensures) c.len.ensures.count
