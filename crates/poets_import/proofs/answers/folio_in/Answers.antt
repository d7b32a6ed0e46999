use Rattle.std.proofs.Common.{map}
use Rattle.std.proofs.lemmas.Result.{err_from_is_err_and}
use Rattle.serde_json.specs.View.{view}
use Rattle.poets_command.specs.Calls.{folio_row_of}
use Rattle.poets_import.specs.code.Finding.{folio_as_data, folio_of}
use Rattle.poets_import.proofs.AnswerRows.{other_folio, parts_of_value, total_of_value}
use Rattle.poets_import.proofs.Unsaid.{finds_handed}
use Rattle.poets_import.proofs.answers.folio_in.Goals as goal

pub returns-in_err-rows-clause-only : goal.returns-in_err-rows-clause-only
returns-in_err-rows-clause-only c = λ y so e.
    let told = err_from_is_err_and c.from_residual.result c.from_residual.ensures.1 in
    let names = c.args.names.now in
    let d = view c.args.value.now in
    finds_handed folio_of (folio_as_data names) d told.1 told.2
    (c.in_err-rows.ensures.only y.0 so.0 (parts_of_value names c.in-Some.rows.now d y c.in-Some.ensures e))

pub returns-clause-only : goal.returns-clause-only
returns-clause-only c = λ y so e.
    let names = c.args.names.now in
    let d = view c.args.value.now in
    let values = c.in-Some.rows.now in
    let same = parts_of_value names values d y c.in-Some.ensures e in
    other_folio names d (map view values) y (map folio_row_of c.in_ok-rows.rows.items, c.in_ok-total.total) e same
    (c.in_ok-rows.ensures.only y.0 so.0 same)
    (c.in_ok-total.ensures.only y.1 so.1 (total_of_value names d y e))
