use Rattle.std.proofs.Common.{List, Option, Err, ap, sym, subst}
use Rattle.std.proofs.lemmas.Result.{err_from_is_err_and}
use Rattle.serde_json.specs.Data.{Data, Items}
use Rattle.poets_import.specs.code.Spoken.{AreRead, IsRowOf, RowsSaid}
use Rattle.poets_import.proofs.Texts.{listed_values}
use Rattle.poets_import.proofs.Unsaid.{handed_on}
use Rattle.poets_import.proofs.spoken.enter_rows.Goals as goal

pub returns-in_err-row_names-clause-none : goal.returns-in_err-row_names-clause-none
returns-in_err-row_names-clause-none c = λ e after h.
    let told = err_from_is_err_and c.from_residual.result c.from_residual.ensures.1 in
    let said = subst (λ (o : Option Items). RowsSaid c.args.names.now o after) (sym c.in-Some.ensures) h in
    c.in_err-row_names.ensures.none (ap Err (handed_on told.1 told.2 e)) said.0 after
    (subst (λ (ds : List Data). AreRead IsRowOf c.args.names.now ds said.0 after) (listed_values c.in-Some.rows.now) said.1)

pub returns-in_ok-row_names-clause-said : goal.returns-in_ok-row_names-clause-said
returns-in_ok-row_names-clause-said c =
    let xs = c.in_ok-row_names.field-0.items in
    let after = c.row_names.new.names in
    subst (λ (o : Option Items). RowsSaid c.args.names.now o after) c.in-Some.ensures
    (xs, subst (λ (ds : List Data). AreRead IsRowOf c.args.names.now ds xs after) (sym (listed_values c.in-Some.rows.now)) c.in_ok-row_names.ensures.said)
