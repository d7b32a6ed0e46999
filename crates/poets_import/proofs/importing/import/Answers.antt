use Rattle.std.proofs.Common.{Err, ap}
use Rattle.std.proofs.lemmas.Result.{err_from_is_err_and}
use Rattle.serde_json.specs.View.{view}
use Rattle.poets_import.proofs.Unsaid.{handed_on, shape_is}
use Rattle.poets_import.proofs.importing.import.Goals as goal

pub returns-in_err-exported_in-clause-shape : goal.returns-in_err-exported_in-clause-shape
returns-in_err-exported_in-clause-shape c = λ e.
    let told = err_from_is_err_and c.from_residual-in_err-exported_in.result c.from_residual-in_err-exported_in.ensures.1 in
    let shape = shape_is c.in_err-exported_in.field-0.0 (handed_on told.1 told.2 e) in
    let value = c.in_ok-value.ensures.value in
    (value.0, (view c.in_ok-value.value, value.1, c.in_err-exported_in.ensures.none (ap Err shape)))
