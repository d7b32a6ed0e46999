use Rattle.std.proofs.Common.{◌≡◌, map}
use Rattle.std.proofs.lemmas.Result.{err_from_is_err_and}
use Rattle.serde_json.specs.View.{view}
use Rattle.poets_expr.specs.Env.{declared_of}
use Rattle.poets_report.specs.Answers.{answer_of}
use Rattle.poets_report.specs.Plain.{Rows}
use Rattle.poets_json.specs.Document.{answer_data}
use Rattle.poets_parse.specs.declared.fault.Unread.TheVariants as U
use Rattle.poets_import.proofs.AnswerRows.{other_rows, rows_of}
use Rattle.poets_import.proofs.Unsaid.{finds_handed}
use Rattle.poets_import.proofs.answers.answer_in.Goals as goal

pub returns-in_err-rows_in-clause-only : goal.returns-in_err-rows_in-clause-only
returns-in_err-rows_in-clause-only c = λ y so e.
    let told = err_from_is_err_and c.from_residual.result c.from_residual.ensures.1 in
    let fault = c.in_err-rows_in.field-0.0 in
    finds_handed answer_of (answer_data c.args.names.now) (view c.args.value.now) told.1 told.2
    (rows_of c.args.names.now (declared_of c.args.decls.now.names) (fault ≡ U.Memory) c.in-Some.rows.now (view c.args.value.now) y
    c.in-Some.ensures so e (λ rows are same is. c.in_err-rows_in.ensures.only rows are same))

pub returns-in-Some-clause-only : goal.returns-in-Some-clause-only
returns-in-Some-clause-only c = λ y so e.
    let names = c.args.names.now in
    let d = view c.args.value.now in
    let found = c.in_ok-rows_in.field-0.items in
    let values = c.in-Some.rows.now in
    rows_of names (declared_of c.args.decls.now.names) (d ≡ answer_data names (Rows found)) values d y c.in-Some.ensures so e
    (λ rows are same is. other_rows names d (map view values) rows found is same (c.in_ok-rows_in.ensures.only rows are same))
