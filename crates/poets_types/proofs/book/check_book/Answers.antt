use Rattle.std.proofs.lemmas.Result.{err_from_is_err_and}
use Rattle.poets_command.specs.Statements.{statements_of}
use Rattle.poets_types.proofs.CheckedBooks.{IsCheckedBook-none}
use Rattle.poets_types.proofs.Demanded.{names_fault, types_fault, statements_typed}
use Rattle.poets_types.proofs.book.check_book.Goals as goal

pub returns-in_err-check_names-clause-fault : goal.returns-in_err-check_names-clause-fault
returns-in_err-check_names-clause-fault c =
    let e = err_from_is_err_and c.from_residual.result c.from_residual.ensures.1 in
    rw (e.1, e.2) (names_fault (statements_of c.args.statements.now) c.in_err-check_names.field-0.0 c.in_err-check_names.ensures.fault)

pub returns-in_err-check_statements-clause-fault : goal.returns-in_err-check_statements-clause-fault
returns-in_err-check_statements-clause-fault c =
    let r = c.from_residual-in_err-check_statements in let e = err_from_is_err_and r.result r.ensures.1 in
    let fault = rw c.as_slice.ensures at c.in_err-check_statements.ensures.fault in
    rw (e.1, e.2)
    (types_fault (statements_of c.args.statements.now) _ _ c.in_err-check_statements.field-0.0 c.in_ok-check_names.ensures.passes
    c.in_ok-checked.ensures.book c.in_ok-checked.ensures.reports fault)

pub returns-clause-passes : goal.returns-clause-passes
returns-clause-passes c =
    statements_typed (statements_of c.args.statements.now) _ _ c.in_ok-check_names.ensures.passes (rw c.as_slice.ensures at c.in_ok-check_statements.ensures.passes)
    c.in_ok-checked.ensures.book c.in_ok-checked.ensures.reports

pub returns-clause-typed : goal.returns-clause-typed
returns-clause-typed c =
    IsCheckedBook-none (statements_of c.args.statements.now) _ _ c.in_ok-check_names.ensures.passes (rw c.as_slice.ensures at c.in_ok-check_statements.ensures.passes)
    c.in_ok-checked.ensures.book c.in_ok-checked.ensures.reports
