use Rattle.std.proofs.Common.{◌≡◌, Some, None, subst}
use Rattle.std.proofs.lemmas.Result.{err_from_is_err_and}
use Rattle.poets_command.specs.Statements.{statements_of}
use Rattle.poets_command.specs.StatementDemands.{AreTypedStatements}
use Rattle.poets_session.specs.Places.{ArePlaced}
use Rattle.poets_session.specs.code.Placing.{TellsPlace}
use Rattle.poets_session.specs.code.Checking.{IsTypeRefusal, IsGuardRefusal}
use Rattle.poets_session.specs.Causes.{IsCauseOf}
use Rattle.poets_session.proofs.Refusing.{place_refused, type_refused, guard_refused}
use Rattle.poets_session.proofs.Scripting.{numbers_fit}
use Rattle.poets_session.proofs.validity.parts_of.Goals as goal

pub returns-in_err-check_places-clause-refused : goal.returns-in_err-check_places-clause-refused
returns-in_err-check_places-clause-refused c =
    let e = err_from_is_err_and c.from_residual.result c.from_residual.ensures.1 in
    let out = subst (λ l. TellsPlace c.args.form (statements_of l) c.in_err-check_places.field-0.0) c.as_slice.ensures c.in_err-check_places.ensures.out in
    rw (e.1, e.2) (place_refused c.args.form (statements_of c.args.statements.items) c.in_err-check_places.field-0.0 out)

pub returns-in_err-book-clause-refused : goal.returns-in_err-book-clause-refused
returns-in_err-book-clause-refused c =
    let r = c.from_residual-in_err-book in let e = err_from_is_err_and r.result r.ensures.1 in
    let placed = subst (λ l. ArePlaced c.args.form (statements_of l)) c.as_slice.ensures c.in_ok-check_places.ensures.placed in
    let fault = subst (λ l. IsCauseOf (IsTypeRefusal (statements_of l)) c.in_err-book.field-0.0) c.as_slice-2.ensures c.in_err-book.ensures.fault in
    rw (e.1, e.2) (type_refused c.args.form (statements_of c.args.statements.items) c.in_err-book.field-0.0 placed fault)

pub returns-in_err-studied-clause-refused : goal.returns-in_err-studied-clause-refused
returns-in_err-studied-clause-refused c =
    let r = c.from_residual-in_err-studied in let e = err_from_is_err_and r.result r.ensures.1 in
    let placed = subst (λ l. ArePlaced c.args.form (statements_of l)) c.as_slice.ensures c.in_ok-check_places.ensures.placed in
    let typed = subst (λ l. AreTypedStatements (statements_of l)) c.as_slice-2.ensures c.in_ok-book.ensures.passes in
    let cycle = subst (λ l. IsCauseOf (IsGuardRefusal (statements_of l)) c.in_err-studied.field-0.0) c.as_slice-3.ensures c.in_err-studied.ensures.unguarded in
    rw (e.1, e.2) (guard_refused c.args.form (statements_of c.args.statements.items) c.in_err-studied.field-0.0 placed typed cycle)

pub calls_in-requires : goal.calls_in-requires
calls_in-requires c =
    let placed = subst (λ l. ArePlaced c.args.form (statements_of l)) c.as_slice.ensures c.in_ok-check_places.ensures.placed in
    record { clerks = numbers_fit c.args.form (statements_of c.args.statements.items) placed }
