use Rattle.std.proofs.Common.{◌≡◌, [], ◌++◌, arith}
use Rattle.poets_value.specs.declared.value.Ty.TheVariants as T
use Rattle.poets_expr.specs.Expression.{expression_of}
use Rattle.poets_syntax.specs.TypeOf.{Passes}
use Rattle.poets_syntax.specs.Typed.{in_use, check_new, check_type, names_bound, types_bound}
use Rattle.poets_types.specs.code.Indices.{book_in, reports_in}
use Rattle.poets_types.specs.code.Scopes.{names_in}
use Rattle.poets_types.proofs.Checks.{passes_from_ok, fails_first}
use Rattle.poets_types.proofs.contract.+check_contract.Goals as goal

pub returns-in_err-check_type-in-Transmit : goal.returns-in_err-check_type-in-Transmit
returns-in_err-check_type-in-Transmit t c =
    let new : check_new (in_use (book_in c.args.index.now) (reports_in c.args.index.now)) [] (names_bound c.in-Transmit.binders) ≡ Passes tt = passes_from_ok _ _ (grind arith) in
    rw (c.in-Transmit.is, new) (grind (arith, fails_first))

pub returns-in_ok-check_type-in-Transmit : goal.returns-in_ok-check_type-in-Transmit
returns-in_ok-check_type-in-Transmit t c =
    let new : check_new (in_use (book_in c.args.index.now) (reports_in c.args.index.now)) [] (names_bound c.in-Transmit.binders) ≡ Passes tt = passes_from_ok _ _ (grind arith) in
    let typed : check_type (book_in c.args.index.now).declared (types_bound c.in-Transmit.binders ++ names_in c.args.scope.now) T.Bool (expression_of c.in-Transmit.when) ≡ Passes tt = passes_from_ok _ _ (grind arith) in
    rw (c.in-Transmit.is, new, typed) (rw (c.types_bound-bound.ensures, c.deref.ensures) at c.check_contract.ensures)
