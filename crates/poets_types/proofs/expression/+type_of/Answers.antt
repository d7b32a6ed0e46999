use Rattle.std.proofs.Common.{◌≡◌, arith}
use Rattle.poets_expr.specs.Env.{declared_of}
use Rattle.poets_expr.specs.Expression.{expression_of}
use Rattle.poets_syntax.specs.TypeOf.{type_of, Passes}
use Rattle.poets_types.specs.code.Scopes.{names_in}
use Rattle.poets_types.proofs.Checks.{passes_from_ok}
use Rattle.poets_types.proofs.expression.+type_of.Goals as goal

pub returns-in_ok-type_of-in-Op-2 : goal.returns-in_ok-type_of-in-Op-2
returns-in_ok-type_of-in-Op-2 t c =
    let a : type_of (declared_of c.args.decls.now.names) (names_in c.args.scope.now) (expression_of c.in-Op.a.value) ≡ Passes c.in_ok-type_of-in-Op.field-0 = passes_from_ok _ _ (grind arith) in
    let b : type_of (declared_of c.args.decls.now.names) (names_in c.args.scope.now) (expression_of c.in-Op.b.value) ≡ Passes c.in_ok-type_of-in-Op-2.field-0 = passes_from_ok _ _ (grind arith) in
    rw (c.in-Op.is, a, b) c.binary_type.ensures

pub returns-in_ok-type_of-in-If-3 : goal.returns-in_ok-type_of-in-If-3
returns-in_ok-type_of-in-If-3 t c =
    let a : type_of (declared_of c.args.decls.now.names) (names_in c.args.scope.now) (expression_of c.in-If.a.value) ≡ Passes c.in_ok-type_of-in-If.field-0 = passes_from_ok _ _ (grind arith) in
    let b : type_of (declared_of c.args.decls.now.names) (names_in c.args.scope.now) (expression_of c.in-If.b.value) ≡ Passes c.in_ok-type_of-in-If-2.field-0 = passes_from_ok _ _ (grind arith) in
    let d : type_of (declared_of c.args.decls.now.names) (names_in c.args.scope.now) (expression_of c.in-If.c.value) ≡ Passes c.in_ok-type_of-in-If-3.field-0 = passes_from_ok _ _ (grind arith) in
    rw (c.in-If.is, a, b, d) c.if_type.ensures
