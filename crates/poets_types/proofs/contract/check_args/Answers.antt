use Rattle.std.proofs.Common.{◌∙◌, length, refl}
use Rattle.std.proofs.lemmas.Slice.Zip.{zip_end}
use Rattle.poets_expr.specs.Env.{declared_of}
use Rattle.poets_types.specs.code.Scopes.{names_in}
use Rattle.poets_types.proofs.Arguments.{check_args_end}
use Rattle.poets_types.proofs.contract.check_args.Goals as goal

pub returns : goal.returns
returns c =
    let n = zip_end c.args.params.now c.args.args.now c.loop-param.yielded c.into_iter-param-iterator.result c.loop-param.param-iterator c.next.new.self c.next.result (cc) (cc) c.loop-param.yielded_by c.in-None.is c.next.ensures.steps in
    rw (c.loop-param.invariant ∙ check_args_end (declared_of c.args.decls.now.names) (names_in c.args.scope.now) (length c.loop-param.yielded) c.args.params.now c.args.args.now n) refl
