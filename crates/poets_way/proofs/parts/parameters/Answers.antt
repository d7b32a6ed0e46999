use Rattle.std.proofs.Common.{◌∙◌, ◌++◌, length, reverse, sym, ap}
use Rattle.std.proofs.lemmas.Slice.Zip.{zip_end}
use Rattle.poets_expr.specs.Env.{declared_of}
use Rattle.poets_expr.specs.Val.{val}
use Rattle.poets_way.proofs.Sharing.{parameter_env_end}
use Rattle.poets_way.proofs.parts.parameters.Goals as goal

pub returns : goal.returns
returns c =
    let env = c.args.env.now in
    let n = zip_end c.args.params.now c.args.args.now c.loop-param.yielded c.into_iter-param-iterator.result c.loop-param.param-iterator c.next.new.self c.next.result (cc) (cc) c.loop-param.yielded_by c.in-None.is c.next.ensures.steps in
    sym (sym c.loop-param.invariant ∙ ap (λ xs. xs ++ reverse c.loop-param.pairs.items)
    (parameter_env_end (val (declared_of env.decls.now.names) (reverse env.pairs.now)) (length c.loop-param.yielded) c.args.params.now c.args.args.now n))
