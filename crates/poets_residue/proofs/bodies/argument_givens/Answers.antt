use Rattle.std.proofs.Common.{◌∙◌, ◌++◌, length, reverse, sym, ap}
use Rattle.std.proofs.lemmas.Slice.Zip.{zip_end}
use Rattle.poets_expr.specs.Env.{declared_of}
use Rattle.poets_residue.proofs.Arguments.{argument_givens_end}
use Rattle.poets_residue.proofs.bodies.argument_givens.Goals as goal

pub returns-clause-pairs : goal.returns-clause-pairs
returns-clause-pairs g c =
    let n = zip_end c.args.params.now c.args.args.now c.loop-param.yielded c.into_iter-param-iterator.result c.loop-param.param-iterator c.next.new.self c.next.result (cc) (cc) c.loop-param.yielded_by c.in-None.is c.next.ensures.steps in
    sym (c.loop-param.invariant.pairs
    ∙ ap (λ xs. xs ++ reverse c.loop-param.pairs.items)
    (argument_givens_end (declared_of c.args.decls.now.names) (length c.loop-param.yielded) c.args.params.now c.args.args.now n))
