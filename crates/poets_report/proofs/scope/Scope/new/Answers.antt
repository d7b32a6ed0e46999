use Rattle.std.proofs.Common.{◌∙◌, ◌++◌, length, reverse, sym, ap}
use Rattle.std.proofs.lemmas.Slice.Zip.{zip_end}
use Rattle.poets_report.proofs.ParameterPairs.{parameter_env_end}
use Rattle.poets_report.proofs.scope.Scope.new.Goals as goal

pub returns : goal.returns
returns c =
    let n = zip_end c.args.params.now c.args.args.now c.loop-param.yielded c.into_iter-param-iterator.result c.loop-param.param-iterator c.next.new.self c.next.result (cc) (cc) c.loop-param.yielded_by c.in-None.is c.next.ensures.steps in
    ap reverse c.reserve.ensures.items
    ∙ sym (c.loop-param.invariant ∙ ap (λ xs. xs ++ reverse c.loop-param.pairs.items) (parameter_env_end (length c.loop-param.yielded) c.args.params.now c.args.args.now n))
