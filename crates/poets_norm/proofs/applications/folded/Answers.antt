use Rattle.std.proofs.Common.{◌≡◌, ◌∙◌, ◌++◌, List, [], ◌∷◌, map, drop, refl, sym, ap, append-nil, arith}
use Rattle.std.proofs.Math.ListN.{drop_of_length-le}
use Rattle.poets_expr.specs.Env.{Declared, declared_of}
use Rattle.poets_expr.specs.Expression.{expression_of}
use Rattle.poets_syntax.specs.declared.term.Param.{Param}
use Rattle.poets_calculus.specs.Normal.{folded}
use Rattle.poets_norm.proofs.applications.folded.Goals as goal

folded-none : (declared : Declared) (params : List Param) → folded declared params [] ≡ []
folded-none declared [] = refl
folded-none declared (p ∷ params) = refl

pub returns-clause-value : goal.returns-clause-value
returns-clause-value g c =
    let declared = declared_of c.args.decls.now.names in
    let none : drop c.loop-place.place c.args.args.now ≡ [] = drop_of_length-le c.args.args.now (omega (arith, c.loop-place-test.false)) in
    sym (append-nil (map expression_of c.loop-place.folded.items))
    ∙ ap (λ xs. map expression_of c.loop-place.folded.items ++ xs)
    (sym (ap (λ xs. folded declared (drop c.loop-place.place c.args.params.now) (map expression_of xs)) none ∙ folded-none declared (drop c.loop-place.place c.args.params.now)))
    ∙ c.loop-place.invariant.value
