use Rattle.std.proofs.Common.{◌≡◌, ◌∙◌, ◌++◌, ap, sym, arith, get_or, [], append-nil}
use Rattle.poets_way.specs.Trails.{sides_of}
use Rattle.poets_way.proofs.Tables.{no_sides}
use Rattle.poets_way.proofs.sides.sides_from.Goals as goal

pub returns : goal.returns
returns c =
    let rows = c.args.rows.now in
    let over : c.loop-rest.rest ≡ 0 = omega (arith, c.loop-rest-test.false) in
    let none : get_or (sides_of rows) c.loop-rest.rest [] ≡ [] = ap (λ k. get_or (sides_of rows) k []) over ∙ no_sides rows in
    sym (append-nil c.loop-rest.sides.items) ∙ ap (λ s. c.loop-rest.sides.items ++ s) (sym none) ∙ c.loop-rest.invariant.told
