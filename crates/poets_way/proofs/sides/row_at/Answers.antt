use Rattle.std.proofs.Common.{◌≡◌, ◌+◌, ◌-◌, ◌∷◌, [], subst, get_or, arith}
use Rattle.poets_way.specs.Trails.{sides_of}
use Rattle.poets_way.proofs.Tables.{sides-at}
use Rattle.poets_way.proofs.sides.row_at.Goals as goal

pub returns-clause-sides : goal.returns-clause-sides
returns-clause-sides c =
    let rows = c.args.rows.now in
    let place : 1 + (c.args.number - 1) ≡ c.args.number = omega (arith, c.requires.some) in
    subst (λ k. get_or (sides_of rows) k [] ≡ c.nth.result.second ∷ get_or (sides_of rows) c.nth.result.rest []) place
    (sides-at rows c.requires.rows (c.args.number - 1) c.nth.result c.nth.ensures).0

pub returns-clause-rest : goal.returns-clause-rest
returns-clause-rest c =
    let h = (sides-at c.args.rows.now c.requires.rows (c.args.number - 1) c.nth.result c.nth.ensures).1 in
    omega (arith, h, c.requires.some)
