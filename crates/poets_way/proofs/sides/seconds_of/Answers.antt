use Rattle.std.proofs.Common.{◌≡◌, ◌∙◌, ◌+◌, ◌-◌, [], ap, sym, subst, get_or, arith}
use Rattle.poets_way.specs.Trails.{seconds, sides_of}
use Rattle.poets_way.proofs.Tables.{no_sides, sides-count_at, sides-few}
use Rattle.poets_way.proofs.sides.seconds_of.Goals as goal

pub returns-then-number-eq0-clause-seconds : goal.returns-then-number-eq0-clause-seconds
returns-then-number-eq0-clause-seconds c =
    let rows = c.args.rows.now in
    sym (ap seconds (ap (λ k. get_or (sides_of rows) k []) c.if-number-eq0.true ∙ no_sides rows))

pub returns-clause-seconds : goal.returns-clause-seconds
returns-clause-seconds c =
    let rows = c.args.rows.now in
    let place : 1 + (c.args.number - 1) ≡ c.args.number = omega (arith, c.if-number-eq0.false) in
    subst (λ k. c.nth.result.seconds ≡ seconds (get_or (sides_of rows) k [])) place
    (sides-count_at rows c.requires.counts (c.args.number - 1) c.nth.result c.nth.ensures)

pub returns-clause-few : goal.returns-clause-few
returns-clause-few c =
    let few = sides-few c.args.rows.now c.requires.rows c.args.number in
    omega (arith, few, returns-clause-seconds c)
