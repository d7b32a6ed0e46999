use Rattle.std.proofs.Common.{◌∙◌, ap, sym, arith, length, get_or, []}
use Rattle.poets_way.specs.Trails.{sides_at}
use Rattle.poets_way.proofs.Tables.{no_sides, sides-are, sides-count}
use Rattle.poets_way.proofs.trails.Trails.no_sides.Goals as goal

pub returns-clause-within : goal.returns-clause-within
returns-clause-within c =
    let h = sides-count c.self.inside.nodes.items c.self.inside.sides.items in
    omega (arith, h, ap (λ u. length u.sides) c.self.view_is)

pub returns-clause-sides : goal.returns-clause-sides
returns-clause-sides c =
    let nodes = c.self.inside.nodes.items in
    let rows = c.self.inside.sides.items in
    ap (λ u. sides_at u 0) (sym c.self.view_is) ∙ ap (λ lists. get_or lists 0 []) (sides-are nodes rows) ∙ no_sides rows
