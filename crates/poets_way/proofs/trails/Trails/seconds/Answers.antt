use Rattle.std.proofs.Common.{◌∙◌, ap, sym, length, get_or, [], arith}
use Rattle.poets_way.specs.Trails.{seconds, sides_at, sides_of}
use Rattle.poets_way.proofs.Tables.{sides-are, sides-count}
use Rattle.poets_way.proofs.trails.Trails.seconds.Goals as goal

pub seconds_of-requires-clause-within : goal.seconds_of-requires-clause-within
seconds_of-requires-clause-within c =
    omega (arith, c.requires, ap (λ t. length t.sides) c.self.view_is, sides-count c.self.inside.nodes.items c.self.inside.sides.items, ap length c.as_slice.ensures)

pub returns : goal.returns
returns c =
    let nodes = c.self.inside.nodes.items in
    let rows = c.self.inside.sides.items in
    c.seconds_of.ensures.seconds ∙ ap (λ rs. seconds (get_or (sides_of rs) c.args.sides [])) c.as_slice.ensures
    ∙ ap (λ lists. seconds (get_or lists c.args.sides [])) (sym (sides-are nodes rows)) ∙ ap (λ t. seconds (sides_at t c.args.sides)) c.self.view_is
