use Rattle.std.proofs.Common.{◌∙◌, ◌+◌, ap, sym, subst, length, arith}
use Rattle.poets_way.specs.Trails.{NamesBelow}
use Rattle.poets_way.proofs.Tables.{ways-count, sides-count}
use Rattle.poets_way.proofs.trails.Trails.node.Goals as goal

pub node_at-requires-clause-within : goal.node_at-requires-clause-within
node_at-requires-clause-within c =
    omega (arith, c.requires, ap (λ t. length t.ways) c.self.view_is, ways-count c.self.inside.nodes.items c.self.inside.sides.items, ap length c.as_slice.ensures)

pub returns-clause-parts : goal.returns-clause-parts
returns-clause-parts c =
    subst (λ k. NamesBelow c.args.way k c.node_at.result)
    (ap (λ rows. length rows + 1) c.as_slice-2.ensures ∙ sym (sides-count c.self.inside.nodes.items c.self.inside.sides.items) ∙ ap (λ t. length t.sides) c.self.view_is)
    c.node_at.ensures.names
