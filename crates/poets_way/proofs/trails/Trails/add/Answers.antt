use Rattle.std.proofs.Common.{◌≡◌, ◌∙◌, ◌+◌, ap, sym, subst, length, arith}
use Rattle.poets_way.specs.Trails.{with_node, NamesBelow, trails_of}
use Rattle.poets_way.specs.code.Table.{NodesAreEarlier}
use Rattle.poets_way.proofs.Tables.{nodes-push, ways-count, sides-count, with-node}
use Rattle.poets_way.proofs.trails.Trails.add.Goals as goal

pub invariant_of-self-2 : goal.invariant_of-self-2
invariant_of-self-2 c =
    let nodes = c.self.inside.nodes.items in
    let rows = c.self.inside.sides.items in
    let t = trails_of nodes rows in
    let place : length nodes ≡ 0 + length nodes = omega arith in
    let names : NamesBelow (length t.ways) (length t.sides) c.args.node =
    subst (λ u. NamesBelow (length u.ways) (length u.sides) c.args.node) (sym c.self.view_is) c.requires in
    let counted : NamesBelow (0 + length nodes) (length rows + 1) c.args.node =
    subst (λ n. NamesBelow n (length rows + 1) c.args.node) (ways-count nodes rows ∙ place)
    (subst (λ k. NamesBelow (length t.ways) k c.args.node) (sides-count nodes rows) names) in (
      subst (NodesAreEarlier 0 (length rows + 1)) (sym c.in_ok-push.ensures.items)
          (nodes-push 0 (length rows + 1) nodes c.args.node c.self.invariant.0 counted),
      c.self.invariant.1,
    )

pub returns-clause-number : goal.returns-clause-number
returns-clause-number c =
    let nodes = c.self.inside.nodes.items in
    let rows = c.self.inside.sides.items in
    c.len-number.ensures ∙ sym (ways-count nodes rows) ∙ ap (λ u. length u.ways) c.self.view_is

pub returns-clause-ok : goal.returns-clause-ok
returns-clause-ok c =
    let nodes = c.self.inside.nodes.items in
    let rows = c.self.inside.sides.items in
    ap (λ ns. trails_of ns rows) c.in_ok-push.ensures.items ∙ with-node nodes rows c.args.node ∙ ap (λ u. with_node u c.args.node) c.self.view_is
