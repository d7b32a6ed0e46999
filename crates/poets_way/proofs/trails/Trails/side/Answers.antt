use Rattle.std.proofs.Common.{◌≡◌, ◌∙◌, ◌+◌, ◌∷◌, ◌<◌, ap, ap₂, sym, subst, length, length-append, arith, get_or, []}
use Rattle.poets_way.specs.Trails.{seconds, with_sides, sides_at, sides_of, trails_of}
use Rattle.poets_way.specs.code.Table.{HaveCounts, NodesAreEarlier, RestsAreEarlier}
use Rattle.poets_way.proofs.Tables.{counts-push, nodes-more, rests-push, sides-count, with-side}
use Rattle.poets_way.proofs.trails.Trails.side.Goals as goal

pub row_before-row-requires-clause-within : goal.row_before-row-requires-clause-within
row_before-row-requires-clause-within c =
    omega (arith, c.requires, ap (λ t. length t.sides) c.self.view_is, sides-count c.self.inside.nodes.items c.self.inside.sides.items, ap length c.as_slice.ensures)

pub invariant_of-self-2 : goal.invariant_of-self-2
invariant_of-self-2 c =
    let nodes = c.self.inside.nodes.items in
    let rows = c.self.inside.sides.items in
    let s = c.row_before-row.result in
    let made = c.row_before-row.ensures in
    let more : length rows + 1 + 1 ≡ length c.push.new.list.items + 1 = omega (arith, ap length c.in_ok-push.ensures.items, length-append rows (s ∷ [])) in
    let below : s.rest < 1 + length rows = omega (arith, made.rest, c.requires, ap (λ t. length t.sides) c.self.view_is, sides-count nodes rows) in
    let counted : s.seconds ≡ seconds (s.second ∷ get_or (sides_of rows) s.rest []) =
    made.seconds ∙ ap (λ rs. seconds (c.args.second ∷ get_or (sides_of rs) c.args.rest [])) c.as_slice.ensures
    ∙ ap₂ (λ b k. seconds (b ∷ get_or (sides_of rows) k [])) (sym made.second) (sym made.rest) in (
      subst (λ k. NodesAreEarlier 0 k nodes) more (nodes-more 0 (length rows + 1) nodes c.self.invariant.0),
      (
        subst (RestsAreEarlier 1) (sym c.in_ok-push.ensures.items) (rests-push 1 rows s c.self.invariant.1.0 below),
        subst (HaveCounts ([] ∷ [])) (sym c.in_ok-push.ensures.items) (counts-push ([] ∷ []) rows s c.self.invariant.1.1 counted),
      ),
    )

pub returns-clause-number : goal.returns-clause-number
returns-clause-number c =
    let nodes = c.self.inside.nodes.items in
    let rows = c.self.inside.sides.items in
    omega (
      arith,
      c.len.ensures,
      ap length c.in_ok-push.ensures.items,
      length-append rows (c.row_before-row.result ∷ []),
      ap (λ t. length t.sides) c.self.view_is,
      sides-count nodes rows,
    )

pub returns-clause-ok : goal.returns-clause-ok
returns-clause-ok c =
    let nodes = c.self.inside.nodes.items in
    let rows = c.self.inside.sides.items in
    let made = c.row_before-row.ensures in
    ap (trails_of nodes) c.in_ok-push.ensures.items ∙ with-side nodes rows c.row_before-row.result c.self.invariant
    ∙ ap₂ (λ t x. with_sides t x) c.self.view_is
    (ap₂ (λ t k. c.row_before-row.result.second ∷ sides_at t k) c.self.view_is made.rest ∙ ap (λ b. b ∷ sides_at c.args.self.now c.args.rest) made.second)
