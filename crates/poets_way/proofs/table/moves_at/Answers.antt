use Rattle.std.proofs.Common.{◌≡◌, ◌∙◌, ◌<◌, ◌≤◌, ◌+◌, ◌++◌, ◌∷◌, [], ap, sym, subst, map, length, reverse, arith, append_assoc}
use Rattle.std.specs.List.{AllByRecursion}
use Rattle.std.proofs.lemmas.List.{map-append, reverse-append}
use Rattle.poets_way.specs.Moves.{moves_of, move_of}
use Rattle.poets_way.specs.Trails.{way_at, sides_of, trails_of}
use Rattle.poets_way.specs.code.Table.{head_of, moves_at, parts_of}
use Rattle.poets_way.proofs.Flat.{moves-parts, parts-within}
use Rattle.poets_way.proofs.Tables.{sides-are}
use Rattle.poets_way.proofs.table.moves_at.Goals as goal

pub loop-next-preserved : goal.loop-next-preserved
loop-next-preserved c =
    let nodes = c.args.nodes.now in
    let rows = c.args.rows.now in
    let t = trails_of nodes rows in
    let next = c.in-Some.next in
    let node = c.node_at-node.result in
    let rest = reverse c.pop.new.self.items in
    let before : reverse c.loop-next.left.items ≡ next ∷ rest = ap reverse c.in-Some.ensures.some ∙ reverse-append c.pop.new.self.items (next ∷ []) in
    let now = c.in_ok-push_parts.ensures in
    let within = subst (AllByRecursion (λ n. n < length nodes)) before c.loop-next.invariant.within in
    let told = c.in_ok-push-2.ensures.items in
    let low : next ≤ length nodes = omega (arith, within.0) in
    let step : moves_of (way_at t next) ++ moves_at t rest ≡ head_of (sides_of rows) node ∷ moves_at t (parts_of node ++ rest) =
    ap (λ w. moves_of w ++ moves_at t rest) c.node_at-node.ensures.way ∙ moves-parts t node rest
    ∙ ap (λ lists. head_of lists node ∷ moves_at t (parts_of node ++ rest)) (sides-are nodes rows) in
    let old = map move_of c.loop-next.moves.items in
    record {
      within = subst (AllByRecursion (λ n. n < length nodes)) (sym now)
          (parts-within next (length rows + 1) (length nodes) node rest c.node_at-node.ensures.names low within.1);
      told = ap (λ ms. map move_of ms ++ moves_at t (reverse c.push_parts.new.left.items)) told
          ∙ ap (λ ms. ms ++ moves_at t (reverse c.push_parts.new.left.items)) (map-append move_of c.loop-next.moves.items (c.in_ok-head.field-0 ∷ []))
          ∙ append_assoc old (move_of c.in_ok-head.field-0 ∷ []) (moves_at t (reverse c.push_parts.new.left.items))
          ∙ ap (λ m. old ++ m ∷ moves_at t (reverse c.push_parts.new.left.items)) c.in_ok-head.ensures
          ∙ ap (λ ns. old ++ head_of (sides_of rows) node ∷ moves_at t ns) now
          ∙ ap (λ ms. old ++ ms) (sym step)
          ∙ ap (λ ns. old ++ moves_at t ns) (sym before)
          ∙ c.loop-next.invariant.told;
    }
