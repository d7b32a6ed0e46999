use Rattle.std.proofs.Common.{◌≡◌, ◌∙◌, ap, sym, length, arith}
use Rattle.poets_way.specs.Moves.{moves_of, way_in}
use Rattle.poets_way.specs.Reading.{way_of_moves}
use Rattle.poets_way.specs.Trails.{way_at, trails_of}
use Rattle.poets_way.proofs.Tables.{ways-count}
use Rattle.poets_way.proofs.trails.Trails.way.Goals as goal

pub moves_at-requires-clause-within : goal.moves_at-requires-clause-within
moves_at-requires-clause-within c =
    omega (arith, c.requires, ap (λ t. length t.ways) c.self.view_is, ways-count c.self.inside.nodes.items c.self.inside.sides.items, ap length c.as_slice-nodes.ensures)

pub of-requires : goal.of-requires
of-requires c =
    let t = trails_of c.as_slice-nodes.result.now c.as_slice.result.now in
    let w = way_at t c.args.number in
    ap moves_of (ap way_in c.in_ok-moves.ensures ∙ way_of_moves w) ∙ sym c.in_ok-moves.ensures

pub returns : goal.returns
returns c =
    let t = trails_of c.as_slice-nodes.result.now c.as_slice.result.now in
    let same : t ≡ c.args.self.now =
    ap (λ nodes. trails_of nodes c.as_slice.result.now) c.as_slice-nodes.ensures
    ∙ ap (trails_of c.self.inside.nodes.items) c.as_slice.ensures ∙ c.self.view_is in
    c.of.ensures ∙ ap way_in c.in_ok-moves.ensures ∙ way_of_moves (way_at t c.args.number) ∙ ap (λ u. way_at u c.args.number) same
