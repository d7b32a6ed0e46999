use Rattle.std.proofs.Common.{◌∙◌, ◌++◌, ap, sym, arith}
use Rattle.poets_table.specs.Pieces.{joined}
use Rattle.poets_engine.proofs.Accounted.{listed_more}
use Rattle.poets_engine.proofs.Points.{between-all, between-none}
use Rattle.poets_engine.proofs.accounts.listed.Goals as goal

pub loop-place-init : goal.loop-place-init
loop-place-init c = c.new-list.ensures ∙ sym (ap joined (between-none 0 c.args.events.now.pieces))

pub loop-place-preserved : goal.loop-place-preserved
loop-place-preserved c =
    let pieces = c.args.events.now.pieces in
    let piece = c.in-Some.piece.now in
    c.in_ok-add_piece.ensures ∙ ap (λ xs. xs ++ piece) c.loop-place.invariant ∙ sym (listed_more c.loop-place.place pieces piece c.in-Some.ensures.found)

pub returns : goal.returns
returns c =
    let over = c.loop-place-test.false in
    let count = c.piece_count-place-end.ensures.count in
    c.loop-place.invariant ∙ ap joined (between-all 0 c.loop-place.place c.args.events.now.pieces (omega (arith, over, count)))
