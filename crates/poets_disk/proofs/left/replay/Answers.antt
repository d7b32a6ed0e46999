use Rattle.std.proofs.Common.{◌∙◌}
use Rattle.poets_disk.specs.declared.memory.Mark.{Mark}
use Rattle.poets_disk.specs.declared.memory.Mark.TheVariants.{Wrote}
use Rattle.poets_disk.proofs.Picking.{first_kept, first_enough, redone}
use Rattle.poets_disk.proofs.left.replay.Goals as goal

pub redo-rest-requires-clause-kept : goal.redo-rest-requires-clause-kept
redo-rest-requires-clause-kept c = first_kept c.loop-mark.file.items c.args.marks.now c.loop-mark.mark-index (Wrote 0 0) c.loop-mark.rest.now c.loop-mark-test.true c.loop-mark.invariant.kept

pub redo-rest-requires-clause-enough : goal.redo-rest-requires-clause-enough
redo-rest-requires-clause-enough c = first_enough c.args.marks.now c.loop-mark.mark-index (Wrote 0 0) c.loop-mark.rest.now c.loop-mark-test.true c.loop-mark.invariant.enough

pub loop-mark-preserved : goal.loop-mark-preserved
loop-mark-preserved c =
    let inv = c.loop-mark.invariant in
    let e = c.redo-rest.ensures in
    let s = redone c.loop-mark.file.items c.redo-rest.new.file.items c.args.marks.now c.loop-mark.mark-index (Wrote 0 0) c.loop-mark.rest.now c.redo-rest.result.now c.loop-mark-test.true inv.kept inv.enough e.file e.left in
    record { file = s.0 ∙ inv.file; kept = s.1; enough = s.2; room = e.room; left = s.3 ∙ inv.left }
