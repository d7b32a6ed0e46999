use Rattle.std.proofs.Common.{◌+◌, take, subst, sym}
use Rattle.poets_disk.specs.code.Marks.{AreSplitAt}
use Rattle.poets_disk.specs.declared.memory.Mark.TheVariants.{Wrote}
use Rattle.poets_disk.proofs.Picking.{split_here, split_on}
use Rattle.poets_disk.proofs.left.synced.Goals.{in-Synced, in_default}
use Rattle.poets_disk.proofs.left.synced.Goals as goal

pub loop-place-preserved : goal.loop-place-preserved
loop-place-preserved c = elim c.match-mark.branch [
  | in-Synced w ↦
      subst (λ n. AreSplitAt n (take (c.loop-place.place + 1) c.args.marks.now)) (sym w.count-is)
      (split_here c.args.marks.now c.loop-place.place (Wrote 0 0) c.loop-place-test.true w.in-Synced.is)
  | in_default w ↦
      subst (λ n. AreSplitAt n (take (c.loop-place.place + 1) c.args.marks.now)) (sym w.count-is)
      (split_on c.args.marks.now c.loop-place.count c.loop-place.place (Wrote 0 0) c.loop-place-test.true c.loop-place.invariant w.in_default.not-Synced)
]
