use Rattle.std.proofs.Common.{take}
use Rattle.poets_disk.specs.code.Marks.{AreSplitAt}
use Rattle.poets_disk.proofs.left.synced.Given as goal

abbrev pub invariant-loop-place : goal.invariant-loop-place
invariant-loop-place l = AreSplitAt l.count (take l.place l.marks)
