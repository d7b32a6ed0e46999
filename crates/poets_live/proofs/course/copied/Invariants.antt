use Rattle.std.proofs.Common.{◌≡◌, take}
use Rattle.poets_live.proofs.course.copied.Given as goal

abbrev pub invariant-loop-mark : goal.invariant-loop-mark
invariant-loop-mark l = l.copies.items ≡ take l.mark-index l.marks
