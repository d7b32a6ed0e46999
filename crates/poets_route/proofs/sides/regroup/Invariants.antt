use Rattle.std.proofs.Common.{length}
use Rattle.poets_route.proofs.Regrouping.{Regrouping}
use Rattle.poets_route.proofs.sides.regroup.Given as goal

abbrev pub invariant-loop-is_last : goal.invariant-loop-is_last
invariant-loop-is_last l =
    Regrouping l.initial.trails l.trails l.initial.last.items l.initial.second.items l.last.items l.second.items l.outer l.inner

abbrev pub decreases-loop-is_last : goal.decreases-loop-is_last
decreases-loop-is_last l = length l.last.items
