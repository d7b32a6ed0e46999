use Rattle.std.proofs.Common.{◌≡◌}
use Rattle.poets_route.specs.code.Making.{MakesSides}
use Rattle.poets_way.specs.code.Sides.{repeated}
use Rattle.poets_route.proofs.sides.all_of.Given as goal

abbrev pub invariant-loop-event : goal.invariant-loop-event
invariant-loop-event l = MakesSides l.initial.trails l.trails l.sides (λ s. s ≡ repeated l._event l.side)
