use Rattle.std.proofs.Common.{map, take, All}
use Rattle.poets_guard.specs.code.Graph.{HasEdge}
use Rattle.poets_guard.specs.FirstCycle.{LiesOnCycle}
use Rattle.poets_guard.proofs.cycles.first_cycle.Given as goal

abbrev pub invariant-loop-template : goal.invariant-loop-template
invariant-loop-template l = All (λ f. ¬ (LiesOnCycle (HasEdge l.graph) f)) (map (λ t. t.name) (take l.template-index l.template-items))
