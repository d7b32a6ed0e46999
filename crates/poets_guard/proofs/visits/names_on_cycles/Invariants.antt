use Rattle.std.proofs.Common.{map, take, All}
use Rattle.poets_guard.specs.code.Visited.{IsFrom, AreOpened}
use Rattle.poets_guard.proofs.visits.names_on_cycles.Given as goal

abbrev pub invariant-loop-template : goal.invariant-loop-template
invariant-loop-template l = record {
  opened : AreOpened l.graph 0 l.initial.visits l.visits;
  seen : All (IsFrom l.graph l.visits 0) (map (λ t. t.name) (take l.template-index l.template-items));
}
