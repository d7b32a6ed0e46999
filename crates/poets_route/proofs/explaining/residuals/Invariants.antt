use Rattle.std.proofs.Common.{◌≡◌, ℕ, List, length, take, Some}
use Rattle.std.specs.List.{slice_get}
use Rattle.poets_cons.specs.declared.node.Node.{Node}
use Rattle.poets_cons.specs.Table.{contract_of_rows}
use Rattle.poets_route.specs.code.Through.{through_in}
use Rattle.poets_route.proofs.explaining.residuals.Given as goal

abbrev pub invariant-loop-event : goal.invariant-loop-event
invariant-loop-event l = record {
  count : length l.rows.items ≡ l.event-index;
  each : (k : ℕ) (r : List Node) → slice_get l.rows.items k ≡ Some r → contract_of_rows r ≡ through_in l.studied (contract_of_rows l.fn.start) (take k l.events);
  last : contract_of_rows l.last ≡ through_in l.studied (contract_of_rows l.fn.start) (take l.event-index l.events);
}
