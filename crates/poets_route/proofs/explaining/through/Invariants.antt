use Rattle.std.proofs.Common.{◌≡◌, take}
use Rattle.poets_cons.specs.Table.{contract_of_rows}
use Rattle.poets_route.specs.code.Through.{through_in}
use Rattle.poets_route.proofs.explaining.through.Given as goal

-- the first event is taken, and so many of the others
abbrev pub invariant-loop-event : goal.invariant-loop-event
invariant-loop-event l = contract_of_rows l.last ≡ through_in l.studied (contract_of_rows l.initial.last) (take l.event-index l.event-items)
