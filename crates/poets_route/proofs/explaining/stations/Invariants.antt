use Rattle.std.proofs.Common.{◌≡◌, ◌-◌, ◌*◌, ◌<◌, ◌≤◌, length, take}
use Rattle.poets_cons.specs.Table.{contract_of_rows}
use Rattle.poets_route.specs.declared.explaining.TheConstants.{PIECE}
use Rattle.poets_route.specs.code.Through.{through_in, AreStations}
use Rattle.poets_route.proofs.explaining.stations.Given as goal

-- all pieces but the last one are whole
abbrev pub invariant-loop-at : goal.invariant-loop-at
invariant-loop-at l = record {
  within : l.at ≤ length l.events;
  whole : l.at < length l.events → l.at ≡ PIECE * length l.stations.items;
  some : length l.stations.items ≡ 0 → l.at ≡ 0;
  stations : AreStations l.studied (contract_of_rows l.fn.start) l.events PIECE l.stations.items;
  last : contract_of_rows l.last ≡ through_in l.studied (contract_of_rows l.fn.start) (take l.at l.events);
}

abbrev pub decreases-loop-at : goal.decreases-loop-at
decreases-loop-at l = length l.events - l.at
