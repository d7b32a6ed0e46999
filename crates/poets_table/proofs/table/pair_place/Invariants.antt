use Rattle.poets_table.proofs.Logs.{IsAhead}
use Rattle.poets_table.proofs.table.pair_place.Given as goal

abbrev pub invariant-loop-at : goal.invariant-loop-at
invariant-loop-at l = IsAhead l.number l.behind l.left l.at l.log
