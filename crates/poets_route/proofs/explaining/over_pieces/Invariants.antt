use Rattle.std.proofs.Common.{◌≡◌, ℕ, ◌*◌, ◌<◌, ◌≤◌, List, length, ◌++◌}
use Rattle.std.specs.List.{All}
use Rattle.poets_syntax.specs.Book.{book_of}
use Rattle.poets_syntax.specs.Contract.{Contract}
use Rattle.poets_meaning.specs.Studied.{marks_of}
use Rattle.poets_cons.specs.declared.node.Node.{Node}
use Rattle.poets_cons.specs.Table.{contract_of_rows}
use Rattle.poets_way.specs.Trails.{way_at}
use Rattle.poets_route.specs.declared.explaining.TheConstants.{PIECE}
use Rattle.poets_route.specs.code.Back.{IsReadyIn}
use Rattle.poets_route.specs.code.Making.{Makes}
use Rattle.poets_route.specs.code.Through.{AreStations}
use Rattle.poets_route.proofs.Through.{BacksFrom}
use Rattle.poets_route.proofs.explaining.over_pieces.Given as goal

-- the pieces from the end on are gone over
abbrev pub invariant-loop-start : goal.invariant-loop-start
invariant-loop-start l = record {
  ready : All (λ r. IsReadyIn l.studied (contract_of_rows r)) l.stations.items;
  rest : (more : List (List Node)) × (l.fn.stations.items ≡ l.stations.items ++ more);
  none : length l.stations.items ≡ 0 → l.end ≡ 0;
  begin : (k : ℕ) → k < length l.stations.items → PIECE * k ≤ l.end;
  within : l.end ≤ length l.events;
  made : Makes l.initial.trails l.trails l.way
      (λ w. (c : Contract) → AreStations l.studied c l.events PIECE l.fn.stations.items →
      BacksFrom (book_of l.studied.book) (marks_of l.studied) 0 c l.events l.end (way_at l.initial.trails l.initial.way) w);
}

abbrev pub decreases-loop-start : goal.decreases-loop-start
decreases-loop-start l = length l.stations.items
