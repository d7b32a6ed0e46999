use Rattle.poets_syntax.specs.Book.{book_of}
use Rattle.poets_meaning.specs.Studied.{marks_of}
use Rattle.poets_cons.specs.Table.{contract_of_rows}
use Rattle.poets_way.specs.Trails.{way_at}
use Rattle.poets_route.specs.code.Making.{Makes}
use Rattle.poets_route.proofs.Through.{BacksFrom}
use Rattle.poets_route.proofs.explaining.over_piece.Given as goal

-- the events from the k-th on are gone over
abbrev pub invariant-loop-k : goal.invariant-loop-k
invariant-loop-k l =
    Makes l.initial.trails l.trails l.way
    (BacksFrom (book_of l.studied.book) (marks_of l.studied) l.events (contract_of_rows l.fn.start) l.piece l.k (way_at l.initial.trails l.initial.way))
