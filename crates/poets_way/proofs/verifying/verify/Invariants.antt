use Rattle.std.proofs.Common.{drop, map, []}
use Rattle.poets_syntax.specs.Book.{book_of}
use Rattle.poets_syntax.specs.Contract.{contract_of}
use Rattle.poets_way.specs.Ways.{Ways}
use Rattle.poets_way.specs.code.Goals.{goals_in, AreShared, IsLeft}
use Rattle.poets_way.specs.Moves.{move_of}
use Rattle.poets_way.proofs.verifying.verify.Given as goal

abbrev pub invariant-loop-step : goal.invariant-loop-step
invariant-loop-step l =
    let book = book_of l.studied.book in
    record {
      shared : AreShared l.rest;
      left : IsLeft book (map move_of (drop l.step-index l.step-items)) (goals_in l.rest) (Ways book [] (contract_of l.term) l.events.items l.way);
    }
