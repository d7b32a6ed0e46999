use Rattle.std.proofs.Common.{◌≡◌, ◌+◌, ◌≤◌, take}
use Rattle.std.specs.Arc.{arc_value}
use Rattle.poets_syntax.specs.Applied.{CountsFit}
use Rattle.poets_syntax.specs.Book.{book_of}
use Rattle.poets_cons.specs.Table.{contract_of_rows}
use Rattle.poets_engine.specs.code.Judgements.{Owed}
use Rattle.poets_engine.specs.code.Renewals.{asked_along, by_events}
use Rattle.poets_engine.proofs.withdrawal.go_on.Given as goal

abbrev pub invariant-loop-event : goal.invariant-loop-event
invariant-loop-event g l = record {
  owed : by_events l.studied (contract_of_rows (arc_value l.fn.owed)) (take l.event-index l.events) ≡ Owed (contract_of_rows (arc_value l.owed));
  fits : CountsFit (book_of l.studied.book) (contract_of_rows (arc_value l.owed));
  asks : l.asks ≤ l.fn.asks + asked_along l.studied (contract_of_rows (arc_value l.fn.owed)) (take l.event-index l.events);
  rises : l.fn.asks ≤ l.asks;
}
