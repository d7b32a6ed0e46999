use Rattle.std.proofs.Common.{◌≡◌, ◌+◌, ◌≤◌, take}
use Rattle.std.specs.Arc.{arc_value}
use Rattle.poets_syntax.specs.Applied.{CountsFit}
use Rattle.poets_syntax.specs.Book.{book_of}
use Rattle.poets_cons.specs.Table.{contract_of_rows}
use Rattle.poets_table.specs.Pieces.{joined}
use Rattle.poets_table.specs.TableView.{values_of}
use Rattle.poets_engine.specs.code.Judgements.{Owed}
use Rattle.poets_engine.specs.code.Renewals.{HaveFirst, asked_along, by_events, owed_at}
use Rattle.poets_engine.proofs.Points.{between}
use Rattle.poets_engine.proofs.withdrawal.renew.Given as goal

abbrev pub invariant-loop-place : goal.invariant-loop-place
invariant-loop-place g l = record {
  from : l.number ≤ l.place;
  owed : by_events l.studied (owed_at l.points l.number) (joined (between l.number l.place l.events.pieces)) ≡ Owed (contract_of_rows (arc_value l.owed));
  fits : CountsFit (book_of l.studied.book) (contract_of_rows (arc_value l.owed));
  points : HaveFirst l.studied (owed_at l.points l.number) (between l.number l.place l.events.pieces) (take l.number (values_of l.points)) (values_of l.made);
  asks : l.asks ≤ l.fn.asks + asked_along l.studied (owed_at l.points l.number) (joined (between l.number l.place l.events.pieces));
  rises : l.fn.asks ≤ l.asks;
}
