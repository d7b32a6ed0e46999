use Rattle.std.proofs.Common.{◌≡◌, ◌∙◌, List, None, false, sym, ap}
use Rattle.std.proofs.lemmas.Result.{IfOk-weaker}
use Rattle.poets_value.specs.declared.event.Event.{Event}
use Rattle.poets_syntax.specs.Book.{book_of}
use Rattle.poets_syntax.specs.Contract.{Contract}
use Rattle.poets_syntax.specs.declared.term.Term.{Term}
use Rattle.poets_meaning.specs.Studied.{StudiedBook, marks_of}
use Rattle.poets_calculus.specs.Residual.{after}
use Rattle.poets_cons.specs.declared.node.Node.{Node}
use Rattle.poets_cons.specs.Table.{contract_of_rows}
use Rattle.poets_table.specs.TableView.{RowView, row_view}
use Rattle.poets_command.specs.Plain.{Reply}
use Rattle.poets_history.specs.Ledger.{late_day}
use Rattle.poets_engine.specs.code.Judgements.{judgement_by, judge, unless_over, IsJudgementBy}
use Rattle.poets_engine.proofs.transmission.decide.Goals as goal

-- where the contract runs on and the event is not late, what is left is judged
in_time : (s : StudiedBook) (r : RowView Term (List Node)) (e : Event) (next : Contract) → r.ended ≡ false → late_day r.events e.day ≡ None →
    next ≡ after (book_of s.book) (marks_of s) e (contract_of_rows r.current) → judge s Reply.Unmatched next ≡ judgement_by s r e
in_time s r e next running timely left =
    sym (ap (λ ended. unless_over ended (late_day r.events e.day) (judge s Reply.Unmatched next)) running
    ∙ ap (λ late. unless_over false late (judge s Reply.Unmatched next)) timely)
    ∙ ap (λ c. unless_over r.ended (late_day r.events e.day) (judge s Reply.Unmatched c)) left

pub returns-clause-choice : goal.returns-clause-choice
returns-clause-choice g c =
    let s = c.args.studied.now in
    let owed = contract_of_rows c.deref.result.now in
    let left = ap (λ t. after (book_of s.book) (marks_of s) c.args.event.now (contract_of_rows t)) c.deref.ensures in
    let judged = in_time s (row_view c.args.row.now) c.args.event.now (after (book_of s.book) (marks_of s) c.args.event.now owed) c.if-row.false (sym c.in_default.ensures) left in
    IfOk-weaker c.take_event.result _ (IsJudgementBy s c.args.row.now c.args.event.now) (λ d h. h ∙ judged) c.take_event.ensures.choice
