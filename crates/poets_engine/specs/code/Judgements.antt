-- Which contracts are owed after a registration or a transmission.
use Rattle.std.specs.Arc.{arc_value}
use Rattle.std.specs.Prelude.{◌≡◌, Bool, true, false, ℤ, Option, Some, None, List, All}
use Rattle.poets_value.specs.declared.event.Event.{Event}
use Rattle.poets_syntax.specs.Contract.{Contract, Failure}
use Rattle.poets_syntax.specs.declared.term.Term.{Term}
use Rattle.poets_syntax.specs.Applied.{CountsFit}
use Rattle.poets_syntax.specs.Plain.{Book}
use Rattle.poets_syntax.specs.Book.{book_of}
use Rattle.poets_meaning.specs.Studied.{StudiedBook, marks_of}
use Rattle.poets_calculus.specs.Residual.{after}
use Rattle.poets_cons.specs.declared.node.Node.{Node}
use Rattle.poets_cons.specs.Table.{contract_of_rows}
use Rattle.poets_table.specs.TableView.{RowView, row_view}
use Rattle.poets_table.specs.declared.table.Row.{Row}
use Rattle.poets_command.specs.Plain.{Reply}
use Rattle.poets_command.specs.declared.call.Reply.{Reply as CodeReply}
use Rattle.poets_command.specs.Calls.{reply_of}
use Rattle.poets_history.specs.Ledger.{late_day}
use Rattle.poets_residue.specs.Limits.{is_past_limit_in}
use Rattle.poets_engine.specs.declared.judging.Decision.{Decision}
use Rattle.poets_engine.specs.declared.judging.Decision.TheVariants as D

-- a refusal, or the contract that is owed from then on
pub data Judgement : Type 0 where
  Refused : Reply → Judgement
  Owed : Contract → Judgement

abbrev pub judgement_of : Decision → Judgement
judgement_of (D.Refused reply) = Refused (reply_of reply)
judgement_of (D.Owed rows) = Owed (contract_of_rows (arc_value rows))

abbrev pub is_failure : Contract → Bool
is_failure Failure = true
is_failure _ = false

abbrev pub judged : Reply → Bool → Bool → Contract → Judgement
judged refusal true is_past c = Refused refusal
judged refusal false true c = Refused Reply.TooLarge
judged refusal false false c = Owed c

-- a contract that no number of granted steps performs is refused, and one that is past the limit
abbrev pub judge : StudiedBook → Reply → Contract → Judgement
judge s refusal c = judged refusal (is_failure c) (is_past_limit_in s c) c

-- a contract that the rows hold is refused where no number of granted steps performs it, and where
-- it is past the limit
abbrev pub judge_rows : StudiedBook → CodeReply → List Node → Judgement
judge_rows s refusal rows = judge s (reply_of refusal) (contract_of_rows rows)

-- a contract that is kept: the numbers of arguments fit in it, and it is not past the limit
abbrev pub IsKept : StudiedBook → Contract → Type 0
IsKept s c = CountsFit (book_of s.book) c × (is_past_limit_in s c ≡ false)

-- the residual of each row is one
abbrev pub AreKept : StudiedBook → List (RowView Term (List Node)) → Type 0
AreKept s rows = All (λ r. IsKept s (contract_of_rows r.current)) rows

-- the decision is what becomes of what the rows owe by the event
abbrev pub IsDecisionOn : StudiedBook → List Node → Event → Decision → Type 0
IsDecisionOn s rows e decision =
    judgement_of decision ≡ judge s Reply.Unmatched (after (book_of s.book) (marks_of s) e (contract_of_rows rows))

-- the numbers of arguments fit in what was chosen
abbrev pub KeptFits : Book → Judgement → Type 0
KeptFits book (Refused refusal) = Unit {0}
KeptFits book (Owed c) = CountsFit book c

abbrev pub unless_over : Bool → Option ℤ → Judgement → Judgement
unless_over true late next = Refused Reply.Ended
unless_over false (Some day) next = Refused (Reply.Late day)
unless_over false None next = next

-- what becomes of a contract's row by an event
abbrev pub judgement_by : StudiedBook → RowView Term (List Node) → Event → Judgement
judgement_by s r e =
    unless_over r.ended (late_day r.events e.day)
    (judge s Reply.Unmatched (after (book_of s.book) (marks_of s) e (contract_of_rows r.current)))

-- the decision is what becomes of the contract's row by the event
abbrev pub IsJudgementBy : StudiedBook → Row Term (List Node) → Event → Decision → Type 0
IsJudgementBy s row e decision = judgement_of decision ≡ judgement_by s (row_view row) e
