-- Histories and calls, as plain data.
use Rattle.std.specs.Prelude.{ℕ, nat_eq, List, map, filter}
use Rattle.std.specs.Arc.{arc_value}
use Rattle.poets_value.specs.declared.value.Name.{Name}
use Rattle.poets_expr.specs.Expression.{expression_of}
use Rattle.poets_syntax.specs.Contract.{contract_of}
use Rattle.poets_report.specs.Answers.{answer_of}
use Rattle.poets_report.specs.declared.report.Answer.{Answer}
use Rattle.poets_command.specs.Plain as plain
use Rattle.poets_command.specs.declared.call.Command.{Command}
use Rattle.poets_command.specs.declared.call.Command.TheVariants as C
use Rattle.poets_command.specs.declared.call.Reply.{Reply}
use Rattle.poets_command.specs.declared.call.Reply.TheVariants as R
use Rattle.poets_command.specs.declared.call.Entry.{Entry}

-- `Command` as plain data, without boxes
abbrev pub command_of : Command → plain.Command
command_of (C.Register x term) = plain.Register x (contract_of (arc_value term))
command_of (C.Transmit x e) = plain.Transmit x e
command_of (C.Void x place) = plain.Void x place
command_of (C.End x) = plain.End x
command_of (C.Show x) = plain.Show x
command_of (C.Tally q args) = plain.Tally q (map expression_of args.items)
command_of (C.Portfolio q args over) = plain.Portfolio q (map expression_of args.items) over.items
command_of (C.Watch q args) = plain.Watch q (map expression_of args.items)
command_of (C.Read n) = plain.Read n

-- a contract's row of a portfolio as plain data
abbrev pub folio_row_of : Name × Answer → Name × plain.Answer
folio_row_of row = (row.0, answer_of row.1)

-- `Reply` as plain data, without boxes
abbrev pub reply_of : Reply → plain.Reply
reply_of (R.Registered n) = plain.Registered n
reply_of (R.NameTaken n) = plain.NameTaken n
reply_of R.Hopeless = plain.Hopeless
reply_of R.TooLarge = plain.TooLarge
reply_of (R.Recorded n may_end) = plain.Recorded n may_end
reply_of (R.Voided n may_end) = plain.Voided n may_end
reply_of (R.NoEvent n) = plain.NoEvent n
reply_of (R.NoContract x) = plain.NoContract x
reply_of R.Ended = plain.Ended
reply_of (R.Late d) = plain.Late d
reply_of R.Unmatched = plain.Unmatched
reply_of R.EndedNow = plain.EndedNow
reply_of R.AlreadyEnded = plain.AlreadyEnded
reply_of R.NotPerformed = plain.NotPerformed
reply_of (R.Shown term n may_end ended) = plain.Shown (contract_of term) n may_end ended
reply_of (R.Answered a) = plain.Answered (answer_of a)
reply_of (R.Folio f) = plain.Folio (map folio_row_of f.rows.items) f.total
reply_of (R.Watching n) = plain.Watching n
reply_of (R.NoWatch n) = plain.NoWatch n

-- `Entry` as plain data, without boxes
abbrev pub entry_of : Entry → plain.Entry
entry_of e = record {
  clerk = e.clerk;
  command = command_of (arc_value e.command);
  reply = reply_of e.reply;
}

-- a history as plain data
abbrev pub history_of : List Entry → List plain.Entry
history_of entries = map entry_of entries

-- a call: a clerk's number and a command
abbrev pub Call : Type 0
Call = ℕ × plain.Command

-- the entries without their replies
abbrev pub calls_of : List plain.Entry → List Call
calls_of h = map (λ e. (e.clerk, e.command)) h

-- the commands of one clerk among calls, in order
abbrev pub own_calls : ℕ → List Call → List plain.Command
own_calls clerk calls = map (λ c. c.1) (filter (λ c. nat_eq c.0 clerk) calls)

-- the commands of one clerk in a history, in order
abbrev pub own : ℕ → List plain.Entry → List plain.Command
own clerk h = own_calls clerk (calls_of h)
