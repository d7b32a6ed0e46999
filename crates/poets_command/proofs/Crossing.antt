-- Commands and replies may be handed to another thread.
use denote.Param.Send.{IsSend, IsSync, sendable}
use Rattle.std.proofs.Crossing.{crosses}
use Rattle.poets_expr.proofs.expr.Expr.TheLaws.TheKnot as expressions
use Rattle.poets_expr.proofs.expr.Op.TheSendSync as op
use Rattle.poets_syntax.proofs.term.Term.TheLaws.TheKnot as contracts
use Rattle.poets_report.proofs.report.Answer.TheSendSync as answer
use Rattle.poets_command.specs.contracts.call.Command as Command
use Rattle.poets_command.specs.contracts.call.Folio as Folio
use Rattle.poets_command.specs.contracts.call.Reply as Reply

-- what types with expressions and contracts in them are made of
pub ruleset parts = (op.the_field_send, op.the_field_sync, expressions.crosses, contracts.crosses, crosses, sendable)

-- a command may be sent
pub command_send : IsSend Command.the_row
command_send = search parts depth 60 fits 20000

-- and shared
pub command_sync : IsSync Command.the_row
command_sync = search parts depth 60 fits 20000

-- the answers to a report over several contracts
folio_send : IsSend (Folio.the_field).row
folio_send = search (answer.the_send, parts) depth 60 fits 20000

-- a reply may be sent, by itself and as a part
pub reply_send : IsSend (Reply.the_field).row
reply_send = search (answer.the_field_send, folio_send, parts) depth 60 fits 20000
