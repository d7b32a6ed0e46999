use Rattle.poets_types.proofs.Demanded.{command_fault}
use Rattle.poets_types.proofs.TypedAnswers.{command_told}
use Rattle.poets_types.proofs.command.check_call.Goals as goal

pub returns-clause-passes : goal.returns-clause-passes
returns-clause-passes c = command_told _ _ _ c.check_command.result (rw (c.in_ok-index.ensures.book, c.in_ok-index.ensures.reports) at c.check_command.ensures)

pub returns-clause-fault : goal.returns-clause-fault
returns-clause-fault c =
    command_fault c.args.book.now c.args.reports.now c.args.command.now c.check_command.result (rw (c.in_ok-index.ensures.book, c.in_ok-index.ensures.reports) at c.check_command.ensures)
