use Rattle.poets_types.proofs.Demanded.{term_fault}
use Rattle.poets_types.proofs.TypedAnswers.{contract_told}
use Rattle.poets_types.proofs.command.check_term.Goals as goal

pub returns-clause-passes : goal.returns-clause-passes
returns-clause-passes c = contract_told _ _ _ c.check_contract.result (rw (c.in_ok-index.ensures.book, c.in_ok-index.ensures.reports) at c.check_contract.ensures)

pub returns-clause-fault : goal.returns-clause-fault
returns-clause-fault c =
    term_fault c.args.book.now c.args.reports.now c.args.term.now c.check_contract.result (rw (c.in_ok-index.ensures.book, c.in_ok-index.ensures.reports) at c.check_contract.ensures)
