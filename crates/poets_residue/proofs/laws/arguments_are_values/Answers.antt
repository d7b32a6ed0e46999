use Rattle.std.proofs.Common.{[], length}
use Rattle.poets_syntax.proofs.TypingRules.{contract_passes, book_passes}
use Rattle.poets_calculus.specs.Residual.{residual_after}
use Rattle.poets_residue.proofs.ReadyArguments.{operated-literals, asked_of-literals, ready_literals}
use Rattle.poets_residue.proofs.Traces.{trace_normal}
use Rattle.poets_residue.proofs.TypedResiduals.{ContractPasses-residual_after}
use Rattle.poets_residue.proofs.laws.arguments_are_values.Goals as goal

pub returns-clause-values : goal.returns-clause-values
returns-clause-values c = λ book reports marks t f args typed h normal among.
    ready_literals book reports marks (book_passes book reports typed) (length book.templates) t (contract_passes book reports [] t h) normal f args among

pub returns-clause-operated : goal.returns-clause-operated
returns-clause-operated c = λ book reports marks t f args typed h normal among.
    operated-literals book.declared args (ready_literals book reports marks (book_passes book reports typed) (length book.templates) t (contract_passes book reports [] t h) normal f args among)

pub returns-clause-asked : goal.returns-clause-asked
returns-clause-asked c = λ book reports marks t f args typed h normal among.
    asked_of-literals book f args (ready_literals book reports marks (book_passes book reports typed) (length book.templates) t (contract_passes book reports [] t h) normal f args among)

pub returns-clause-after_trace : goal.returns-clause-after_trace
returns-clause-after_trace c = λ book reports marks o s f args typed events h among.
    let rest = ContractPasses-residual_after book reports marks (book_passes book reports typed) o s events (contract_passes book reports [] o h) in
    let normal = trace_normal book marks o s in
    asked_of-literals book f args
    (ready_literals book reports marks (book_passes book reports typed) (length book.templates) (residual_after book marks o s) rest normal f args among)
