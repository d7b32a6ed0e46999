use Rattle.poets_residue.proofs.Traces.{trace_formed, trace_fit, trace_normal}
use Rattle.poets_residue.proofs.WholeResiduals.{trace_whole}
use Rattle.poets_residue.proofs.laws.trace_well_formed.Goals as goal

pub returns-clause-formed : goal.returns-clause-formed
returns-clause-formed c = λ book marks o s study formed fit events.
    (trace_formed book marks study o formed fit s events, trace_fit book marks study o formed fit s events)

pub returns-clause-normal : goal.returns-clause-normal
returns-clause-normal c = λ book marks o s. trace_normal book marks o s

pub returns-clause-whole : goal.returns-clause-whole
returns-clause-whole c = λ book marks o s bodies whole events. trace_whole book marks bodies o whole s events
