use Rattle.poets_residue.proofs.Traces.{trace_followed, trace_performed}
use Rattle.poets_residue.proofs.laws.trace_followed.Goals as goal

pub returns-clause-may : goal.returns-clause-may
returns-clause-may c = λ book marks o s s' n study formed fit events. trace_followed book marks study o formed fit s events s' n

pub returns-clause-performed : goal.returns-clause-performed
returns-clause-performed c = λ book marks o s s' study formed fit events. trace_performed book marks study o formed fit s events s'
