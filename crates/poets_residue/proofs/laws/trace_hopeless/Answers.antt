use Rattle.poets_residue.proofs.Traces.{trace_hopeless, trace_hopeful}
use Rattle.poets_residue.proofs.laws.trace_hopeless.Goals as goal

pub returns-clause-hopeless : goal.returns-clause-hopeless
returns-clause-hopeless c = λ book marks o s study formed fit events. trace_hopeless book marks study o formed fit s events

pub returns-clause-hopeful : goal.returns-clause-hopeful
returns-clause-hopeful c = λ book marks o s study formed fit events. trace_hopeful book marks study o formed fit s events
