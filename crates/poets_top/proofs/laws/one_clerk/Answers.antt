use Rattle.poets_top.proofs.Owning.{one_clerk}
use Rattle.poets_top.proofs.Repeating.{one_run}
use Rattle.poets_top.proofs.laws.one_clerk.Goals as goal

pub returns-clause-calls : goal.returns-clause-calls
returns-clause-calls c = one_clerk

pub returns-clause-run : goal.returns-clause-run
returns-clause-run c = one_run
