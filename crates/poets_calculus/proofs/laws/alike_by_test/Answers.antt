use Rattle.poets_calculus.proofs.AlikeTests.{alike_iff}
use Rattle.poets_calculus.proofs.laws.alike_by_test.Goals as goal

pub returns : goal.returns
returns c = alike_iff
