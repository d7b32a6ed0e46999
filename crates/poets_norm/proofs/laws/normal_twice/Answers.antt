use Rattle.poets_calculus.specs.Normal.{normal}
use Rattle.poets_norm.proofs.NormalForms.{built-normal, normal_of_built}
use Rattle.poets_norm.proofs.laws.normal_twice.Goals as goal

pub returns : goal.returns
returns c = λ book marks t. normal_of_built book marks (normal book marks t) (built-normal book marks t)
