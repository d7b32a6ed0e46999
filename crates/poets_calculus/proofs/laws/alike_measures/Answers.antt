use Rattle.poets_calculus.proofs.AlikeMeasures.{Alike-nullable, Alike-size}
use Rattle.poets_calculus.proofs.laws.alike_measures.Goals as goal

pub returns : goal.returns
returns c = record { nullable = λ marks t u h. Alike-nullable marks h; size = λ t u h. Alike-size h }
