use Rattle.poets_calculus.proofs.Multisets.{Alike-refl, Alike-sym, Alike-trans}
use Rattle.poets_calculus.proofs.laws.alike_equivalence.Goals as goal

pub returns : goal.returns
returns c = record { itself = Alike-refl; both_ways = λ t u h. Alike-sym h; joined = λ t u v h k. Alike-trans h k }
