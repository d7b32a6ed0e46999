use Rattle.std.proofs.Common.{refl}
use Rattle.poets_meaning.proofs.Shapes.{May-shape, SameShape-sym}
use Rattle.poets_meaning.proofs.laws.granted_by_shape.Goals as goal

pub returns : goal.returns
returns c = λ book env env' t t' n h. ((λ m. May-shape h m refl env'), (λ m. May-shape (SameShape-sym h) m refl env))
