use Rattle.std.proofs.Common.{[], refl}
use Rattle.poets_meaning.proofs.Shapes.{May-shape, Perf-shape, SameShape-sym}
use Rattle.poets_meaning.proofs.laws.nullable_and_hopeful_by_shape.Goals as goal

pub returns : goal.returns
returns c = record {
  nullable = λ book t t' h. ((λ p. Perf-shape h [] p), (λ p. Perf-shape (SameShape-sym h) [] p));
  hopeful = λ book t t' h. ((λ m. (m.0, May-shape h m.1 refl [])), (λ m. (m.0, May-shape (SameShape-sym h) m.1 refl [])));
}
