-- Alike contracts have one weight.
use Rattle.std.proofs.Common.{◌≡◌, ℕ, ◌+◌, List, [], ◌∷◌, refl, ap, ap₂, arith}
use Rattle.poets_syntax.specs.Contract.{Contract}
use Rattle.poets_syntax.specs.Contract as C
use Rattle.poets_meaning.specs.Between.{Between}
use Rattle.poets_meaning.proofs.Interleavings.{Between-append}
use Rattle.poets_calculus.specs.Alike.{Alike, AreAlike, parts}
use Rattle.poets_cons.specs.code.Forms.{weight}

-- each part counts, and the `||` before it
abbrev weights : List Contract → ℕ
weights [] = 0
weights (c ∷ cs) = 1 + weight c + weights cs

weights-between : {cs ds es : List Contract} → Between cs ds es → weights es ≡ weights cs + weights ds
weights-between Between.Empty = refl
weights-between (Between.First i) = omega (arith, weights-between i)
weights-between (Between.Second i) = omega (arith, weights-between i)

weights-parts : (c : Contract) → weights (parts c) ≡ 1 + weight c
weights-parts (C.Par a b) = omega (arith, weights-between (Between-append (parts a) (parts b)), weights-parts a, weights-parts b)
weights-parts C.Success = refl
weights-parts C.Failure = refl
weights-parts (C.Transmit b p c) = omega arith
weights-parts (C.Plus a b) = omega arith
weights-parts (C.Seq a b) = omega arith
weights-parts (C.App f args) = omega arith

par_weight : (a b c d : Contract) → weights (parts (C.Par a b)) ≡ weights (parts (C.Par c d)) → weight (C.Par a b) ≡ weight (C.Par c d)
par_weight a b c d e = omega (arith, e, weights-parts (C.Par a b), weights-parts (C.Par c d))

mutual
  pub Alike-weight : {c d : Contract} → Alike c d → weight c ≡ weight d
  Alike-weight Alike.Success = refl
  Alike-weight Alike.Failure = refl
  Alike-weight (Alike.Transmit h) = ap (λ n. 1 + n) (Alike-weight h)
  Alike-weight (Alike.Plus h k) = ap₂ (λ m n. 1 + m + n) (Alike-weight h) (Alike-weight k)
  Alike-weight (Alike.Par {a = a} {b = b} {c = c} {d = d} h) = par_weight a b c d (AreAlike-weights h)
  Alike-weight (Alike.Seq h k) = ap₂ (λ m n. 1 + m + n) (Alike-weight h) (Alike-weight k)
  Alike-weight Alike.App = refl

  AreAlike-weights : {cs ds : List Contract} → AreAlike cs ds → weights cs ≡ weights ds
  AreAlike-weights AreAlike.None = refl
  AreAlike-weights (AreAlike.One h i k) = omega (arith, Alike-weight h, weights-between i, AreAlike-weights k)
