-- What alike contracts have alike: their size, and whether the empty trace performs them by the marks of their
-- templates.
use Rattle.std.proofs.Common.{◌≡◌, ℕ, ◌+◌, Bool, true, false, ◌&&◌, ◌||◌, List, [], ◌∷◌, refl, sym, ◌∙◌, ap, ap₂, arith}
use Rattle.poets_expr.specs.Size.{nodes}
use Rattle.poets_syntax.specs.Contract.{Contract}
use Rattle.poets_syntax.specs.Contract as C
use Rattle.poets_meaning.specs.Between.{Between}
use Rattle.poets_meaning.specs.Marks.{Marks, nullable}
use Rattle.poets_meaning.specs.Width.{size}
use Rattle.poets_meaning.proofs.Interleavings.{Between-append}
use Rattle.poets_calculus.specs.Alike.{Alike, AreAlike, parts}

-- ---- sizes

-- each part counts, and the `||` before it
abbrev sizes : List Contract → ℕ
sizes [] = 0
sizes (c ∷ cs) = 1 + size c + sizes cs

sizes-between : {cs ds es : List Contract} → Between cs ds es → sizes es ≡ sizes cs + sizes ds
sizes-between Between.Empty = refl
sizes-between (Between.First i) = omega (arith, sizes-between i)
sizes-between (Between.Second i) = omega (arith, sizes-between i)

sizes-parts : (c : Contract) → sizes (parts c) ≡ 1 + size c
sizes-parts (C.Par a b) = omega (arith, sizes-between (Between-append (parts a) (parts b)), sizes-parts a, sizes-parts b)
sizes-parts C.Success = refl
sizes-parts C.Failure = refl
sizes-parts (C.Transmit b p c) = omega arith
sizes-parts (C.Plus a b) = omega arith
sizes-parts (C.Seq a b) = omega arith
sizes-parts (C.App f args) = omega arith

par_size : (a b c d : Contract) → sizes (parts (C.Par a b)) ≡ sizes (parts (C.Par c d)) → size (C.Par a b) ≡ size (C.Par c d)
par_size a b c d e = omega (arith, e, sizes-parts (C.Par a b), sizes-parts (C.Par c d))

mutual
  pub Alike-size : {c d : Contract} → Alike c d → size c ≡ size d
  Alike-size Alike.Success = refl
  Alike-size Alike.Failure = refl
  Alike-size (Alike.Transmit {p = p} h) = ap (λ n. 1 + nodes p + n) (Alike-size h)
  Alike-size (Alike.Plus h k) = ap₂ (λ m n. 1 + m + n) (Alike-size h) (Alike-size k)
  Alike-size (Alike.Par {a = a} {b = b} {c = c} {d = d} h) = par_size a b c d (AreAlike-sizes h)
  Alike-size (Alike.Seq h k) = ap₂ (λ m n. 1 + m + n) (Alike-size h) (Alike-size k)
  Alike-size Alike.App = refl

  AreAlike-sizes : {cs ds : List Contract} → AreAlike cs ds → sizes cs ≡ sizes ds
  AreAlike-sizes AreAlike.None = refl
  AreAlike-sizes (AreAlike.One h i k) = omega (arith, Alike-size h, sizes-between i, AreAlike-sizes k)

-- ---- nullable by marks

and_swap : (a b c : Bool) → (a && (b && c)) ≡ (b && (a && c))
and_swap true true c = refl
and_swap true false c = refl
and_swap false true c = refl
and_swap false false c = refl

and_group : (a b c : Bool) → ((a && b) && c) ≡ (a && (b && c))
and_group true b c = refl
and_group false b c = refl

and_true : (a : Bool) → (a && true) ≡ a
and_true true = refl
and_true false = refl

module _ (marks : Marks) where
  abbrev each_nullable : List Contract → Bool
  each_nullable [] = true
  each_nullable (c ∷ cs) = nullable marks c && each_nullable cs

  each_nullable-between : {cs ds es : List Contract} → Between cs ds es → each_nullable es ≡ (each_nullable cs && each_nullable ds)
  each_nullable-between Between.Empty = refl
  each_nullable-between (Between.First {x = c} {s₁ = cs} {s₂ = ds} i) =
      ap (λ b. nullable marks c && b) (each_nullable-between i) ∙ sym (and_group (nullable marks c) (each_nullable cs) (each_nullable ds))
  each_nullable-between (Between.Second {x = c} {s₁ = cs} {s₂ = ds} i) =
      ap (λ b. nullable marks c && b) (each_nullable-between i) ∙ and_swap (nullable marks c) (each_nullable cs) (each_nullable ds)

  each_nullable-parts : (c : Contract) → each_nullable (parts c) ≡ nullable marks c
  each_nullable-parts (C.Par a b) =
      each_nullable-between (Between-append (parts a) (parts b)) ∙ ap₂ (λ x y. x && y) (each_nullable-parts a) (each_nullable-parts b)
  each_nullable-parts C.Success = refl
  each_nullable-parts C.Failure = refl
  each_nullable-parts (C.Transmit b p c) = refl
  each_nullable-parts (C.Plus a b) = and_true (nullable marks a || nullable marks b)
  each_nullable-parts (C.Seq a b) = and_true (nullable marks a && nullable marks b)
  each_nullable-parts (C.App f args) = and_true (marks.nullable f)

  mutual
    pub Alike-nullable : {c d : Contract} → Alike c d → nullable marks c ≡ nullable marks d
    Alike-nullable Alike.Success = refl
    Alike-nullable Alike.Failure = refl
    Alike-nullable (Alike.Transmit h) = refl
    Alike-nullable (Alike.Plus h k) = ap₂ (λ x y. x || y) (Alike-nullable h) (Alike-nullable k)
    Alike-nullable (Alike.Par {a = a} {b = b} {c = c} {d = d} h) =
        sym (each_nullable-parts (C.Par a b)) ∙ AreAlike-nullable h ∙ each_nullable-parts (C.Par c d)
    Alike-nullable (Alike.Seq h k) = ap₂ (λ x y. x && y) (Alike-nullable h) (Alike-nullable k)
    Alike-nullable Alike.App = refl

    AreAlike-nullable : {cs ds : List Contract} → AreAlike cs ds → each_nullable cs ≡ each_nullable ds
    AreAlike-nullable AreAlike.None = refl
    AreAlike-nullable (AreAlike.One {d = d} {rest = rest} h i k) =
        ap₂ (λ x y. x && y) (Alike-nullable h) (AreAlike-nullable k)
        ∙ ap (λ x. x && each_nullable rest) (sym (and_true (nullable marks d)))
        ∙ sym (each_nullable-between i)
