-- Contracts whose parallel parts are grouped to the left.
use Rattle.std.proofs.Common.{◌≡◌, List, [], ◌∷◌, ◌++◌, fold, refl, sym, ◌∙◌, ap, subst, append-nil, append_assoc}
use Rattle.std.specs.List.{All}
use Rattle.std.proofs.lemmas.List.Sums.{fold-append}
use Rattle.std.proofs.lemmas.List.Elements.{All-nil, All-cons, All-head, All-tail, All-append}
use Rattle.poets_syntax.specs.Contract.{Contract, Success, Failure, Transmit, Plus, Par, Seq, App}
use Rattle.poets_calculus.specs.Alike.{Alike, AreAlike, parts}
use Rattle.poets_calculus.specs.Normal.{par, side_by_side}
use Rattle.poets_calculus.proofs.Multisets.{AreAlike-itself}
use Rattle.poets_calculus.proofs.AlikeTests.{IsPart, parts-one, parts-alike}

pub each_is_part : (c : Contract) → All IsPart (parts c)
each_is_part (Par a b) = All-append IsPart (parts a) (parts b) (each_is_part a) (each_is_part b)
each_is_part Success = All-cons IsPart Success [] tt (All-nil IsPart)
each_is_part Failure = All-cons IsPart Failure [] tt (All-nil IsPart)
each_is_part (Transmit b p c) = All-cons IsPart (Transmit b p c) [] tt (All-nil IsPart)
each_is_part (Plus a b) = All-cons IsPart (Plus a b) [] tt (All-nil IsPart)
each_is_part (Seq a b) = All-cons IsPart (Seq a b) [] tt (All-nil IsPart)
each_is_part (App f args) = All-cons IsPart (App f args) [] tt (All-nil IsPart)

-- a contract has a first part
pub first_part : (c : Contract) → (d : Contract) × (ds : List Contract) × (parts c ≡ d ∷ ds)
first_part (Par a b) = let f = first_part a in (f.0, f.1 ++ parts b, ap (λ xs. xs ++ parts b) f.2)
first_part Success = (Success, [], refl)
first_part Failure = (Failure, [], refl)
first_part (Transmit b p c) = (Transmit b p c, [], refl)
first_part (Plus a b) = (Plus a b, [], refl)
first_part (Seq a b) = (Seq a b, [], refl)
first_part (App f args) = (App f args, [], refl)

-- what is joined has these parts
pub parts-fold : (c : Contract) (cs : List Contract) → All IsPart cs → parts (fold Par c cs) ≡ parts c ++ cs
parts-fold c [] h = sym (append-nil (parts c))
parts-fold c (d ∷ cs) h =
    parts-fold (Par c d) cs (All-tail IsPart d cs h) ∙ rw (parts-one d (All-head IsPart d cs h)) (append_assoc (parts c) (d ∷ []) cs)

parts-side : (d : Contract) (ds : List Contract) → All IsPart (d ∷ ds) → parts (side_by_side (d ∷ ds)) ≡ d ∷ ds
parts-side d ds h = parts-fold d ds (All-tail IsPart d ds h) ∙ ap (λ xs. xs ++ ds) (parts-one d (All-head IsPart d ds h))

pub parts-regrouped : (c : Contract) → parts (side_by_side (parts c)) ≡ parts c
parts-regrouped c =
    let f = first_part c in
    rw f.2 (parts-side f.0 f.1 (subst (λ xs. All IsPart xs) f.2 (each_is_part c)))

-- grouping says nothing
pub Alike-regrouped : (c : Contract) → Alike c (side_by_side (parts c))
Alike-regrouped c = parts-alike c (side_by_side (parts c)) (subst (λ xs. AreAlike (parts c) xs) (sym (parts-regrouped c)) (AreAlike-itself c))

-- a part more at the end
pub side-more : (cs : List Contract) (c : Contract) (ds : List Contract) → side_by_side ((c ∷ cs) ++ ds) ≡ fold Par (side_by_side (c ∷ cs)) ds
side-more cs c ds = fold-append Par c cs ds

pub regrouped-more : (a : Contract) (ds : List Contract) → side_by_side (parts a ++ ds) ≡ fold Par (side_by_side (parts a)) ds
regrouped-more a ds = let f = first_part a in rw f.2 (side-more f.1 f.0 ds)

pub regrouped-last : (a b : Contract) → IsPart b → side_by_side (parts (Par a b)) ≡ Par (side_by_side (parts a)) b
regrouped-last a b h = ap (λ xs. side_by_side (parts a ++ xs)) (parts-one b h) ∙ regrouped-more a (b ∷ [])

-- ---- what a `||` has exactly where both sides have it

pub record IsOfSides (P : Contract → Type 0) : Type 0 where
  pub join : (a b : Contract) → P a → P b → P (Par a b)
  pub sides : (a b : Contract) → P (Par a b) → P a × P b

module _ (P : Contract → Type 0) (of : IsOfSides P) where
  only : (c : Contract) → P c → All P (c ∷ [])
  only c h = All-cons P c [] h (All-nil P)

  pub All-parts : (c : Contract) → P c → All P (parts c)
  All-parts (Par a b) h = let k = of.sides a b h in All-append P (parts a) (parts b) (All-parts a k.0) (All-parts b k.1)
  All-parts Success h = only Success h
  All-parts Failure h = only Failure h
  All-parts (Transmit b p c) h = only (Transmit b p c) h
  All-parts (Plus a b) h = only (Plus a b) h
  All-parts (Seq a b) h = only (Seq a b) h
  All-parts (App f args) h = only (App f args) h

  joined : (c : Contract) (cs : List Contract) → P c → All P cs → P (fold Par c cs)
  joined c [] h k = h
  joined c (d ∷ cs) h k = joined (Par c d) cs (of.join c d h (All-head P d cs k)) (All-tail P d cs k)

  -- regrouping keeps it
  pub regrouped-keeps : (c : Contract) → P c → P (side_by_side (parts c))
  regrouped-keeps c h =
      let f = first_part c in
      let all = subst (λ xs. All P xs) f.2 (All-parts c h) in
      rw f.2 (joined f.0 f.1 (All-head P f.0 f.1 all) (All-tail P f.0 f.1 all))

  pub par-keeps : (a b : Contract) → P a → P b → P (par a b)
  par-keeps Failure b h k = h
  par-keeps a Failure h k = k
  par-keeps Success b h k = k
  par-keeps a Success h k = h
  par-keeps a b h k = regrouped-keeps (Par a b) (of.join a b h k)
