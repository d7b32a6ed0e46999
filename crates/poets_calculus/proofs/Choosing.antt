-- What a choice has exactly where its parts have it, the choice of distinct alternatives keeps.
use Rattle.std.proofs.Common.{◌≡◌, not, List, [], ◌∷◌, ◌++◌, filter, fold, refl, sym, subst, ◌⊎◌, inl, inr}
use Rattle.std.specs.List.{All}
use Rattle.std.proofs.lemmas.List.Elements.{All-nil, All-cons, All-head, All-tail, All-append, All-filter}
use Rattle.poets_syntax.specs.Contract.{Contract, Success, Failure, Transmit, Plus, Par, Seq, App}
use Rattle.poets_calculus.specs.Alike.{alike}
use Rattle.poets_calculus.specs.Normal.{alternatives, distinct, choice, plus}

-- the distinct ones of a list, and their choice
module _ (P : Contract → Type 0) where
  pub All-distinct : (cs : List Contract) → All P cs → All P (distinct cs)
  All-distinct [] h = h
  All-distinct (c ∷ cs) h =
      All-cons P c (filter (λ d. not (alike c d)) (distinct cs)) (All-head P c cs h)
      (All-filter (λ d. not (alike c d)) P (distinct cs) (All-distinct cs (All-tail P c cs h)))

  module _ (join : (a b : Contract) → P a → P b → P (Plus a b)) where
    joined_to : (c : Contract) (cs : List Contract) → P c → All P cs → P (fold Plus c cs)
    joined_to c [] h k = h
    joined_to c (d ∷ cs) h k = joined_to (Plus c d) cs (join c d h (All-head P d cs k)) (All-tail P d cs k)

    pub All-choice : (cs : List Contract) → All P cs → (choice cs ≡ Failure) ⊎ P (choice cs)
    All-choice [] h = inl refl
    All-choice (c ∷ cs) h = inr (joined_to c cs (All-head P c cs h) (All-tail P c cs h))

-- a choice has it exactly where both parts have it, and `Failure` has it
pub record IsOfChoices (P : Contract → Type 0) : Type 0 where
  pub failure : P Failure
  pub plus : (a b : Contract) → P a → P b → P (Plus a b)
  pub plus_parts : (a b : Contract) → P (Plus a b) → P a × P b

module _ (P : Contract → Type 0) (of : IsOfChoices P) where
  only : (c : Contract) → P c → All P (c ∷ [])
  only c h = All-cons P c [] h (All-nil P)

  All-alternatives : (c : Contract) → P c → All P (alternatives c)
  All-alternatives Success h = only Success h
  All-alternatives Failure h = All-nil P
  All-alternatives (Transmit b p c) h = only (Transmit b p c) h
  All-alternatives (Plus a b) h =
      All-append P (alternatives a) (alternatives b) (All-alternatives a (of.plus_parts a b h).0) (All-alternatives b (of.plus_parts a b h).1)
  All-alternatives (Par a b) h = only (Par a b) h
  All-alternatives (Seq a b) h = only (Seq a b) h
  All-alternatives (App f args) h = only (App f args) h

  pub plus-keeps : (a b : Contract) → P a → P b → P (plus a b)
  plus-keeps a b h k = elim (All-choice P of.plus (distinct (alternatives a ++ alternatives b))
      (All-distinct P (alternatives a ++ alternatives b)
      (All-append P (alternatives a) (alternatives b) (All-alternatives a h) (All-alternatives b k)))) [
        | inl e ↦ subst P (sym e) of.failure
        | inr m ↦ m
      ]
