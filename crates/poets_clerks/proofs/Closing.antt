-- The clerks that come back from their work are those that went.
use Rattle.std.proofs.Common.{◌≡◌, ℕ, Bool, List, ◌∷◌, map, refl}
use Rattle.std.specs.Prelude.{All}
use Rattle.std.proofs.lemmas.List.Elements.{All-nil, All-cons}
use Rattle.poets_turn.specs.declared.types.Turn.{Turn}
use Rattle.poets_turn.specs.declared.types.ClerkOf.{ClerkOf}
use Rattle.poets_turn.specs.Clerks.{number, IsClerkOf}
use Rattle.poets_clerks.specs.Scripts.{EachWorked}

module _ {M C R K F : Type 0} {frame : M → F} {answers : F → List (ℕ × C) → ℕ → C → R → Type 0} {turn : Turn M C R K F} where
  pub each_number : {memory : Bool} {ss : List (List C)} {vs ws : List (ClerkOf M C F)} {ds : List (List (ℕ × R))} → EachWorked frame answers turn memory ss vs ws ds → map (λ c. number c) ws ≡ map (λ c. number c) vs
  each_number EachWorked.None = refl
  each_number (EachWorked.More h t) = λ i. h.same i ∷ each_number t i

  pub each_of : {memory : Bool} {ss : List (List C)} {vs ws : List (ClerkOf M C F)} {ds : List (List (ℕ × R))} → EachWorked frame answers turn memory ss vs ws ds → All (λ c. IsClerkOf frame turn c) ws
  each_of EachWorked.None = All-nil (λ c. IsClerkOf frame turn c)
  each_of (EachWorked.More {w = w} {ws = ws} h t) = All-cons (λ c. IsClerkOf frame turn c) w ws h.of (each_of t)
