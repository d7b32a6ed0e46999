-- What is promised of a turn, and of what it keeps.
use Rattle.std.specs.Prelude.{◌≡◌, ℕ, List, [], ◌∷◌, ◌++◌, length, Result, MatchResult}
use Rattle.std.specs.declared.alloc.Global.{Global}
use Rattle.std.specs.declared.sync.Arc.{Arc}
use Rattle.std.specs.Arc.{arc_value}

module _ {M C F K E : Type 0} (history : M → List (ℕ × C)) (frame : M → F)
    (owes : F → List (ℕ × C) → ℕ → C → K → Type 0) where
  -- the machine had a turn for the clerk's call: the history then has the call at its end, and what
  -- is kept of it is owed after the calls before it; or nothing is kept, and the history is as
  -- before
  abbrev pub HadTurn : ℕ → Arc C Global → Result K E → (old new : M) → Type 0
  HadTurn clerk call made old new = MatchResult made
      (λ kept. (history new ≡ history old ++ (clerk, arc_value call) ∷ [])
      × owes (frame old) (history old) clerk (arc_value call) kept)
      (λ _. history new ≡ history old)

module _ {C F K : Type 0} (owes : F → List (ℕ × C) → ℕ → C → K → Type 0) where
  -- wherever this is kept of a call, there are so many calls before it
  abbrev pub IsPlaceOf : K → ℕ → Type 0
  IsPlaceOf kept place =
      (f : F) (before : List (ℕ × C)) (clerk : ℕ) (call : C) → owes f before clerk call kept → place ≡ length before

  -- the reply answers each call of which this is kept
  abbrev pub IsReplyTo : {R : Type 0} → (F → List (ℕ × C) → ℕ → C → R → Type 0) → K → R → Type 0
  IsReplyTo answers kept reply =
      (f : F) (before : List (ℕ × C)) (clerk : ℕ) (call : C) → owes f before clerk call kept →
      answers f before clerk call reply
