-- What a clerk made of its script.
use Rattle.std.specs.Prelude.{◌≡◌, ◌⊎◌, ℕ, ◌+◌, List, ◌++◌, length, map, take, Result, MatchResult}
use Rattle.std.specs.declared.alloc.Global.{Global}
use Rattle.std.specs.declared.sync.Arc.{Arc}
use Rattle.std.specs.Arc.{arc_value}
use Rattle.poets_value.specs.Listed.{Listed}
use Rattle.poets_turn.specs.declared.types.Turn.{Turn}
use Rattle.poets_turn.specs.declared.types.ClerkOf.{ClerkOf}
use Rattle.poets_turn.specs.Clerks.{front, calls, number, turn_frame}
use Rattle.poets_clerks.specs.Scripts.{AreAnswers, IsAnswered, IsUnanswered}
use Rattle.poets_clerks.specs.declared.answers.DoneOf.{DoneOf}

module _ {M C T K F : Type 0} (frame : M → F) (answers : F → List (ℕ × C) → ℕ → C → T → Type 0)
    (turn : Turn M C T K F) where
  -- the clerk v made the call and became w, and this is the answer; or memory ran out, and there is
  -- none
  abbrev pub MadeCall : {E : Type 0} → Arc C Global → Result (DoneOf T) E → (v w : ClerkOf M C F) → Type 0
  MadeCall call made v w = MatchResult made
      (λ d. IsAnswered (answers (turn_frame frame turn)) (number v) (front v) (front w) (calls v) (calls w)
      (arc_value call) (d.place, d.reply))
      (λ _. IsUnanswered (front v) (front w) (calls v) (calls w) (arc_value call))

  -- the first calls of the script have these answers, which stand in what the clerk w saw, behind
  -- all that it had seen as v
  abbrev pub Answered : List (Arc C Global) → Listed (DoneOf T) → (v w : ClerkOf M C F) → Type 0
  Answered script done v w =
      AreAnswers (answers (turn_frame frame turn)) (front w) (number v) (length (front v)) (map arc_value script)
      (map (λ d. (d.place, d.reply)) done.items)

module _ {M C T F : Type 0} where
  -- all calls of the script are answered, and they are those that the clerk v made to become w
  abbrev pub MadeAll : List (Arc C Global) → Listed (DoneOf T) → (v w : ClerkOf M C F) → Type 0
  MadeAll script done v w = (length done.items ≡ length script) × (calls w ≡ calls v ++ map arc_value script)

  -- the calls that the clerk v made to become w are those of the script that are answered, or these
  -- and the next one
  abbrev pub MadePart : List (Arc C Global) → Listed (DoneOf T) → (v w : ClerkOf M C F) → Type 0
  MadePart script done v w =
      (calls w ≡ calls v ++ map arc_value (take (length done.items) script))
      ⊎ (calls w ≡ calls v ++ map arc_value (take (length done.items + 1) script))
