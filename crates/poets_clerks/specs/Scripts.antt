-- What comes of the scripts of clerks.
use Rattle.std.specs.Prelude.{◌≡◌, ◌⊎◌, ℕ, ◌+◌, ◌<◌, ◌≤◌, Bool, true, false, List, [], ◌∷◌, ◌++◌}
use Rattle.std.specs.Prelude.{length, map, take}
use Rattle.std.specs.Prelude.{All}
use Rattle.std.specs.declared.alloc.Global.{Global}
use Rattle.std.specs.declared.sync.Arc.{Arc}
use Rattle.std.specs.Arc.{arc_value}
use mathlib.Core.List.{IsPrefix}
use Rattle.poets_value.specs.Listed.{Listed}
use Rattle.poets_turn.specs.declared.types.Turn.{Turn}
use Rattle.poets_turn.specs.declared.types.ClerkOf.{ClerkOf}
use Rattle.poets_turn.specs.Clerks.{front, calls, number, turn_frame, IsClerkOf}
use Rattle.poets_clerks.specs.declared.answers.DoneOf.{DoneOf}
use Rattle.poets_clerks.specs.declared.answers.WorkedOf.{WorkedOf}

-- the calls of a script
abbrev pub script_calls : {C : Type 0} → Listed (Arc C Global) → List C
script_calls script = map arc_value script.items

-- the calls of each script
abbrev pub calls_of_scripts : {C : Type 0} → Listed (Listed (Arc C Global)) → List (List C)
calls_of_scripts scripts = map script_calls scripts.items

-- each call of each script is one that is taken
abbrev pub AreTaken : {C : Type 0} → (C → Type 0) → Listed (Listed (Arc C Global)) → Type 0
AreTaken takes scripts = All (λ s. All (λ c. takes (arc_value c)) s.items) scripts.items

-- answers as pairs of a place and a reply
abbrev pub pairs_of : {R : Type 0} → List (DoneOf R) → List (ℕ × R)
pairs_of answers = map (λ d. (d.place, d.reply)) answers

-- the answers of a list as pairs of a place and a reply
abbrev pub answers_of : {R : Type 0} → Listed (DoneOf R) → List (ℕ × R)
answers_of answers = pairs_of answers.items

module _ {C R : Type 0} (answers : List (ℕ × C) → ℕ → C → R → Type 0) where
  -- the front has the clerk's call at the place, and the reply is right after the entries before it
  pub record IsAnswerAt (front : List (ℕ × C)) (clerk : ℕ) (call : C) (place : ℕ) (reply : R) : Type 0 where
    pub before : List (ℕ × C)
    pub at : place ≡ length before
    pub here : IsPrefix (before ++ (clerk, call) ∷ []) front
    pub right : answers before clerk call reply

  -- the first calls have these answers, in order; places rise from low on, and lie within the front
  abbrev pub AreAnswers : List (ℕ × C) → ℕ → ℕ → List C → List (ℕ × R) → Type 0
  AreAnswers front clerk low calls [] = low ≤ length front
  AreAnswers front clerk low [] (d ∷ done) = ⊥
  AreAnswers front clerk low (c ∷ calls) (d ∷ done) =
      IsAnswerAt front clerk c d.0 d.1 × (low ≤ d.0) × AreAnswers front clerk (d.0 + 1) calls done

  -- the next call has this answer; the clerk, which had seen `saw` and made `made`, has now seen
  -- `saw'` and made `made'`
  pub record IsAnswered (clerk : ℕ) (saw saw' : List (ℕ × C)) (made made' : List C) (call : C) (d : ℕ × R) :
      Type 0 where
    pub longer : IsPrefix saw saw'
    pub answer : IsAnswerAt saw' clerk call d.0 d.1
    pub after : length saw ≤ d.0
    pub within : d.0 < length saw'
    pub calls : made' ≡ made ++ call ∷ []

-- there is no answer, because memory ran out: the call may have been made
pub record IsUnanswered {C : Type 0} (saw saw' : List (ℕ × C)) (made made' : List C) (call : C) : Type 0 where
  pub longer : IsPrefix saw saw'
  pub calls : (made' ≡ made) ⊎ (made' ≡ made ++ call ∷ [])

module _ {M C R K F : Type 0} (frame : M → F) (answers : F → List (ℕ × C) → ℕ → C → R → Type 0)
    (turn : Turn M C R K F) where
  -- the clerk v worked at its script and became w, with these answers
  pub record HasWorked (memory : Bool) (script : List C) (v w : ClerkOf M C F) (done : List (ℕ × R)) : Type 0 where
    pub of : IsClerkOf frame turn w
    pub same : number w ≡ number v
    pub longer : IsPrefix (front v) (front w)
    -- its first calls have these answers, whose places are in what it saw, after all that it had
    -- seen before
    pub answered : AreAnswers (answers (turn_frame frame turn)) (front w) (number v) (length (front v)) script done
    -- where memory did not run out, it made the whole script
    pub whole : memory ≡ false → (length done ≡ length script) × (calls w ≡ calls v ++ script)
    -- otherwise it made the calls that are answered, or these and the next one
    pub part : (calls w ≡ calls v ++ take (length done) script) ⊎ (calls w ≡ calls v ++ take (length done + 1) script)

  -- place by place, each clerk worked at its script
  pub data EachWorked (memory : Bool) :
      List (List C) → List (ClerkOf M C F) → List (ClerkOf M C F) → List (List (ℕ × R)) → Type 0 where
    None : EachWorked memory [] [] [] []
    More :
        {script : List C} {v w : ClerkOf M C F} {done : List (ℕ × R)}
        {scripts : List (List C)} {vs ws : List (ClerkOf M C F)} {dones : List (List (ℕ × R))} →
        HasWorked memory script v w done → EachWorked memory scripts vs ws dones →
        EachWorked memory (script ∷ scripts) (v ∷ vs) (w ∷ ws) (done ∷ dones)

  -- what came of all scripts
  pub data HaveWorked (memory : Bool) (scripts : List (List C)) (vs ws : List (ClerkOf M C F))
      (dones : List (List (ℕ × R))) : Type 0 where
    -- each clerk worked
    Each : EachWorked memory scripts vs ws dones → HaveWorked memory scripts vs ws dones
    -- there was no memory for the answers, and no call was made
    NoneMade : memory ≡ true → ws ≡ vs → dones ≡ [] → HaveWorked memory scripts vs ws dones

  -- the clerks worked at the scripts, and this came of it
  abbrev pub IsWorkOf : Listed (Listed (Arc C Global)) → Listed (ClerkOf M C F) → WorkedOf M C F R → Type 0
  IsWorkOf scripts clerks work =
      HaveWorked work.memory (calls_of_scripts scripts) clerks.items work.clerks.items
      (map answers_of work.answers.items)
