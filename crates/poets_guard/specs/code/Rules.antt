-- What follows from facts by rules of two premises.
use Rattle.std.specs.Prelude.{◌≡◌, ◌⊎◌, ℕ, ◌+◌, ◌*◌, ◌<◌, ◌≤◌, Bool, true, false, not, List, []}
use Rattle.std.specs.Prelude.{◌∷◌, ◌++◌, length, map}
use Rattle.std.specs.Prelude.{All, Contains, slice_index_or, slice_set}
use Rattle.std.specs.List.{count_by, sum_by}
use Rattle.std.specs.declared.alloc.Global.{Global}
use Rattle.std.specs.declared.vec.Vec.{Vec}
use Rattle.poets_guard.specs.declared.rules.Rule.{Rule}
use Rattle.poets_guard.specs.declared.rules.Known.{Known}

-- what follows by the rules, where the fact 0 is given
pub data Follows (rules : List Rule) : ℕ → Type 0 where
  Given : Follows rules 0
  By : {r : Rule} → Contains rules r → Follows rules r.first → Follows rules r.second → Follows rules r.conclusion

-- the rule is of the first so many facts
pub record IsWithin (n : ℕ) (r : Rule) : Type 0 where
  pub first : r.first < n
  pub second : r.second < n
  pub conclusion : r.conclusion < n

-- whether the list says `true` of the fact
abbrev pub is_known : List Bool → ℕ → Bool
is_known facts k = slice_index_or facts k false

-- what is known follows
abbrev pub AllFollow : List Rule → List Bool → Type 0
AllFollow rules facts = (k : ℕ) → is_known facts k ≡ true → Follows rules k

-- what the rule concludes from known facts is known
abbrev pub Concludes : List Bool → Rule → Type 0
Concludes facts r = is_known facts r.first ≡ true → is_known facts r.second ≡ true → is_known facts r.conclusion ≡ true

-- the rules that wait, as lists
abbrev pub lists : List (Vec Rule Global) → List (List Rule)
lists waiting = map (λ v. v.items) waiting

-- those that wait for a fact
abbrev pub list_at : List (Vec Rule Global) → ℕ → List Rule
list_at waiting k = slice_index_or (lists waiting) k []

-- the rule waits for a premise that is not known
pub record Waits (facts : List Bool) (waiting : List (List Rule)) (r : Rule) : Type 0 where
  pub fact : ℕ
  pub premise : (fact ≡ r.first) ⊎ (fact ≡ r.second)
  pub unknown : is_known facts fact ≡ false
  pub waits : Contains (slice_index_or waiting fact []) r

-- the rule is pending, used or waiting
abbrev pub IsPlaced : List Bool → (lists : List (List Rule)) → (left : List Rule) → Rule → Type 0
IsPlaced facts lists left r = Contains left r ⊎ (is_known facts r.conclusion ≡ true) ⊎ Waits facts lists r

-- each rule is placed, and what is known follows
pub record IsLearning (rules : List Rule) (facts : List Bool) (lists : List (List Rule)) (left : List Rule) :
    Type 0 where
  pub given : is_known facts 0 ≡ true
  pub placed : (r : Rule) → Contains rules r → IsPlaced facts lists left r
  pub pending : All (Contains rules) left
  pub waiting : (k : ℕ) → All (Contains rules) (slice_index_or lists k [])
  pub few : length left + sum_by length lists ≤ length rules
  pub sound : AllFollow rules facts

-- so many steps are left at most
abbrev pub work : (rules : List Rule) → (facts : List Bool) → (pending : List Rule) → ℕ
work rules facts pending = count_by not facts * (length rules + 1) + length pending

-- a rule that was pending is placed
abbrev pub IsStep : Rule → (old new : Known) → Type 0
IsStep r old new =
    (rules : List Rule) → IsLearning rules old.facts.items (lists old.waiting.items) (old.pending.items ++ r ∷ []) →
    IsLearning rules new.facts.items (lists new.waiting.items) new.pending.items
    × (work rules new.facts.items new.pending.items < work rules old.facts.items (old.pending.items ++ r ∷ []))

-- the rule waits for the fact after those that did, and no other waits anew
abbrev pub WaitsFor : (fact : ℕ) → Rule → (old new : Known) → Type 0
WaitsFor fact rule old new =
    lists new.waiting.items ≡ slice_set (lists old.waiting.items) fact (list_at old.waiting.items fact ++ rule ∷ [])

-- the rules that waited for the fact are pending after those that were, and none waits for it
abbrev pub EndsWaitFor : (fact : ℕ) → (old new : Known) → Type 0
EndsWaitFor fact old new = (lists new.waiting.items ≡ slice_set (lists old.waiting.items) fact [])
    × (new.pending.items ≡ old.pending.items ++ list_at old.waiting.items fact)
