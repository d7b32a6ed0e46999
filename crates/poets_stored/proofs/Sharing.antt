-- The commands that clerks make, each those at the front of his script, are no more than those of the scripts.
use Rattle.std.proofs.Common.{◌≡◌, ℕ, suc, ◌+◌, ◌≤◌, Bool, true, false, cond, ltb, List, [], ◌∷◌, All, length, map, Some, slice_get, refl, ap, subst, arith}
use Rattle.std.specs.Prelude.{nat_eq, sum_by}
use Rattle.std.specs.List.{filter}
use Rattle.std.proofs.lemmas.Bool.Decides.{nat_tests}
use Rattle.std.proofs.lemmas.List.Elements.{All-head, All-tail, All-weaker}
use Rattle.std.proofs.lemmas.List.Sums.{sum_by-append, sum_by-cons, sum_by-le}
use mathlib.Core.List.{IsPrefix}
use Rattle.poets_command.specs.Calls.{Call, own_calls}
use Rattle.poets_command.specs.Plain.{Command}

-- the call's clerk is one of so many
abbrev pub IsOfClerk : ℕ → Call → Type 0
IsOfClerk most call = (1 ≤ call.0) × (call.0 ≤ most)

-- the calls of each clerk are a prefix of his script, where the first script is that of the clerk after so many
abbrev AreShares : ℕ → List (List Command) → List Call → Type 0
AreShares before scripts calls =
    (place clerk : ℕ) (script : List Command) → clerk ≡ suc (before + place) → slice_get scripts place ≡ Some script →
    IsPrefix (own_calls clerk calls) script

module _ (weight : Command → ℕ) where
  -- what the call weighs, if its clerk is one after so many
  abbrev later : ℕ → Call → ℕ
  later before call = cond (ltb before call.0) (weight call.1) 0

  -- what it weighs, if it is the clerk's
  abbrev of_clerk : ℕ → Call → ℕ
  of_clerk clerk call = cond (nat_eq call.0 clerk) (weight call.1) 0

  -- the clerks after so many are the next one and those after him
  next_clerk : (before : ℕ) (call : Call) → later before call ≡ of_clerk (suc before) call + later (suc before) call
  next_clerk before call = grind (arith, nat_tests)

  one_own : (clerk : ℕ) (call : Call) (calls : List Call) → sum_by weight (own_calls clerk (call ∷ calls)) ≡ of_clerk clerk call + sum_by weight (own_calls clerk calls)
  one_own clerk call calls = by_test (nat_eq call.0 clerk) (filter (λ c. nat_eq c.0 clerk) calls)
    where
      by_test : (own : Bool) (rest : List Call) →
          sum_by weight (map (λ c. c.1) (cond own (call ∷ rest) rest)) ≡ cond own (weight call.1) 0 + sum_by weight (map (λ c. c.1) rest)
      by_test true rest = sum_by-cons weight call.1 (map (λ (c : Call). c.1) rest)
      by_test false rest = omega arith

  next_clerks : (before : ℕ) (calls : List Call) → sum_by (later before) calls ≡ sum_by weight (own_calls (suc before) calls) + sum_by (later (suc before)) calls
  next_clerks before [] = omega arith
  next_clerks before (call ∷ calls) =
      omega (
        arith,
        sum_by-cons (later before) call calls,
        sum_by-cons (later (suc before)) call calls,
        next_clerk before call,
        one_own (suc before) call calls,
        next_clerks before calls,
      )

  prefix_weight : (front whole : List Command) → IsPrefix front whole → sum_by weight front ≤ sum_by weight whole
  prefix_weight front whole (rest, cut) = omega (arith, ap (sum_by weight) cut, sum_by-append weight front rest)

  never_later : (before most : ℕ) (call : Call) → most ≤ before → IsOfClerk most call → later before call ≤ 0
  never_later before most call small is = grind (arith, nat_tests)

  always_later : (most : ℕ) (call : Call) → IsOfClerk most call → later 0 call ≡ weight call.1
  always_later most call is = grind (arith, nat_tests)

  -- the clerks after so many weigh no more than their scripts
  later_within :
      (scripts : List (List Command)) (before most : ℕ) (calls : List Call) → most ≤ before + length scripts → All (IsOfClerk most) calls →
      AreShares before scripts calls → sum_by (later before) calls ≤ sum_by (sum_by weight) scripts
  later_within [] before most calls small clerks shares =
      let never = All-weaker (IsOfClerk most) (λ (call : Call). later before call ≤ 0) (λ call is. never_later before most call (omega (arith, small)) is) calls clerks in
      omega (arith, sum_by-le (later before) 0 calls never)
  later_within (script ∷ scripts) before most calls small clerks shares =
      let first = prefix_weight (own_calls (suc before) calls) script (shares 0 (suc before) script (omega arith) refl) in
      let others = λ (place clerk : ℕ) (s : List Command) (e : clerk ≡ suc (suc before + place)) (at : slice_get scripts place ≡ Some s). shares (suc place) clerk s (omega (arith, e)) at in
      let rest = later_within scripts (suc before) most calls (omega (arith, small)) clerks others in
      omega (arith, next_clerks before calls, first, rest, sum_by-cons (sum_by weight) script scripts)

  all_later : (most : ℕ) (calls : List Call) → All (IsOfClerk most) calls → sum_by weight (map (λ (call : Call). call.1) calls) ≡ sum_by (later 0) calls
  all_later most [] clerks = refl
  all_later most (call ∷ calls) clerks =
      omega (
        arith,
        sum_by-cons weight call.1 (map (λ (c : Call). c.1) calls),
        sum_by-cons (later 0) call calls,
        always_later most call (All-head (IsOfClerk most) call calls clerks),
        all_later most calls (All-tail (IsOfClerk most) call calls clerks),
      )

  pub shares_within :
      (scripts : List (List Command)) (calls : List Call) → All (IsOfClerk (length scripts)) calls →
      ((place : ℕ) (script : List Command) → slice_get scripts place ≡ Some script → IsPrefix (own_calls (suc place) calls) script) →
      sum_by weight (map (λ (call : Call). call.1) calls) ≤ sum_by (sum_by weight) scripts
  shares_within scripts calls clerks own =
      let shares : AreShares 0 scripts calls = numbered own in
      omega (arith, all_later (length scripts) calls clerks, later_within scripts 0 (length scripts) calls (omega arith) clerks shares)
    where
      numbered : ((place : ℕ) (script : List Command) → slice_get scripts place ≡ Some script → IsPrefix (own_calls (suc place) calls) script) → AreShares 0 scripts calls
      numbered own place clerk script e at =
          let same : suc place ≡ clerk = omega (arith, e) in
          subst (λ k. IsPrefix (own_calls k calls) script) same (own place script at)
