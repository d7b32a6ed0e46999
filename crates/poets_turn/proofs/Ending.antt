-- What a seat knows once it took in a clerk, and what the history has at the end.
use Rattle.std.proofs.Common.{◌≡◌, ◌⊎◌, ℕ, ◌<◌, ◌≤◌, List, [], ◌∷◌, map, length, ap, sym, ◌∙◌, subst, ⊎_elim, inl, inr, arith, Option, Some, None}
use Rattle.std.specs.Prelude.{All, Contains}
use Rattle.std.proofs.lemmas.List.Elements.{All-contains, All-map, All-weaker, Contains-append_left, Contains-append_right}
use mathlib.Core.List.{IsPrefix}
use mathlib.Core.Option.{some, some-injective}
use lib.ListN.{get_elem?, length-map}
use Rattle.atomic_table.specs.Table.{Final, Seen}
use Rattle.poets_machine.specs.Histories.{calls_by}
use Rattle.poets_turn.specs.declared.view.View.{View}
use Rattle.poets_turn.specs.declared.view.Stage.TheVariants.{Idle}
use Rattle.poets_turn.specs.Settings.{OnlyClerks}
use Rattle.poets_turn.specs.code.Turnstile.{HasEnded, Rule, longer}
use Rattle.poets_turn.specs.code.Steps.{with_clerk}
use Rattle.poets_turn.specs.Clerks.{KnowsClerk, IsClerkIn}
use Rattle.poets_turn.proofs.Fronts.{prefix_trans}
use Rattle.poets_turn.proofs.Seats.{closes}

module _ {C F : Type 0} where
  -- v took in w, and then settled as x
  pub knows_old : (v w x : View C F) → x ≡ record (with_clerk v w) { front = longer v.front w.front; heard = [] } → IsPrefix v.front (longer v.front w.front)
      → (k : ℕ) (saw : List (ℕ × C)) (made : List C) → KnowsClerk v k saw made → KnowsClerk x k saw made
  knows_old v w x is pre k saw made h = subst (λ (y : View C F). KnowsClerk y k saw made) (sym is) record {
    front = prefix_trans saw v.front (longer v.front w.front) h.front pre;
    calls = ⊎_elim (λ t. inl t) (λ t. inr (Contains-append_left v.ended ((w.number, w.calls) ∷ w.ended) (k, made) t)) h.calls;
  }

  pub knows_new : (v w x : View C F) → x ≡ record (with_clerk v w) { front = longer v.front w.front; heard = [] } → IsPrefix w.front (longer v.front w.front) → (k : ℕ) → w.number ≡ k → KnowsClerk x k w.front w.calls
  knows_new v w x is pre k named = subst (λ (y : View C F). KnowsClerk y k w.front w.calls) (sym is) record {
    front = pre;
    calls = inr (Contains-append_right v.ended ((w.number, w.calls) ∷ w.ended) (k, w.calls) (0, omega arith, λ i. (named i, w.calls)));
  }

  knows_all : (v : View C F) (history : List (ℕ × C)) → IsPrefix v.front history → v.calls ≡ calls_by v.number history → All (λ e. e.1 ≡ calls_by e.0 history) v.ended
      → (k : ℕ) (saw : List (ℕ × C)) (made : List C) → KnowsClerk v k saw made → IsClerkIn history k saw made
  knows_all v history pre mine all k saw made h = record {
    front = prefix_trans saw v.front history h.front pre;
    calls = ⊎_elim (λ (t : (v.number ≡ k) × (v.calls ≡ made)). ap (λ n. calls_by n history) (sym t.0) ∙ (sym mine ∙ t.1)) (λ t. sym (All-contains (λ e. e.1 ≡ calls_by e.0 history) v.ended (k, made) all t)) h.calls;
  }

  knows_number : (v : View C F) (k : ℕ) (saw : List (ℕ × C)) (made : List C) → KnowsClerk v k saw made → (k ≡ v.number) ⊎ HasEnded k v.ended
  knows_number v k saw made h = ⊎_elim (λ (t : (v.number ≡ k) × (v.calls ≡ made)). inl (sym t.0)) (λ t. inr (made, t)) h.calls

module _ {C F A : Type 0} (number : A → ℕ) (front : A → List (ℕ × C)) (calls : A → List C) where
  -- each number is the view's own, or that of a clerk that it took in
  covered : (v : View C F) (xs : List A) (clerks : ℕ) → All (λ x. KnowsClerk v (number x) (front x) (calls x)) xs
      → ((k : ℕ) → 0 < k → k ≤ clerks → Contains (map number xs) k) → (k : ℕ) → 0 < k → k ≤ clerks → (k ≡ v.number) ⊎ HasEnded k v.ended
  covered v xs clerks all every k low high =
      All-contains (λ n. (n ≡ v.number) ⊎ HasEnded n v.ended) (map number xs) k
      (All-map (λ n. (n ≡ v.number) ⊎ HasEnded n v.ended) number xs
      (All-weaker (λ x. KnowsClerk v (number x) (front x) (calls x)) (λ x. (number x ≡ v.number) ⊎ HasEnded (number x) v.ended) (λ x h. knows_number v (number x) (front x) (calls x) h) xs all))
      (every k low high)

  -- what comes back at the end
  module _ {M : Type 0} (history : M → List (ℕ × C)) (frame : M → F) (f : F) (clerks : ℕ) where
    pub closing : (ws : List ℕ) (xs : List (Option M)) (id : ℕ) (v : View C F) (cs : List A)
        → Final (Seen (Rule history frame f clerks) id v) ws xs → v.stage ≡ Idle → 0 < v.number → All (λ c. KnowsClerk v (number c) (front c) (calls c)) cs → ((k : ℕ) → 0 < k → k ≤ clerks → Contains (map number cs) k)
        → (x : M) × (get_elem? xs 0 ≡ some (Some x)) × (frame x ≡ f) × All (λ c. IsClerkIn (history x) (number c) (front c) (calls c)) cs × OnlyClerks clerks (history x)
    closing ws xs id v cs final idle low all every =
        let r = closes history frame f clerks ws xs id v final idle low (covered v cs clerks all every) in let x = r.0 in (
          x,
          r.1,
          r.2,
          All-weaker (λ c. KnowsClerk v (number c) (front c) (calls c)) (λ c. IsClerkIn (history x) (number c) (front c) (calls c)) (λ c h. knows_all v (history x) r.3 r.5 r.6 (number c) (front c) (calls c) h) cs all,
          r.4,
        )

pub some_item : {A : Type 0} (number : A → ℕ) (xs : List A) (k : ℕ) → Contains (map number xs) k → 0 < length xs
some_item number xs k h = All-contains (λ _. 0 < length xs) (map number xs) k (λ i d l. omega (arith, length-map xs number)) h

pub machine_back : {M : Type 0} (xs : List (Option M)) (r : Option M) (x m : M) → get_elem? xs 0 ≡ some r → get_elem? xs 0 ≡ some (Some x) → r ≡ Some m → x ≡ m
machine_back xs r x m at at' is = let e : r ≡ Some x = some-injective r (Some x) (sym at ∙ at') in cc

pub none_left : {M : Type 0} (xs : List (Option M)) (r : Option M) (x : M) → get_elem? xs 0 ≡ some r → get_elem? xs 0 ≡ some (Some x) → r ≡ None → ⊥
none_left xs r x at at' is = let e : r ≡ Some x = some-injective r (Some x) (sym at ∙ at') in absurd (cc)
