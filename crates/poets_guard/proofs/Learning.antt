-- Facts that are learned by rules.
use Rattle.std.proofs.Common.{◌≡◌, ℕ, ◌+◌, ◌<◌, ◌≤◌, arith, Bool, true, false, cond, not, List, [], ◌∷◌, ◌++◌, length, replicate, set, get_or, length-append, refl, sym, ◌∙◌, ap, subst, ◌⊎◌, inl, inr}
use Rattle.std.specs.List.{All, Contains, count_by, sum_by}
use Rattle.std.proofs.Math.ListN.{get_or-append}
use Rattle.std.proofs.lemmas.Grind.{common_steps}
use Rattle.std.proofs.lemmas.Bool.{cases_eq}
use Rattle.std.proofs.lemmas.List.{length-map, length-replicate, get_or_default, get_or-set_same, get_or-set_other}
use Rattle.std.proofs.lemmas.List.Elements.{All-nil, All-contains, All-contains_itself, Contains-get_or, All-append, All-push, Contains-append_left, Contains-append_right, Contains-push, Contains-push_cases}
use Rattle.std.proofs.lemmas.List.Sums.{sum_by-set}
use Rattle.poets_guard.specs.declared.rules.Rule.{Rule}
use Rattle.poets_guard.specs.declared.rules.Known.{Known}
use Rattle.poets_guard.specs.code.Rules.{Follows, IsWithin, is_known, Concludes, lists, list_at, Waits, IsPlaced, IsLearning, work, IsStep}

-- a fact that is read
pub known_at : (facts : List Bool) (k : ℕ) (a b : Bool) → k < length facts → a ≡ get_or facts k a → a ≡ b → is_known facts k ≡ b
known_at facts k a b l e t = get_or_default facts k false a l ∙ sym e ∙ t

-- after a write: at its place and elsewhere
at_set : {X : Type 0} (P : X → Type 0) (xs : List X) (i k : ℕ) (x d : X) → i < length xs → (k ≡ i → P x) → ((k ≡ i → ⊥) → P (get_or xs k d)) → P (get_or (set xs i x) k d)
at_set P xs i k x d l here there = elim (cases_eq k i) [
  | inl e ↦ subst (λ j. P (get_or (set xs i x) j d)) (sym e) (subst P (sym (get_or-set_same xs i x d l)) (here e))
  | inr e ↦ subst P (sym (get_or-set_other xs i k x d e)) (there e)
]

module _ (rules : List Rule) (facts : List Bool) (waiting : List (List Rule)) (pending : List Rule) (r : Rule) (h : IsLearning rules facts waiting (pending ++ r ∷ [])) where
  ours : Contains rules r
  ours = All-contains (Contains rules) (pending ++ r ∷ []) r h.pending (Contains-push pending r)

  -- it is one of them
  pub IsWithin-pending : (n : ℕ) → All (IsWithin n) rules → IsWithin n r
  IsWithin-pending n within = All-contains (IsWithin n) rules r within ours

  others : All (Contains rules) pending
  others = λ k d l. subst (Contains rules) (get_or-append pending (r ∷ []) d k l) (h.pending k d (rw length-append (omega (arith, l))))

  fewer : length pending + 1 + sum_by length waiting ≤ length rules
  fewer = (let a = h.few in let b = length-append pending (r ∷ []) in omega (arith, a, b))

  lighter : work rules facts pending < work rules facts (pending ++ r ∷ [])
  lighter = (let b = length-append pending (r ∷ []) in omega (arith, b))

  -- the rule itself, and those that are pending, used or waiting
  by_place : (P : Rule → Type 0) → P r → ((q : Rule) → Contains pending q → P q) → ((q : Rule) → is_known facts q.conclusion ≡ true → P q) →
      ((q : Rule) → Waits facts waiting q → P q) → (q : Rule) → Contains rules q → P q
  by_place P here left used waits q c = elim (h.placed q c) [
    | inl i ↦ elim (Contains-push_cases pending r q i) [ inl j ↦ left q j | inr j ↦ subst P j here ]
    | inr (inl i) ↦ used q i
    | inr (inr w) ↦ waits q w
  ]

  -- it waits for a premise
  pub IsLearning-wait : (fact : ℕ) → (fact ≡ r.first) ⊎ (fact ≡ r.second) → is_known facts fact ≡ false → fact < length waiting →
      IsLearning rules facts (set waiting fact (get_or waiting fact [] ++ r ∷ [])) pending × (work rules facts pending < work rules facts (pending ++ r ∷ []))
  IsLearning-wait fact premise none l =
      let new : List Rule = get_or waiting fact [] ++ r ∷ [] in (
        record {
          given = h.given;
          placed = by_place (IsPlaced facts (set waiting fact new) pending)
              (inr (inr (record { fact = fact; premise = premise; unknown = none; waits = rw (get_or-set_same waiting fact new [] l) (Contains-push (get_or waiting fact []) r) })))
              (λ q i. inl i) (λ q i. inr (inl i))
              (λ q w. inr (inr (record {
                fact = w.fact;
                premise = w.premise;
                unknown = w.unknown;
                waits = at_set (λ rs. Contains rs q) waiting fact w.fact new [] l
                    (λ e. Contains-append_left (get_or waiting fact []) (r ∷ []) q (subst (λ j. Contains (get_or waiting j []) q) e w.waits)) (λ e. w.waits);
              })));
          pending = others;
          waiting = λ k. at_set (All (Contains rules)) waiting fact k new [] l (λ e. All-push (Contains rules) (get_or waiting fact []) r (h.waiting fact) ours) (λ e. h.waiting k);
          few = (let b = length-append (get_or waiting fact []) (r ∷ []) in let e = sum_by-set length waiting fact new [] l in omega (arith, fewer, b, e));
          sound = h.sound;
        },
        lighter,
      )

  -- it was used
  pub IsLearning-used : is_known facts r.conclusion ≡ true → IsLearning rules facts waiting pending × (work rules facts pending < work rules facts (pending ++ r ∷ []))
  IsLearning-used k = (
    record {
      given = h.given;
      placed = by_place (IsPlaced facts waiting pending) (inr (inl k)) (λ q i. inl i) (λ q i. inr (inl i)) (λ q w. inr (inr w));
      pending = others;
      waiting = h.waiting;
      few = omega (arith, fewer);
      sound = h.sound;
    },
    lighter,
  )

  -- what it concludes is learned
  pub IsLearning-learn : is_known facts r.first ≡ true → is_known facts r.second ≡ true → is_known facts r.conclusion ≡ false →
      r.conclusion < length facts → r.conclusion < length waiting →
      IsLearning rules (set facts r.conclusion true) (set waiting r.conclusion []) (pending ++ get_or waiting r.conclusion [])
      × (work rules (set facts r.conclusion true) (pending ++ get_or waiting r.conclusion []) < work rules facts (pending ++ r ∷ []))
  IsLearning-learn f s none l m =
      let next : List Rule = get_or waiting r.conclusion [] in
      let count = sum_by-set (λ b. cond (not b) 1 0) facts r.conclusion true false l in
      let one : count_by not facts ≡ count_by not (set facts r.conclusion true) + 1 = (let e = rw none at count in omega (arith, e)) in
      let few : length (pending ++ next) + sum_by length (set waiting r.conclusion []) ≤ length rules =
      (let b = length-append pending next in let e = sum_by-set length waiting r.conclusion [] [] m in omega (arith, fewer, b, e)) in (
        record {
          given = kept 0 h.given;
          placed = by_place (IsPlaced (set facts r.conclusion true) (set waiting r.conclusion []) (pending ++ next))
              (inr (inl (get_or-set_same facts r.conclusion true false l))) (λ q i. inl (Contains-append_left pending next q i)) (λ q i. inr (inl (kept q.conclusion i)))
              (λ q w. elim (cases_eq w.fact r.conclusion) [
                | inl e ↦ inl (Contains-append_right pending next q (subst (λ j. Contains (get_or waiting j []) q) e w.waits))
                | inr e ↦ inr (inr (record {
                  fact = w.fact;
                  premise = w.premise;
                  unknown = get_or-set_other facts r.conclusion w.fact true false e ∙ w.unknown;
                  waits = rw (get_or-set_other waiting r.conclusion w.fact [] [] e) w.waits;
                }))
              ]);
          pending = All-append (Contains rules) pending next others (h.waiting r.conclusion);
          waiting = λ k. at_set (All (Contains rules)) waiting r.conclusion k [] [] m (λ e. All-nil (Contains rules)) (λ e. h.waiting k);
          few = few;
          sound = λ k. at_set (λ b. b ≡ true → Follows rules k) facts r.conclusion k true false l
              (λ e _. subst (Follows rules) (sym e) (Follows.By ours (h.sound r.first f) (h.sound r.second s))) (λ _ e. h.sound k e);
        },
        rw one (omega (arith, few)),
      )
    where
      kept : (k : ℕ) → is_known facts k ≡ true → is_known (set facts r.conclusion true) k ≡ true
      kept k e = at_set (λ b. b ≡ true) facts r.conclusion k true false l (λ _. refl) (λ _. e)

pub IsStep-wait : (old new : Known) (r : Rule) (fact : ℕ) → (fact ≡ r.first) ⊎ (fact ≡ r.second) → is_known old.facts.items fact ≡ false → fact < length old.waiting.items →
    new.facts ≡ old.facts → new.pending ≡ old.pending → lists new.waiting.items ≡ set (lists old.waiting.items) fact (list_at old.waiting.items fact ++ r ∷ []) → IsStep r old new
IsStep-wait old new r fact premise none l facts pending waiting rules h =
    rw (facts, pending, waiting) (IsLearning-wait rules old.facts.items (lists old.waiting.items) old.pending.items r h fact premise none
    (rw (length-map old.waiting.items (λ v. v.items)) l))

-- at first the fact 0 alone is known, and each rule is pending
pub IsLearning-first : (count : ℕ) (rules : List Rule) (waiting : List (List Rule)) → 0 < count → ((k : ℕ) → get_or waiting k [] ≡ []) → sum_by length waiting ≡ 0 →
    IsLearning rules (set (replicate count false) 0 true) waiting rules
IsLearning-first count rules waiting some none empty = record {
  given = get_or-set_same (replicate count false) 0 true false long;
  placed = λ r c. inl c;
  pending = All-contains_itself rules;
  waiting = λ k. rw (none k) (All-nil (Contains rules));
  few = omega (arith, empty);
  sound = λ k. at_set (λ b. b ≡ true → Follows rules k) (replicate count false) 0 k true false long (λ e _. subst (Follows rules) (sym e) Follows.Given)
      (λ _ e. absurd (let f : false ≡ true = sym (none_known k) ∙ e in cc));
}
  where
    long : 0 < length (replicate count false)
    long = rw (length-replicate count false) some

    none_known : (k : ℕ) → is_known (replicate count false) k ≡ false
    none_known k = grind (arith, common_steps)

-- at last each rule is used, or waits in vain
pub IsLearning-last : (rules : List Rule) (facts : List Bool) (waiting : List (List Rule)) (pending : List Rule) → length pending ≡ 0 → IsLearning rules facts waiting pending →
    All (Concludes facts) rules
IsLearning-last rules facts waiting pending done h k d l e f = elim (h.placed (get_or rules k d) (Contains-get_or rules k d l)) [
  | inl i ↦ absurd (let m = i.1 in omega (arith, m, done))
  | inr (inl i) ↦ i
  | inr (inr w) ↦ elim w.premise [
    | inl p ↦ absurd (let n : false ≡ true = sym w.unknown ∙ ap (is_known facts) p ∙ e in cc)
    | inr p ↦ absurd (let n : false ≡ true = sym w.unknown ∙ ap (is_known facts) p ∙ f in cc)
  ]
]
