-- The rows of a report by what each key has.
use Rattle.std.proofs.Common.{◌≡◌, Bool, true, false, zero, suc, List, [], ◌∷◌, Option, Some, None, map, refl, sym, ◌∙◌, ap, arith}
use Rattle.std.specs.List.{Contains}
use Rattle.poets_value.specs.declared.event.Event.{Event}
use Rattle.poets_value.specs.declared.value.Value.{Value}
use Rattle.poets_expr.specs.Env.{Declared}
use Rattle.poets_expr.specs.Expression.{Expression}
use Rattle.poets_report.specs.Keys.{Key, same_key}
use Rattle.poets_report.specs.Plain.{Report, KeyRow}
use Rattle.poets_report.specs.Reports.{folded, key_on, with_key}
use Rattle.poets_report.specs.Answers.{Rising, AreRows, IsFoldOfKey}
use Rattle.poets_report.specs.Keyed.{row_at}
use Rattle.poets_report.proofs.KeyOrder.{key_same}
use Rattle.poets_report.proofs.RisingRows.{found_contained, contained_found}

-- the fold over events, if there are any
abbrev pub if_any : (List Event → Option Value) → List Event → Option (Option Value)
if_any fold_of [] = None
if_any fold_of (e ∷ events) = Some (fold_of (e ∷ events))

module _ (key_of : Event → Key) (k : Key) where
  -- a key that some event has
  contains_key : (events : List Event) (x : Event) (xs : List Event) → with_key key_of k events ≡ x ∷ xs → Contains (map key_of events) k
  contains_key [] x xs h = absurd cc
  contains_key (e ∷ events) x xs h = by (same_key k (key_of e)) refl (contains_key events x xs)
    where
      by : (b : Bool) → same_key k (key_of e) ≡ b → (with_key key_of k events ≡ x ∷ xs → Contains (map key_of events) k) → Contains (map key_of (e ∷ events)) k
      by true s below = (0, omega arith, sym ((key_same k (key_of e)).0 s))
      by false s below = let rest = below (rw s at h) in let lt = rest.1 in (suc rest.0, omega (arith, lt), rest.2)

  some_event : (events : List Event) → Contains (map key_of events) k → with_key key_of k events ≡ [] → ⊥
  some_event [] (i, lt, at) h = omega (arith, lt)
  some_event (e ∷ events) (zero, lt, at) h = let s : same_key k (key_of e) ≡ true = (key_same k (key_of e)).1 (sym at) in let no : e ∷ with_key key_of k events ≡ [] = rw s at h in cc
  some_event (e ∷ events) (suc i, lt, at) h = by (same_key k (key_of e)) refl (some_event events (i, omega (arith, lt), at))
    where
      by : (b : Bool) → same_key k (key_of e) ≡ b → (with_key key_of k events ≡ [] → ⊥) → ⊥
      by true s below = let no : e ∷ with_key key_of k events ≡ [] = rw s at h in cc
      by false s below = below (rw s at h)

module _ (declared : Declared) (q : Report) (args : List (Option Value)) (key : Expression) (events : List Event) where
  abbrev of : Event → Key
  of = key_on declared q args key

  -- what the rows have at a key
  abbrev has : Key → Option (Option Value)
  has k = if_any (folded declared q args) (with_key of k events)

  fold_has : (k : Key) (v : Option Value) → has k ≡ Some v → IsFoldOfKey declared q args of events k v
  fold_has k v h = by (with_key of k events) refl
    where
      by : (s : List Event) → with_key of k events ≡ s → IsFoldOfKey declared q args of events k v
      by [] e = absurd (let no : None ≡ Some v = sym (ap (if_any (folded declared q args)) e) ∙ h in cc)
      by (x ∷ xs) e =
          let found : Some (folded declared q args (x ∷ xs)) ≡ Some v = sym (ap (if_any (folded declared q args)) e) ∙ h in
          let value : v ≡ folded declared q args (x ∷ xs) = cc in
          (contains_key of k events x xs e, value ∙ sym (ap (folded declared q args) e))

  has_fold : (k : Key) (v : Option Value) → IsFoldOfKey declared q args of events k v → has k ≡ Some v
  has_fold k v h = by (with_key of k events) refl
    where
      by : (s : List Event) → with_key of k events ≡ s → has k ≡ Some v
      by [] e = absurd (some_event of k events h.0 e)
      by (x ∷ xs) e = ap (if_any (folded declared q args)) e ∙ ap Some (sym (h.1 ∙ ap (folded declared q args) e))

  -- rows that have at each key the fold over its events
  pub rows_by_key : (rows : List KeyRow) → Rising rows → ((k : Key) → row_at k rows ≡ if_any (folded declared q args) (with_key (key_on declared q args key) k events)) →
      AreRows declared q args key events rows
  rows_by_key rows h each = record {
    rising = h;
    each = λ k v. (
      λ c. fold_has k v (sym (each k) ∙ contained_found rows k v h c),
      λ f. found_contained rows k v (each k ∙ has_fold k v f),
    );
  }

  pub by_key : (rows : List KeyRow) → AreRows declared q args key events rows → (k : Key) →
      row_at k rows ≡ if_any (folded declared q args) (with_key (key_on declared q args key) k events)
  by_key rows h k = by (row_at k rows) (has k) refl refl
    where
      by : (a b : Option (Option Value)) → row_at k rows ≡ a → has k ≡ b → row_at k rows ≡ has k
      by None None e f = e ∙ sym f
      by (Some v) b e f = e ∙ sym (has_fold k v ((h.each k v).0 (found_contained rows k v e)))
      by None (Some v) e f =
          absurd (let no : None ≡ Some v = sym e ∙ contained_found rows k v h.rising ((h.each k v).1 (fold_has k v f)) in cc)
