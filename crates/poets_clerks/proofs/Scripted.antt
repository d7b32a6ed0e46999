-- What holds of all scripts holds of the history that clerks make with them.
use Rattle.std.proofs.Common.{◌≡◌, ℕ, zero, suc, ◌+◌, ◌-◌, ◌<◌, ◌≤◌, ◌==◌, Bool, true, false, List, [], ◌∷◌, ◌++◌, length, map, get_or, refl, arith, ◌∙◌, ap, sym, subst, eq-eqb, if◌then◌else◌, Some}
use Rattle.std.specs.Prelude.{All, Contains, slice_get}
use Rattle.std.proofs.lemmas.List.{length-map}
use Rattle.std.proofs.lemmas.List.{map-append}
use Rattle.std.proofs.lemmas.List.Elements.{All-contains, All-map, Contains-append_left, Contains-append_right}
use Rattle.std.proofs.lemmas.Option.{slice_get-get_or}
use Rattle.poets_machine.specs.Histories.{calls_by}
use Rattle.poets_turn.specs.Settings.{OnlyClerks}
use Rattle.poets_clerks.specs.Histories.{HasScriptParts, HasScripts}

module _ {C : Type 0} where
  -- a clerk's call is one of its own
  own_has : (h : List (ℕ × C)) (k : ℕ) (c : C) (place : ℕ) → slice_get h place ≡ Some (k, c) → Contains (calls_by k h) c
  own_has [] k c place at = absurd (cc (at))
  own_has (e ∷ es) k c zero at =
      let same : e ≡ (k, c) = cc (at) in
      subst (λ (x : ℕ × C). Contains (calls_by k (x ∷ es)) c) (sym same)
      (subst (λ (b : Bool). Contains (if b then c ∷ calls_by k es else calls_by k es) c) (sym (eq-eqb k k refl)) (0, omega arith, refl))
  own_has (e ∷ es) k c (suc place) at = later (e.0 == k) e.1 (calls_by k es) c (own_has es k c place at)
    where
      later : (b : Bool) (x : C) (xs : List C) (y : C) → Contains xs y → Contains (if b then x ∷ xs else xs) y
      later true x xs y held = Contains-append_right (x ∷ []) xs y held
      later false x xs y held = held

  pub scripts_hold : (P : C → Type 0) (scripts : List (List C)) (h : List (ℕ × C)) → HasScripts scripts h → All (All P) scripts → All (λ e. P e.1) h
  scripts_hold P scripts h made all = λ place e inside.
      let entry = get_or h place e in let only = made.clerks place e inside in let low = only.0 in let high = only.1 in
      let index = entry.0 - 1 in let here : index < length scripts = omega arith in
      let script = get_or scripts index [] in
      let own : calls_by entry.0 h ≡ script = ap (λ k. calls_by k h) (omega arith) ∙ made.own index script (slice_get-get_or scripts index [] here) in
      All-contains P script entry.1 (all index [] here) (subst (λ l. Contains l entry.1) own (own_has h entry.0 entry.1 place (slice_get-get_or h place e inside)))

  -- so it does where they made a part of each
  pub parts_hold : (P : C → Type 0) (scripts : List (List C)) (h : List (ℕ × C)) → HasScriptParts scripts h → All (All P) scripts → All (λ e. P e.1) h
  parts_hold P scripts h made all = λ place e inside.
      let entry = get_or h place e in let only = made.clerks place e inside in let low = only.0 in let high = only.1 in
      let index = entry.0 - 1 in let here : index < length scripts = omega arith in
      let script = get_or scripts index [] in
      let part = made.own index script (slice_get-get_or scripts index [] here) in
      let own : Contains (calls_by (index + 1) h) entry.1 =
      subst (λ k. Contains (calls_by k h) entry.1) (omega arith) (own_has h entry.0 entry.1 place (slice_get-get_or h place e inside)) in
      All-contains P script entry.1 (all index [] here) (subst (λ l. Contains l entry.1) part.1 (Contains-append_left (calls_by (index + 1) h) part.0 entry.1 own))

module _ {C D : Type 0} (f : C → D) where
  own_mapped : (k : ℕ) (h : List (ℕ × C)) → calls_by k (map (λ e. (e.0, f e.1)) h) ≡ map f (calls_by k h)
  own_mapped k [] = refl
  own_mapped k (e ∷ es) = each (e.0 == k) e.1 (calls_by k es) (calls_by k (map (λ e. (e.0, f e.1)) es)) (own_mapped k es)
    where
      each : (b : Bool) (x : C) (xs : List C) (ys : List D) → ys ≡ map f xs → (if b then f x ∷ ys else ys) ≡ map f (if b then x ∷ xs else xs)
      each true x xs ys e = ap (λ l. f x ∷ l) e
      each false x xs ys e = e

  some_mapped : (ss : List (List C)) (place : ℕ) (script : List D) → slice_get (map (map f) ss) place ≡ Some script → (s : List C) × (slice_get ss place ≡ Some s) × (map f s ≡ script)
  some_mapped [] place script at = absurd (cc (at))
  some_mapped (s ∷ ss) zero script at = (s, refl, cc (at))
  some_mapped (s ∷ ss) (suc place) script at = some_mapped ss place script at

  -- the same of what each call stands for
  pub scripts_mapped : (scripts : List (List C)) (h : List (ℕ × C)) → HasScripts scripts h → HasScripts (map (map f) scripts) (map (λ e. (e.0, f e.1)) h)
  scripts_mapped scripts h made = record {
    own = λ place script at. let s = some_mapped scripts place script at in own_mapped (place + 1) h ∙ (ap (map f) (made.own place s.0 s.1) ∙ s.2);
    clerks = subst (λ n. OnlyClerks n (map (λ (e : ℕ × C). (e.0, f e.1)) h)) (sym (length-map scripts (map f))) (All-map (λ (e : ℕ × D). (0 < e.0) × (e.0 ≤ length scripts)) (λ (e : ℕ × C). (e.0, f e.1)) h made.clerks);
  }

  pub parts_mapped : (scripts : List (List C)) (h : List (ℕ × C)) → HasScriptParts scripts h → HasScriptParts (map (map f) scripts) (map (λ e. (e.0, f e.1)) h)
  parts_mapped scripts h made = record {
    own = λ place script at.
        let s = some_mapped scripts place script at in
        let part = made.own place s.0 s.1 in
        (map f part.0, ap (λ l. l ++ map f part.0) (own_mapped (place + 1) h) ∙ (sym (map-append f (calls_by (place + 1) h) part.0) ∙ (ap (map f) part.1 ∙ s.2)));
    clerks = subst (λ n. OnlyClerks n (map (λ (e : ℕ × C). (e.0, f e.1)) h)) (sym (length-map scripts (map f))) (All-map (λ (e : ℕ × D). (0 < e.0) × (e.0 ≤ length scripts)) (λ (e : ℕ × C). (e.0, f e.1)) h made.clerks);
  }
