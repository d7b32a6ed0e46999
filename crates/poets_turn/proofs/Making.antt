-- What a seat knows after its turn, from what it knew when it took the machine.
use Rattle.std.specs.Prelude.{MatchResult, Result, Ok, Err}
use Rattle.std.specs.Result.{is_ok}
use Rattle.std.proofs.Common.{true, ◌≡◌, ℕ, ◌+◌, ◌<◌, ◌≤◌, ◌^◌, List, [], ◌∷◌, ◌++◌, length, ap, sym, ◌∙◌, subst, arith, length-append, Option, Some, None}
use Rattle.std.proofs.lemmas.List.Elements.{All-push}
use Rattle.atomic_table.specs.Table.{Me}
use Rattle.poets_machine.specs.Histories.{calls_by}
use Rattle.poets_machine.proofs.Histories.{own_added}
use Rattle.poets_turn.specs.declared.view.View.{View}
use Rattle.poets_turn.specs.declared.view.Setting.{Setting}
use Rattle.poets_turn.specs.declared.view.Stage.TheVariants.{Idle}
use Rattle.poets_turn.specs.Settings.{OnlyClerks}
use Rattle.poets_turn.specs.code.Steps.{Served, IsServing}
use Rattle.poets_turn.specs.Clerks.{IsCall}

module _ {A E : Type 0} where
  pub match_ok : (r : Result A E) (P R : A → Type 0) (Q S : E → Type 0) → true ≡ is_ok r → MatchResult r P Q → ((a : A) → P a → R a) → MatchResult r R S
  match_ok (Ok a) P R Q S ok h f = f a h
  match_ok (Err e) P R Q S ok h f = absurd (cc (ok))

  pub ok_fact : (r : Result A E) (P : A → Type 0) (Q : E → Type 0) (X : Type 0) → true ≡ is_ok r → MatchResult r P Q → ((a : A) → P a → X) → X
  ok_fact (Ok a) P Q X ok h f = f a h
  ok_fact (Err e) P Q X ok h f = absurd (cc (ok))

module _ {M C F K : Type 0} (history : M → List (ℕ × C)) (frame : M → F) where
  -- the seat with the view v held the machine x
  module _ (owes : List (ℕ × C) → ℕ → C → K → Type 0) (v : View C F) (t : ℕ) (x : M) (m : Me (Option M) (View C F)) (u : Setting F)
      (holds : IsServing history frame v t x None m) (h : Served history frame v t x) (has : v.setting ≡ Some u) where
    -- which came back as y with one call more
    pub called : (w : View C F) (y : M) (k : ℕ) (c : C) (kept : K) → v.number ≡ k → 0 < k → history y ≡ history x ++ (k, c) ∷ [] → owes (history x) k c kept
        → t + 1 < 2 ^ 64 → w ≡ record m.0 { stage = Idle; front = history y; calls = m.0.calls ++ c ∷ [] } → IsCall owes u.clerks k c kept v.front w.front v.calls w.calls
    called w y k c kept is low adds owed fits now =
        let e = ap (λ m. m.0) holds in let setting = h.setting u has in let few : k ≤ u.clerks = let a = setting.2 in omega arith in
        let front : w.front ≡ history x ++ (k, c) ∷ [] = ap (λ z. z.front) now ∙ adds in
        let calls : w.calls ≡ v.calls ++ c ∷ [] = ap (λ z. z.calls) now ∙ ap (λ z. z.calls ++ c ∷ []) e in
        let before : calls_by k (history x) ≡ v.calls = subst (λ (n : ℕ). calls_by n (history x) ≡ v.calls) is (h.calls (subst (λ (n : ℕ). 0 < n) (sym is) low)).0 in record {
          before = history x;
          longer = h.front;
          last = front;
          owed = owed;
          calls = calls;
          own = ap (calls_by k) front ∙ (own_added k (history x) c ∙ (ap (λ z. z ++ c ∷ []) before ∙ sym calls));
          clerks = subst (OnlyClerks u.clerks) (sym front) (All-push (λ e. (0 < e.0) × (e.0 ≤ u.clerks)) (history x) (k, c) setting.1 (low, few));
          short = let n = ap length front in let a = length-append (history x) ((k, c) ∷ []) in let b = h.short in omega arith;
        }
