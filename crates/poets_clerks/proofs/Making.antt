-- One call with its answer.
use Rattle.std.proofs.Common.{◌≡◌, ℕ, List, [], ◌∷◌, ◌++◌, length, ap, sym, subst, arith, length-append}
use mathlib.Core.List.{IsPrefix}
use Rattle.poets_turn.proofs.Fronts.{prefix_trans, prefix_length, prefix_self}
use Rattle.poets_turn.specs.Clerks.{IsCall}
use Rattle.poets_clerks.specs.Scripts.{IsAnswered}

module _ {C K R : Type 0} where
  pub answered : {owes : List (ℕ × C) → ℕ → C → K → Type 0} {answers : List (ℕ × C) → ℕ → C → R → Type 0} {count k : ℕ} {c : C} {kept : K} {saw saw' : List (ℕ × C)} {made made' : List C} {p : ℕ} {r : R}
      → (h : IsCall owes count k c kept saw saw' made made') → p ≡ length h.before → answers h.before k c r → IsAnswered answers k saw saw' made made' c (p, r)
  answered {owes} {answers} {count} {k} {c} {kept} {saw} {saw'} {made} {made'} {p} {r} h place right =
      let l = prefix_length saw h.before h.longer in let n = ap length h.last in let m = length-append h.before ((k, c) ∷ []) in record {
        longer = prefix_trans saw h.before saw' h.longer ((k, c) ∷ [], sym h.last);
        answer = record { before = h.before; at = place; here = subst (IsPrefix (h.before ++ (k, c) ∷ [])) (sym h.last) (prefix_self (h.before ++ (k, c) ∷ [])); right = right };
        after = omega arith;
        within = omega arith;
        calls = h.calls;
      }
