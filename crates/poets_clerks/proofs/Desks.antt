-- What a desk's work comes to, and the work at all desks.
use Rattle.std.proofs.Common.{◌≡◌, ◌⊎◌, ℕ, zero, suc, ◌+◌, ◌<◌, Bool, false, List, [], ◌∷◌, ◌++◌, length, map, take, drop, get_or, refl, arith, ◌∙◌, ap, sym, subst, inl, inr, ⊎_elim}
use Rattle.std.specs.Prelude.{All}
use Rattle.std.proofs.lemmas.List.{append-nil, drop_all, length-map, take-map, get_or-map}
use mathlib.Core.List.{IsPrefix}
use Rattle.poets_turn.specs.declared.types.Turn.{Turn}
use Rattle.poets_turn.specs.declared.types.ClerkOf.{ClerkOf}
use Rattle.poets_turn.specs.Clerks.{front, calls, number, turn_frame, IsClerkOf}
use Rattle.poets_clerks.specs.Scripts.{AreAnswers, HasWorked, EachWorked}

module _ {M C R K F : Type 0} (frame : M → F) (answers : F → List (ℕ × C) → ℕ → C → R → Type 0) (turn : Turn M C R K F) where
  -- a script and the answers to it, as a desk keeps them
  module _ {A D : Type 0} (memory : Bool) (f : A → C) (h : D → ℕ × R) where
    pub worked : (xs : List A) (ds : List D) (v w : ClerkOf M C F)
        → IsClerkOf frame turn w → number w ≡ number v → IsPrefix (front v) (front w) → AreAnswers (answers (turn_frame frame turn)) (front w) (number v) (length (front v)) (map f xs) (map h ds)
        → (memory ≡ false → (length ds ≡ length xs) × (calls w ≡ calls v ++ map f xs)) → (calls w ≡ calls v ++ map f (take (length ds) xs)) ⊎ (calls w ≡ calls v ++ map f (take (length ds + 1) xs))
        → HasWorked frame answers turn memory (map f xs) v w (map h ds)
    worked xs ds v w of is longer answered whole part =
        let n = length-map ds h in let mine = calls v in record {
          of = of;
          same = is;
          longer = longer;
          answered = answered;
          whole = λ e. let t = whole e in (n ∙ (t.0 ∙ sym (length-map xs f)), t.1);
          part = ⊎_elim
              (λ e. inl (e ∙ ap (λ z. mine ++ z) (sym (take-map f (length ds) xs) ∙ ap (λ k. take k (map f xs)) (sym n))))
              (λ e. inr (e ∙ ap (λ z. mine ++ z) (sym (take-map f (length ds + 1) xs) ∙ ap (λ k. take (k + 1) (map f xs)) (sym n)))) part;
        }

  -- with no want of memory at any desk there is none at each
  more_memory : (memory all : Bool) (script : List C) (v w : ClerkOf M C F) (done : List (ℕ × R)) → (all ≡ false → memory ≡ false) → HasWorked frame answers turn memory script v w done → HasWorked frame answers turn all script v w done
  more_memory memory all script v w done less h = record { of = h.of; same = h.same; longer = h.longer; answered = h.answered; whole = λ e. h.whole (less e); part = h.part }

  -- from the work at each place to that of all
  module _ {D S A : Type 0} (all : Bool) (memory : D → Bool) (clerk : D → ClerkOf M C F) (done : D → A) (h : A → List (ℕ × R)) (script : S → List C) where
    pub each_worked : (ss : List S) (xs ys : List D) → length ss ≡ length xs → length ys ≡ length xs
        → ((k : ℕ) (d : D) → k < length ys → all ≡ false → memory (get_or ys k d) ≡ false)
        → ((k : ℕ) (s : S) (d : D) → k < length xs → HasWorked frame answers turn (memory (get_or ys k d)) (script (get_or ss k s)) (clerk (get_or xs k d)) (clerk (get_or ys k d)) (h (done (get_or ys k d))))
        → EachWorked frame answers turn all (map script ss) (map clerk xs) (map clerk ys) (map h (map done ys))
    each_worked [] [] [] e e' none each = EachWorked.None
    each_worked [] [] (y ∷ ys) e e' none each = absurd (omega arith)
    each_worked [] (x ∷ xs) ys e e' none each = absurd (omega arith)
    each_worked (s ∷ ss) [] ys e e' none each = absurd (omega arith)
    each_worked (s ∷ ss) (x ∷ xs) [] e e' none each = absurd (omega arith)
    each_worked (s ∷ ss) (x ∷ xs) (y ∷ ys) e e' none each = EachWorked.More
        (more_memory (memory y) all (script s) (clerk x) (clerk y) (h (done y)) (none 0 y (omega arith)) (each 0 s y (omega arith)))
        (each_worked ss xs ys (omega arith) (omega arith) (λ k d l. none (suc k) d (omega arith)) (λ k s' d l. each (suc k) s' d (omega arith)))

-- what holds of each that f gives holds of what f gives at each place
pub at_desk : {A B : Type 0} (P : B → Type 0) (f : A → B) (xs : List A) (ys : List B) → map f xs ≡ ys → All P ys → (k : ℕ) (d : A) → k < length xs → P (f (get_or xs k d))
at_desk P f xs ys same all k d inside = let n = length-map xs f in let m = ap length same in
    subst P (ap (λ l. get_or l k (f d)) (sym same) ∙ get_or-map f xs k d (f d) inside) (all k (f d) (omega arith))

take_whole : {A : Type 0} (n : ℕ) (xs : List A) → length xs ≡ n → take n xs ≡ xs
take_whole zero [] e = refl
take_whole zero (x ∷ xs) e = absurd (omega arith)
take_whole (suc n) [] e = absurd (omega arith)
take_whole (suc n) (x ∷ xs) e = ap (λ l. x ∷ l) (take_whole n xs (omega arith))

-- a list that was written over whole
pub written_over : {A : Type 0} (n : ℕ) (new old : List A) → length new ≡ n → length old ≡ n → take n (new ++ drop (length new) old) ≡ new
written_over n new old e e' = ap (λ l. take n (new ++ l)) (drop_all (length new) old (omega arith)) ∙ (ap (take n) (append-nil new) ∙ take_whole n new e)
