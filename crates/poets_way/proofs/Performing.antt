-- Ways and performing traces.
use Rattle.std.proofs.Common.{◌≡◌, ◌≤◌, suc, Bool, true, false, List, [], ◌∷◌, ◌++◌, length, refl, sym, ap, subst, arith}
use Rattle.std.proofs.lemmas.List.{take-append-drop}
use Rattle.std.proofs.Math.Seq.{take-append_seam, drop-append_seam}
use Rattle.poets_value.specs.declared.event.Event.{Event}
use Rattle.poets_expr.specs.Env.{Env}
use Rattle.poets_syntax.specs.Contract.{Contract, Seq}
use Rattle.poets_syntax.specs.Plain.{Book}
use Rattle.poets_meaning.specs.Between.{Between}
use Rattle.poets_meaning.specs.Perf.{Perf}
use Rattle.poets_way.specs.Way.{Way}
use Rattle.poets_way.specs.Way as W
use Rattle.poets_way.specs.Ways.{Ways, first_of, second_of}

-- the items of the two sides, interleaved
sides_between : {A : Type 0} (sides : List Bool) (s : List A) → length sides ≡ length s → Between (first_of sides s) (second_of sides s) s
sides_between [] [] e = Between.Empty
sides_between [] (x ∷ s) e = absurd cc
sides_between (b ∷ sides) [] e = absurd cc
sides_between (true ∷ sides) (x ∷ s) e = Between.Second (sides_between sides s (omega (arith, e)))
sides_between (false ∷ sides) (x ∷ s) e = Between.First (sides_between sides s (omega (arith, e)))

-- the sides of an interleaving
some_sides : {A : Type 0} {s₁ s₂ s : List A} → Between s₁ s₂ s →
    (sides : List Bool) × (length sides ≡ length s) × (first_of sides s ≡ s₁) × (second_of sides s ≡ s₂)
some_sides Between.Empty = ([], refl, refl, refl)
some_sides (Between.First {x = x} b) = let r = some_sides b in (false ∷ r.0, ap suc r.1, ap (λ u. x ∷ u) r.2, r.3)
some_sides (Between.Second {x = x} b) = let r = some_sides b in (true ∷ r.0, ap suc r.1, r.2, ap (λ u. x ∷ u) r.3)

pub ways_perform : {book : Book} {env : Env} {c : Contract} {s : List Event} {w : Way} → Ways book env c s w → Perf book env c s
ways_perform Ways.Nothing = Perf.Done
ways_perform (Ways.Enter q l h) = Perf.Body q l (ways_perform h)
ways_perform (Ways.Take q h) = Perf.Taken q (ways_perform h)
ways_perform (Ways.Left h) = Perf.Left (ways_perform h)
ways_perform (Ways.Right h) = Perf.Right (ways_perform h)
ways_perform (Ways.Both {s = s} {sides = sides} l h k) = Perf.Beside (sides_between sides s l) (ways_perform h) (ways_perform k)
ways_perform (Ways.Then {s = s} {n = n} l h k) = Perf.Then (sym (take-append-drop n s)) (ways_perform h) (ways_perform k)

within : {A : Type 0} (xs ys : List A) → length xs ≤ length (xs ++ ys)
within [] ys = omega arith
within (x ∷ xs) ys = let h = within xs ys in omega (arith, h)

pub some_way : {book : Book} {env : Env} {c : Contract} {s : List Event} → Perf book env c s → (w : Way) × Ways book env c s w
some_way Perf.Done = (W.Nothing, Ways.Nothing)
some_way (Perf.Taken q p) = let w = some_way p in (W.Take w.0, Ways.Take q w.1)
some_way (Perf.Left p) = let w = some_way p in (W.Left w.0, Ways.Left w.1)
some_way (Perf.Right p) = let w = some_way p in (W.Right w.0, Ways.Right w.1)
some_way {book} {env} (Perf.Beside {c₁ = c₁} {c₂ = c₂} b p q) =
    let sides = some_sides b in
    let v = some_way p in
    let u = some_way q in (
      W.Both sides.0 v.0 u.0,
      Ways.Both sides.1 (subst (λ x. Ways book env c₁ x v.0) (sym sides.2) v.1) (subst (λ x. Ways book env c₂ x u.0) (sym sides.3) u.1),
    )
some_way {book} {env} (Perf.Then {c₁ = c₁} {c₂ = c₂} {s₁ = s₁} {s₂ = s₂} e p q) =
    let v = some_way p in
    let u = some_way q in (
      W.Then (length s₁) v.0 u.0,
      subst (λ x. Ways book env (Seq c₁ c₂) x (W.Then (length s₁) v.0 u.0)) (sym e)
          (Ways.Then (within s₁ s₂) (subst (λ x. Ways book env c₁ x v.0) (sym (take-append_seam s₁ s₂)) v.1)
          (subst (λ x. Ways book env c₂ x u.0) (sym (drop-append_seam s₁ s₂)) u.1)),
    )
some_way (Perf.Body q l p) = let w = some_way p in (W.Enter w.0, Ways.Enter q l w.1)
