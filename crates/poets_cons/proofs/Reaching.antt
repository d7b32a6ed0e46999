-- What is reached, and what was entered.
use Rattle.std.proofs.Common.{◌≡◌, ℕ, List, length, slice_get, Some, inl, inr, Result, Ok, Err, IfOk}
use Rattle.std.proofs.lemmas.Bool.{cases_lt}
use Rattle.poets_cons.specs.declared.node.Node.{Node}
use Rattle.poets_cons.specs.Row.{Row, IsPart}
use Rattle.poets_cons.specs.Table.{rows_of, Reached, Extends, AddsReached, AddsReachedBoth}
use Rattle.poets_cons.proofs.Standing.{row_later}

-- two facts of a result
pub both_ok : {X E : Type 0} (P Q R : X → Type 0) (r : Result X E) → ((x : X) → P x → Q x → R x) → IfOk r P → IfOk r Q → IfOk r R
both_ok P Q R (Ok x) f p q = f x p q
both_ok P Q R (Err e) f p q = tt

pub one_ok : {X E : Type 0} (P R : X → Type 0) (r : Result X E) → ((x : X) → P x → R x) → IfOk r P → IfOk r R
one_ok P R (Ok x) f p = f x p
one_ok P R (Err e) f p = tt

pub reached_later : (old new : List Node) → Extends old new → {i k : ℕ} → Reached (rows_of old) i k → Reached (rows_of new) i k
reached_later old new x Reached.Root = Reached.Root
reached_later old new x (Reached.Part {i = j} {r = r} h e m) = Reached.Part (reached_later old new x h) (row_later old new x j r e) m

pub reached_through : (rows : List Row) {p a k : ℕ} → Reached rows p a → Reached rows a k → Reached rows p k
reached_through rows h Reached.Root = h
reached_through rows h (Reached.Part g e m) = Reached.Part (reached_through rows h g) e m

-- by way of a part
pub reached_by : (rows : List Row) (p a k : ℕ) (r : Row) → slice_get rows p ≡ Some r → IsPart r a → Reached rows a k → Reached rows p k
reached_by rows p a k r e m h = reached_through rows (Reached.Part Reached.Root e m) h

module _ (old mid new : List Node) (after : Extends mid new) (a : ℕ) (first : AddsReached old mid a) (r : Row) where
  pub reached_one : IsPart r a → (p : ℕ) → slice_get (rows_of new) p ≡ Some r → AddsReached mid new p → AddsReached old new p
  reached_one m p e last k l n = elim (cases_lt k (length mid)) [
    | inl h ↦ reached_by (rows_of new) p a k r e m (reached_later mid new after (first k l h))
    | inr h ↦ last k h n
  ]

module _ (old mid new : List Node) (after : Extends mid new) (a b : ℕ) where
  -- from the one row or from the other
  pub reached_both : AddsReached old mid a → AddsReached mid new b → AddsReachedBoth old new a b
  reached_both first second k l n = elim (cases_lt k (length mid)) [
    | inl h ↦ inl (reached_later mid new after (first k l h))
    | inr h ↦ inr (second k h n)
  ]

  -- and so from the row that has the two as its parts
  pub reached_parts : AddsReachedBoth old mid a b → (r : Row) → IsPart r a → IsPart r b → (p : ℕ) → slice_get (rows_of new) p ≡ Some r →
      AddsReached mid new p → AddsReached old new p
  reached_parts both r f s p e last k l n = elim (cases_lt k (length mid)) [
    | inl h ↦ elim (both k l h) [
      | inl g ↦ reached_by (rows_of new) p a k r e f (reached_later mid new after g)
      | inr g ↦ reached_by (rows_of new) p b k r e s (reached_later mid new after g)
    ]
    | inr h ↦ last k h n
  ]
