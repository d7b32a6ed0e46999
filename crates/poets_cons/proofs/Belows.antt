-- The numbers that rows name.
use Rattle.std.proofs.Common.{◌≡◌, ℕ, ◌<◌, sym, subst, inl, inr, ◌⊎◌}
use Rattle.poets_cons.specs.Row.{Row, Transmit, Plus, Par, Seq, IsPart, AreBelow}

one_below : (n a b k : ℕ) → (a < n) × (b < n) → (k ≡ a) ⊎ (k ≡ b) → k < n
one_below n a b k h m = elim m [ inl e ↦ subst (λ x. x < n) (sym e) h.0 | inr e ↦ subst (λ x. x < n) (sym e) h.1 ]

pub part_below : (n : ℕ) (r : Row) → AreBelow n r → (k : ℕ) → IsPart r k → k < n
part_below n (Transmit b p c) h k m = subst (λ x. x < n) (sym m) h
part_below n (Plus a b) h k m = one_below n a b k h m
part_below n (Par a b) h k m = one_below n a b k h m
part_below n (Seq a b) h k m = one_below n a b k h m
part_below n _ h k m = absurd m
