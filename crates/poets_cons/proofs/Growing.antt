-- The contracts of a table whose rows name earlier ones alone.
use Rattle.std.proofs.Common.{◌≡◌, ℕ, ◌+◌, ◌<◌, List, [], ◌∷◌, ◌++◌, length, slice_get, Some, refl, sym, ◌∙◌, ap, ap₂, subst, inl, inr}
use Rattle.poets_syntax.specs.Contract.{Contract}
use Rattle.poets_syntax.specs.Contract as C
use Rattle.poets_cons.specs.Row.{Row, Transmit, Plus, Par, Seq, contract_by, IsPart}
use Rattle.poets_cons.specs.Table.{nth, grown}
use Rattle.poets_cons.specs.code.Built.{built}
use Rattle.poets_cons.proofs.Built.{length-built, built-later, built-at}

-- a row's contract depends on those of its parts alone
pub contract_by-alike : (f g : ℕ → Contract) (r : Row) → ((k : ℕ) → IsPart r k → f k ≡ g k) → contract_by f r ≡ contract_by g r
contract_by-alike f g (Transmit b p c) h = ap (C.Transmit b p) (h c refl)
contract_by-alike f g (Plus a b) h = ap₂ C.Plus (h a (inl refl)) (h b (inr refl))
contract_by-alike f g (Par a b) h = ap₂ C.Par (h a (inl refl)) (h b (inr refl))
contract_by-alike f g (Seq a b) h = ap₂ C.Seq (h a (inl refl)) (h b (inr refl))
contract_by-alike f g _ h = refl

-- the contracts of a table are such a list
grown-is : (cs : List Contract) (rows : List Row) → grown cs rows ≡ built C.Failure contract_by cs rows
grown-is cs [] = refl
grown-is cs (r ∷ rows) = grown-is (cs ++ contract_by (nth cs) r ∷ []) rows

pub length-grown : (cs : List Contract) (rows : List Row) → length (grown cs rows) ≡ length cs + length rows
length-grown cs rows = ap length (grown-is cs rows) ∙ length-built C.Failure contract_by cs rows

pub grown-append : (cs : List Contract) (rs ss : List Row) → grown cs (rs ++ ss) ≡ grown (grown cs rs) ss
grown-append cs [] ss = refl
grown-append cs (r ∷ rs) ss = grown-append (cs ++ contract_by (nth cs) r ∷ []) rs ss

-- what stands stays
pub grown-later : (cs : List Contract) (old more : List Row) (i : ℕ) → i < length cs + length old → nth (grown cs (old ++ more)) i ≡ nth (grown cs old) i
grown-later cs old more i h =
    ap (λ l. nth l i) (grown-is cs (old ++ more)) ∙ built-later C.Failure contract_by cs old more i h ∙ ap (λ l. nth l i) (sym (grown-is cs old))

-- a row has its contract by those of its parts
pub grown-at : (cs : List Contract) (rows : List Row) (i : ℕ) (r : Row) → slice_get rows i ≡ Some r → ((k : ℕ) → IsPart r k → k < length cs + i) →
    nth (grown cs rows) (length cs + i) ≡ contract_by (nth (grown cs rows)) r
grown-at cs rows i r e h = subst (λ l. nth l (length cs + i) ≡ contract_by (nth l) r) (sym (grown-is cs rows))
    (built-at C.Failure contract_by cs rows i r e (λ f g a. contract_by-alike f g r (λ k m. a k (h k m))))
