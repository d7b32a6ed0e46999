-- The test for equal rows is right.
use Rattle.std.proofs.Common.{◌≡◌, ℕ, Bool, true, ◌&&◌, nat_eq, refl, ap, ap₂, eq-eqb}
use Rattle.std.specs.Cmp.{IsEquivalence, both_ways}
use Rattle.std.specs.Hash.{Alike}
use borrow.Author.Tests.{eqb-true}
use Rattle.poets_expr.specs.Env.{same_name}
use Rattle.poets_expr.specs.Same.{same}
use Rattle.poets_expr.proofs.SameTrees.{both_true, name_one, same_one, same_itself}
use Rattle.poets_syntax.specs.Same.{same_binders, same_args, same_contract}
use Rattle.poets_syntax.proofs.SameContracts.{binders_one, args_one, binders_itself, args_itself}
use Rattle.poets_syntax.proofs.SameContracts.{contract_one, contract_itself}
use Rattle.poets_cons.specs.Row.{Row, Success, Failure, Transmit, Plus, Par, Seq, App}
use Rattle.poets_cons.specs.Same.{same_row}
use Rattle.poets_cons.specs.code.Hashing.{row_writes}

pub row_one : (r s : Row) → same_row r s ≡ true → r ≡ s
row_one Success Success e = refl
row_one Failure Failure e = refl
row_one (Transmit b p c) (Transmit d q f) e =
    let h = both_true (same_binders b d && same p q) (nat_eq c f) e in
    let k = both_true (same_binders b d) (same p q) h.0 in
    let i = binders_one b d k.0 in
    let j = same_one p q k.1 in
    let l = eqb-true c f h.1 in
    cc
row_one (Plus a b) (Plus c d) e =
    let h = both_true (nat_eq a c) (nat_eq b d) e in
    ap₂ Plus (eqb-true a c h.0) (eqb-true b d h.1)
row_one (Par a b) (Par c d) e =
    let h = both_true (nat_eq a c) (nat_eq b d) e in
    ap₂ Par (eqb-true a c h.0) (eqb-true b d h.1)
row_one (Seq a b) (Seq c d) e =
    let h = both_true (nat_eq a c) (nat_eq b d) e in
    ap₂ Seq (eqb-true a c h.0) (eqb-true b d h.1)
row_one (App f xs) (App g ys) e =
    let h = both_true (same_name f g) (same_args xs ys) e in
    ap₂ App (name_one f g h.0) (args_one xs ys h.1)
row_one _ _ e = absurd cc

nat_itself : (n : ℕ) → nat_eq n n ≡ true
nat_itself n = eq-eqb n n refl

pub row_itself : (r : Row) → same_row r r ≡ true
row_itself Success = refl
row_itself Failure = refl
row_itself (Transmit b p c) = rw (binders_itself b, same_itself p, nat_itself c) refl
row_itself (Plus a b) = rw (nat_itself a, nat_itself b) refl
row_itself (Par a b) = rw (nat_itself a, nat_itself b) refl
row_itself (Seq a b) = rw (nat_itself a, nat_itself b) refl
row_itself (App f args) = rw (nat_itself f.id, args_itself args) refl

-- a test of equality is an equivalence
pub equality-laws :
    {X : Type 0} (E : X → X → Bool) → ((x y : X) → E x y ≡ true → x ≡ y) → ((x : X) → E x x ≡ true) →
    IsEquivalence E
equality-laws E one itself = record {
  refl = itself;
  symm = λ x y. both_ways (E x y) (E y x) (λ e. rw (one x y e) (itself y)) (λ e. rw (one y x e) (itself x));
  congr = λ x y z e. rw (one x y e) refl;
}

pub row_laws : IsEquivalence same_row
row_laws = equality-laws same_row row_one row_itself

pub contract_laws : IsEquivalence same_contract
contract_laws = equality-laws same_contract contract_one contract_itself

-- equal rows feed the same
pub row_fed : Alike same_row row_writes
row_fed = record { fed = λ r s e. ap row_writes (row_one r s e) }
