-- Rows by name, and contracts by name in the ledger.
use Rattle.std.proofs.Common.{◌≡◌, ℕ, zero, suc, ◌+◌, Bool, true, false, nat_eq, List, [], ◌∷◌, Option, Some, None, map, slice_get, option_map, refl, sym, ◌∙◌, ap, subst, arith, ◌⊎◌, inl, inr}
use Rattle.std.specs.List.{position}
use Rattle.std.proofs.lemmas.Bool.Decides.{nat_tests}
use Rattle.std.proofs.lemmas.Bool.{eqb-true, eq-eqb}
use Rattle.std.proofs.lemmas.Grind.{common_steps}
use Rattle.poets_value.specs.declared.value.Name.{Name}
use Rattle.poets_syntax.specs.Contract.{Contract, contract_of}
use Rattle.poets_syntax.specs.declared.term.Term.{Term}
use Rattle.poets_meaning.specs.Studied.{StudiedBook}
use Rattle.poets_cons.specs.declared.node.Node.{Node}
use Rattle.poets_table.specs.TableView.{RowView}
use Rattle.poets_history.specs.Ledger.{Ledger, contract_from}
use Rattle.poets_engine.specs.Rows.{RowIs, RowsAre}

pub truth : (b : Bool) → (b ≡ true) ⊎ (b ≡ false)
truth true = inl refl
truth false = inr refl

place_head : {A : Type 0} (p : A → Bool) (x : A) (xs : List A) → p x ≡ true → position p (x ∷ xs) ≡ Some 0
place_head p x xs e = grind (arith, common_steps, nat_tests)

place_tail : {A : Type 0} (p : A → Bool) (x : A) (xs : List A) → p x ≡ false → position p (x ∷ xs) ≡ option_map (λ i. i + 1) (position p xs)
place_tail p x xs e = grind (arith, common_steps, nat_tests)

flip : (a b : ℕ) → nat_eq a b ≡ true → nat_eq b a ≡ true
flip a b e = eq-eqb b a (sym (eqb-true a b e))

flip_no : (a b : ℕ) → nat_eq a b ≡ false → nat_eq b a ≡ false
flip_no a b e = elim (truth (nat_eq b a)) [ inr n ↦ n | inl y ↦ absurd (let k = flip b a y in let m = sym e ∙ k in cc) ]

-- the name and the original of a row
abbrev pub named : RowView Term (List Node) → Name × Contract
named r = (r.name, contract_of r.original)

abbrev pub has_name : Name → RowView Term (List Node) → Bool
has_name x r = nat_eq x.id r.name.id

mapped_none : {A B : Type 0} (f : A → B) (o : Option A) → option_map f o ≡ None → o ≡ None
mapped_none f None e = refl
mapped_none f (Some x) e = absurd cc

mapped_some : (o : Option ℕ) (k : ℕ) → option_map (λ i. i + 1) o ≡ Some (suc k) → o ≡ Some k
mapped_some None k e = absurd cc
mapped_some (Some j) k e = let h : j + 1 ≡ suc k = cc in ap Some (omega (arith, h))

no_zero : (o : Option ℕ) → option_map (λ i. i + 1) o ≡ Some 0 → ⊥
no_zero None e = absurd cc
no_zero (Some j) e = let h : j + 1 ≡ 0 = cc in omega (arith, h)

-- where no row has the name, no contract has it
pub contract_from-none : (x : Name) (i : ℕ) (rows : List (RowView Term (List Node))) → position (has_name x) rows ≡ None → contract_from i x (map named rows) ≡ None
contract_from-none x i [] e = refl
contract_from-none x i (r ∷ rows) e = elim (truth (has_name x r)) [
  | inl y ↦ absurd (let h = sym (place_head (has_name x) r rows y) ∙ e in cc)
  | inr n ↦ (
      let h = mapped_none (λ i. i + 1) (position (has_name x) rows) (sym (place_tail (has_name x) r rows n) ∙ e) in
      rw (flip_no x.id r.name.id n) (contract_from-none x (suc i) rows h))
]

-- the row with the name is that of the contract with the name
pub contract_from-some : (x : Name) (i k : ℕ) (rows : List (RowView Term (List Node))) (r : RowView Term (List Node)) → position (has_name x) rows ≡ Some k → slice_get rows k ≡ Some r →
    contract_from i x (map named rows) ≡ Some (i + k, contract_of r.original)
contract_from-some x i k [] r e h = absurd cc
contract_from-some x i zero (r' ∷ rows) r e h = elim (truth (has_name x r')) [
  | inl y ↦ (
      let q : r' ≡ r = cc in
      rw (flip x.id r'.name.id y) (ap (λ n. Some (n, contract_of r'.original)) (let z : i ≡ i + 0 = omega arith in z) ∙ ap (λ t. Some (i + 0, contract_of t.original)) q))
  | inr n ↦ absurd (no_zero (position (has_name x) rows) (sym (place_tail (has_name x) r' rows n) ∙ e))
]
contract_from-some x i (suc k) (r' ∷ rows) r e h = elim (truth (has_name x r')) [
  | inl y ↦ absurd (let z = sym (place_head (has_name x) r' rows y) ∙ e in cc)
  | inr n ↦ (
      let w = mapped_some (position (has_name x) rows) k (sym (place_tail (has_name x) r' rows n) ∙ e) in
      rw (flip_no x.id r'.name.id n) (contract_from-some x (suc i) k rows r w h ∙ ap (λ m. Some (m, contract_of r.original)) (let z : suc i + k ≡ i + suc k = omega arith in z)))
]

-- where a row has the name, a contract has it
pub contract_from-found : (x : Name) (i k : ℕ) (rows : List (RowView Term (List Node))) → position (has_name x) rows ≡ Some k →
    (c : Contract) × (contract_from i x (map named rows) ≡ Some (i + k, c))
contract_from-found x i k [] e = absurd cc
contract_from-found x i zero (r ∷ rows) e = elim (truth (has_name x r)) [
  | inl y ↦ (contract_of r.original, rw (flip x.id r.name.id y) (ap (λ n. Some (n, contract_of r.original)) (let z : i ≡ i + 0 = omega arith in z)))
  | inr n ↦ absurd (no_zero (position (has_name x) rows) (sym (place_tail (has_name x) r rows n) ∙ e))
]
contract_from-found x i (suc k) (r ∷ rows) e = elim (truth (has_name x r)) [
  | inl y ↦ absurd (let z = sym (place_head (has_name x) r rows y) ∙ e in cc)
  | inr n ↦ (
      let w = mapped_some (position (has_name x) rows) k (sym (place_tail (has_name x) r rows n) ∙ e) in
      let m = contract_from-found x (suc i) k rows w in
      (m.0, rw (flip_no x.id r.name.id n) (m.1 ∙ ap (λ j. Some (j, m.0)) (let z : suc i + k ≡ i + suc k = omega arith in z))))
]

-- the row at a place is that of its number
pub row_is : (s : StudiedBook) (l : Ledger) (i k : ℕ) (rows : List (RowView Term (List Node))) (r : RowView Term (List Node)) → RowsAre s l i rows → slice_get rows k ≡ Some r → RowIs s l (i + k) r
row_is s l i k [] r h e = absurd cc
row_is s l i zero (r' ∷ rows) r h e =
    let q : r' ≡ r = cc in
    subst (λ n. RowIs s l n r) (let z : i ≡ i + 0 = omega arith in z) (subst (RowIs s l i) q h.0)
row_is s l i (suc k) (r' ∷ rows) r h e =
    subst (λ n. RowIs s l n r) (let z : suc i + k ≡ i + suc k = omega arith in z) (row_is s l (suc i) k rows r h.1 e)
