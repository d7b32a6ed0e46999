-- Choices at the rows of a table.
use Rattle.std.proofs.Common.{◌≡◌, ◌↔◌, ℕ, ◌<◌, Bool, true, false, IsTrue, arith, List, length, refl, sym, ◌∙◌, ap, ap₂, subst, if◌then◌else◌}
use Rattle.std.specs.Cmp.{both_ways}
use Rattle.std.proofs.lemmas.List.{length-map}
use Rattle.std.proofs.Math.Bool.{or-false}
use Rattle.poets_syntax.specs.Contract.{Contract, Failure, Plus}
use Rattle.poets_syntax.specs.Plain.{Book}
use Rattle.poets_meaning.specs.Marks.{Marks}
use Rattle.poets_calculus.specs.Alike.{Alike, alike}
use Rattle.poets_calculus.specs.Normal.{alternatives, plus, normal}
use Rattle.poets_calculus.proofs.AlikeTests.{alike_iff}
use Rattle.poets_calculus.proofs.Multisets.{Alike-sym}
use Rattle.poets_norm.specs.Choices.{distinct_choice, holds_alike, IsDistinctChoice}
use Rattle.poets_norm.proofs.Alternatives.{IsOne, alternatives-one, front_of, plus-front, plus-one, plus-distinct, distinct_choice-twice}
use Rattle.poets_norm.proofs.NormalForms.{normal_is_distinct}
use Rattle.poets_norm.proofs.Parts.{IsProper}
use Rattle.poets_cons.specs.declared.node.Node.{Node}
use Rattle.poets_cons.specs.declared.node.Node.TheVariants as N
use Rattle.poets_cons.specs.Forms.{has_parallel}
use Rattle.poets_cons.specs.Row.{row_of, contract_by}
use Rattle.poets_cons.specs.Table.{rows_of, contract_at, IsTable, Stands, Extends}
use Rattle.poets_cons.proofs.Alikeness.{alike_one}
use Rattle.poets_cons.proofs.Places.{one_place}
use Rattle.poets_cons.proofs.Standing.{contract_at-later}

-- a row in which no `||` stands is alike to itself alone
pub alike_place : (nodes : List Node) → IsTable nodes → (i j : ℕ) → i < length nodes → j < length nodes → has_parallel (contract_at nodes j) ≡ false →
    alike (contract_at nodes i) (contract_at nodes j) ≡ true → i ≡ j
alike_place nodes table i j a b none e =
    let n = length-map nodes row_of in
    let one = alike_one (Alike-sym ((alike_iff (contract_at nodes i) (contract_at nodes j)).0 e)) none in
    one_place (rows_of nodes) table.earlier table.distinct i j (omega arith) (omega arith) (sym one)

-- a node that is no choice
abbrev pub IsOther : Node → Type 0
IsOther n = (n ≡ N.Failure → ⊥) × ((a b : ℕ) → n ≡ N.Plus a b → ⊥)

one_of : (part : ℕ → Contract) (n : Node) → IsOther n → IsOne (contract_by part (row_of n))
one_of part N.Failure h = h.0 refl
one_of part (N.Plus a b) h = h.1 a b refl
one_of part _ h = tt

some_of : (part : ℕ → Contract) (n : Node) → (n ≡ N.Failure → ⊥) → contract_by part (row_of n) ≡ Failure → ⊥
some_of part N.Failure h e = h refl
some_of part _ h e = cc

proper_of : (part : ℕ → Contract) (n : Node) → (n ≡ N.Failure → ⊥) → (n ≡ N.Success → ⊥) → IsProper (contract_by part (row_of n))
proper_of part N.Failure h k = h refl
proper_of part N.Success h k = k refl
proper_of part _ h k = tt

module _ (nodes : List Node) (i : ℕ) (n : Node) (here : contract_at nodes i ≡ contract_by (contract_at nodes) (row_of n)) where
  pub some_at : (n ≡ N.Failure → ⊥) → contract_at nodes i ≡ Failure → ⊥
  some_at h e = some_of (contract_at nodes) n h (sym here ∙ e)

  pub proper_at : (n ≡ N.Failure → ⊥) → (n ≡ N.Success → ⊥) → IsProper (contract_at nodes i)
  proper_at h k = subst IsProper (sym here) (proper_of (contract_at nodes) n h k)

  pub one_at : IsOther n → IsOne (contract_at nodes i)
  one_at h = subst IsOne (sym here) (one_of (contract_at nodes) n h)

  -- it is its own one alternative
  pub has_other : IsOther n → (c : Contract) (r : Bool) → (IsTrue r ↔ Alike (contract_at nodes i) c) → r ≡ holds_alike (alternatives (contract_at nodes i)) c
  has_other h c r is =
      let test = alike_iff (contract_at nodes i) c in
      both_ways r (alike (contract_at nodes i) c) (λ e. test.1 (is.0 e)) (λ e. is.1 (test.0 e)) ∙ sym (or-false (alike (contract_at nodes i) c))
      ∙ sym (ap (λ ds. holds_alike ds c) (alternatives-one (contract_at nodes i) (one_at h)))

pub front_distinct : (nodes : List Node) (b front last : ℕ) → contract_at nodes b ≡ Plus (contract_at nodes front) (contract_at nodes last) →
    IsDistinctChoice (contract_at nodes b) → IsDistinctChoice (contract_at nodes front)
front_distinct nodes b front last whole second = front_of (contract_at nodes front) (contract_at nodes last) (subst IsDistinctChoice whole second)

-- the second choice is taken apart from its end
module _ (old mid new : List Node) (x : Extends old mid) (a b front last choice p : ℕ) (known : Bool)
    (whole : contract_at old b ≡ Plus (contract_at old front) (contract_at old last)) (within : last < length old)
    (first : IsDistinctChoice (contract_at old a)) (some : contract_at old a ≡ Failure → ⊥) (second : IsDistinctChoice (contract_at old b))
    (k : known ≡ holds_alike (alternatives (contract_at old a)) (contract_at old last)) where
  pub merge_front : Stands mid choice (plus (contract_at old a) (contract_at old front)) →
      Stands new p (if known then contract_at mid choice else Plus (contract_at mid choice) (contract_at mid last)) →
      Stands new p (plus (contract_at old a) (contract_at old b))
  merge_front s t =
      let same : contract_at mid last ≡ contract_at old last = contract_at-later old mid x last within in
      let e = plus-front (contract_at old a) (contract_at old front) (contract_at old last) first some (subst IsDistinctChoice whole second) in
      let all : (if known then contract_at mid choice else Plus (contract_at mid choice) (contract_at mid last)) ≡ plus (contract_at old a) (contract_at old b) =
      rw (k, s.contract, same) (e ∙ ap (plus (contract_at old a)) (sym whole)) in
      subst (Stands new p) all t

pub merge_one : (old new : List Node) (a b p : ℕ) (known : Bool) → IsDistinctChoice (contract_at old a) → (contract_at old a ≡ Failure → ⊥) →
    IsOne (contract_at old b) → known ≡ holds_alike (alternatives (contract_at old a)) (contract_at old b) →
    Stands new p (if known then contract_at old a else Plus (contract_at old a) (contract_at old b)) → Stands new p (plus (contract_at old a) (contract_at old b))
merge_one old new a b p known first some one k t =
    let e = plus-one (contract_at old a) (contract_at old b) first some one in
    let all : (if known then contract_at old a else Plus (contract_at old a) (contract_at old b)) ≡ plus (contract_at old a) (contract_at old b) = rw k e in
    subst (Stands new p) all t

-- two choices that were made distinct, one after the other
module _ (old n₁ n₂ : List Node) (x : Extends old n₁) (y : Extends n₁ n₂) (a b : ℕ) (within : b < length old) (f g : ℕ)
    (s : Stands n₁ f (distinct_choice (contract_at old a))) (t : Stands n₂ g (distinct_choice (contract_at n₁ b))) where
  first_is : contract_at n₂ f ≡ distinct_choice (contract_at old a)
  first_is = contract_at-later n₁ n₂ y f s.within ∙ s.contract

  second_is : contract_at n₂ g ≡ distinct_choice (contract_at old b)
  second_is = t.contract ∙ ap distinct_choice (contract_at-later old n₁ x b within)

  pub first_distinct : IsDistinctChoice (contract_at n₂ f)
  first_distinct = subst IsDistinctChoice (sym first_is) (distinct_choice-twice (contract_at old a))

  pub second_distinct : IsDistinctChoice (contract_at n₂ g)
  second_distinct = subst IsDistinctChoice (sym second_is) (distinct_choice-twice (contract_at old b))

  pub either_stands : (new : List Node) (p : ℕ) → Stands new p (plus (contract_at n₂ f) (contract_at n₂ g)) → Stands new p (plus (contract_at old a) (contract_at old b))
  either_stands new p h = subst (Stands new p) (ap₂ plus first_is second_is ∙ plus-distinct (contract_at old a) (contract_at old b)) h

-- the row of a normal form is a choice of distinct alternatives
pub normal_distinct : (book : Book) (marks : Marks) (nodes : List Node) (p : ℕ) (c : Contract) → Stands nodes p (normal book marks c) →
    IsDistinctChoice (contract_at nodes p)
normal_distinct book marks nodes p c s = subst IsDistinctChoice (sym s.contract) (normal_is_distinct book marks c)
