-- The spread of a contract, from its rows.
use Rattle.std.proofs.Common.{◌≡◌, ℕ, ◌+◌, ◌-◌, ◌<◌, false, nat_eq, arith, List, [], ◌∷◌, length, map, refl, sym, ◌∙◌, ap, sum_by, eq-eqb, inl, inr}
use Rattle.std.specs.List.{All, AllByRecursion, IsDistinct}
use Rattle.std.proofs.lemmas.Bool.{false≢true}
use Rattle.std.proofs.lemmas.List.{length-map}
use Rattle.std.proofs.lemmas.List.Elements.{All-head, All-tail}
use Rattle.std.proofs.lemmas.List.Sums.{sum_by-cons}
use Rattle.poets_syntax.specs.Book.{book_of}
use Rattle.poets_syntax.specs.Same.{same_contract}
use Rattle.poets_syntax.proofs.Replacing.{truth}
use Rattle.poets_syntax.proofs.SameContracts.{contract_one}
use Rattle.poets_meaning.specs.Spread.{own_count, exposed, body_width, spread}
use Rattle.poets_meaning.specs.Studied.{StudiedBook, marks_of}
use Rattle.poets_meaning.specs.Subterms.{subterms, different}
use Rattle.poets_cons.specs.code.SameRows.{contract_laws}
use Rattle.poets_cons.specs.declared.node.Node.{Node}
use Rattle.poets_cons.specs.Row.{row_of}
use Rattle.poets_cons.specs.Table.{rows_of, contracts_of, contract_at, contract_of_rows, IsTable, IsRooted}
use Rattle.poets_cons.proofs.Counting.{contracts_apart, contracts_member}
use Rattle.poets_cons.proofs.Places.{one_place}
use Rattle.poets_residue.specs.code.Limits.{rows_count, body_widths_at, AddsExposed}
use Rattle.poets_residue.proofs.Counted.{contracts_count}
use Rattle.poets_residue.proofs.DifferentSums.{sum_by-different}

sum_by-of_map : {A B : Type 0} (f : B → ℕ) (g : A → B) (xs : List A) → sum_by f (map g xs) ≡ sum_by (λ x. f (g x)) xs
sum_by-of_map f g [] = refl
sum_by-of_map f g (x ∷ xs) =
    let p = sum_by-cons f (g x) (map g xs) in
    let q = sum_by-cons (λ y. f (g y)) x xs in
    omega (arith, p, q, sum_by-of_map f g xs)

module _ (nodes : List Node) (table : IsTable nodes) where
  apart_at : (p q : ℕ) → p < length nodes → q < length nodes → nat_eq p q ≡ false → same_contract (contract_at nodes p) (contract_at nodes q) ≡ false
  apart_at p q l m e = elim (truth (same_contract (contract_at nodes p) (contract_at nodes q))) [
    | inr t ↦ t
    | inl t ↦ (
        let n = length-map nodes row_of in
        let same = one_place (rows_of nodes) table.earlier table.distinct p q (omega (arith, l, n)) (omega (arith, m, n)) (contract_one (contract_at nodes p) (contract_at nodes q) t) in
        absurd (false≢true (sym e ∙ eq-eqb p q same))
        )
  ]

  all_apart : (p : ℕ) (places : List ℕ) → p < length nodes → All (λ k. k < length nodes) places → AllByRecursion (λ q. nat_eq p q ≡ false) places →
      AllByRecursion (λ d. same_contract (contract_at nodes p) d ≡ false) (map (contract_at nodes) places)
  all_apart p [] l within h = tt
  all_apart p (q ∷ places) l within h =
      (apart_at p q l (All-head (λ k. k < length nodes) q places within) h.0, all_apart p places l (All-tail (λ k. k < length nodes) q places within) h.1)

  distinct_at : (places : List ℕ) → All (λ k. k < length nodes) places → IsDistinct nat_eq places → IsDistinct same_contract (map (contract_at nodes) places)
  unfolding IsDistinct
  distinct_at [] within h = tt
  distinct_at (p ∷ places) within h = (
    all_apart p places (All-head (λ k. k < length nodes) p places within) (All-tail (λ k. k < length nodes) p places within) h.0,
    distinct_at places (All-tail (λ k. k < length nodes) p places within) h.1,
  )

  module _ (s : StudiedBook) (root : IsRooted nodes) (places : List ℕ) (within : All (λ k. k < length nodes) places) (unique : IsDistinct nat_eq places)
      (added : AddsExposed s nodes (length nodes - 1) [] places) where
    rows_spread : sum_by own_count (different (subterms (contract_of_rows nodes))) ≡ rows_count nodes
    rows_spread =
        sym (sum_by-different contract_laws own_count (λ x y e. ap own_count (contract_one x y e)) (contracts_of nodes) (subterms (contract_of_rows nodes))
        (contracts_apart nodes table) (contracts_member nodes table root))
        ∙ contracts_count nodes

    bodies_spread : sum_by (body_width (book_of s.book) (marks_of s)) (different (exposed (marks_of s) (contract_of_rows nodes))) ≡ body_widths_at s nodes places
    bodies_spread =
        sym (sum_by-different contract_laws (body_width (book_of s.book) (marks_of s)) (λ x y e. ap (body_width (book_of s.book) (marks_of s)) (contract_one x y e))
        (map (contract_at nodes) places) (exposed (marks_of s) (contract_of_rows nodes)) (distinct_at places within unique) added.among)
        ∙ sum_by-of_map (body_width (book_of s.book) (marks_of s)) (contract_at nodes) places

    pub spread_counted : spread (book_of s.book) (marks_of s) (contract_of_rows nodes) ≡ rows_count nodes + body_widths_at s nodes places
    spread_counted = let p = rows_spread in let q = bodies_spread in omega (arith, p, q)
