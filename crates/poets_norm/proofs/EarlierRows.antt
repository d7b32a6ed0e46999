-- A row in which no `||` stands is no alternative of a choice at an earlier row.
use Rattle.std.proofs.Common.{◌≡◌, ℕ, zero, suc, ◌<◌, ◌||◌, false, arith, List, length, get_or, refl, sym, ◌∙◌, ap₂, subst, inl, inr}
use Rattle.std.proofs.lemmas.List.{length-map}
use Rattle.std.proofs.lemmas.List.Folds.{list_any-append}
use Rattle.std.proofs.lemmas.Option.{slice_get-get_or}
use Rattle.poets_syntax.specs.Contract.{Contract}
use Rattle.poets_syntax.proofs.Replacing.{truth}
use Rattle.poets_calculus.specs.Alike.{alike}
use Rattle.poets_calculus.specs.Normal.{alternatives}
use Rattle.poets_norm.specs.Choices.{holds_alike}
use Rattle.poets_cons.specs.declared.node.Node.{Node}
use Rattle.poets_cons.specs.Forms.{has_parallel}
use Rattle.poets_cons.specs.Row.{Row, Success, Failure, Transmit, Plus, Par, Seq, App, row_of, contract_by, AreBelow}
use Rattle.poets_cons.specs.Table.{rows_of, contract_at, IsTable}
use Rattle.poets_cons.proofs.Places.{contract-at}
use Rattle.poets_norm.proofs.RowChoices.{alike_place}

module _ (nodes : List Node) (table : IsTable nodes) (place : ℕ) (within : place < length nodes)
    (none : has_parallel (contract_at nodes place) ≡ false) where
  -- the contract of an earlier row is another one
  other : (i : ℕ) → i < place → (c : Contract) → contract_at nodes i ≡ c → (alike c (contract_at nodes place) || false) ≡ false
  other i l c e = elim (truth (alike c (contract_at nodes place))) [
    | inl t ↦ (
        let same : i ≡ place = alike_place nodes table i place (omega arith) within none (rw e t) in
        absurd (omega arith)
        )
    | inr f ↦ rw f refl
  ]

  none_row : (i : ℕ) → i < place → (r : Row) → contract_at nodes i ≡ contract_by (contract_at nodes) r → AreBelow i r →
      ((k : ℕ) → k < i → holds_alike (alternatives (contract_at nodes k)) (contract_at nodes place) ≡ false) →
      holds_alike (alternatives (contract_by (contract_at nodes) r)) (contract_at nodes place) ≡ false
  none_row i l Failure e b f = refl
  none_row i l (Plus x y) e b f =
      list_any-append (λ d. alike d (contract_at nodes place)) (alternatives (contract_at nodes x)) (alternatives (contract_at nodes y))
      ∙ ap₂ (λ p q. p || q) (f x b.0) (f y b.1)
  none_row i l Success e b f = other i l (contract_by (contract_at nodes) Success) e
  none_row i l (Transmit x p c) e b f = other i l (contract_by (contract_at nodes) (Transmit x p c)) e
  none_row i l (Par x y) e b f = other i l (contract_by (contract_at nodes) (Par x y)) e
  none_row i l (Seq x y) e b f = other i l (contract_by (contract_at nodes) (Seq x y)) e
  none_row i l (App x args) e b f = other i l (contract_by (contract_at nodes) (App x args)) e

  none_below : (n i : ℕ) → i < n → i < place → holds_alike (alternatives (contract_at nodes i)) (contract_at nodes place) ≡ false
  none_below zero i l m = absurd (omega arith)
  none_below (suc n) i l m =
      let r = get_or (rows_of nodes) i Success in
      let here = slice_get-get_or (rows_of nodes) i Success (omega (arith, m, within, length-map nodes row_of)) in
      let made = contract-at (rows_of nodes) table.earlier table.distinct i r here in
      let parts = none_row i m r made (table.earlier i r here) (λ k h. none_below n k (omega arith) (omega arith)) in
      subst (λ c. holds_alike (alternatives c) (contract_at nodes place) ≡ false) (sym made) parts

  pub none_earlier : (choice : ℕ) → choice < place → holds_alike (alternatives (contract_at nodes choice)) (contract_at nodes place) ≡ false
  none_earlier choice l = none_below (suc choice) choice (omega arith) l
