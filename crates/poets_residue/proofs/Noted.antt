-- Rows that were derived, while the table grows.
use Rattle.std.proofs.Common.{◌≡◌, ℕ, ◌<◌, nat_eq, cond, arith, List, length, Option, Some, sym, ◌∙◌, ap, subst, inl, inr, Result, IfOk}
use borrow.Author.Tests.{eqb-true}
use Rattle.poets_value.specs.declared.event.Event.{Event}
use Rattle.poets_syntax.specs.Plain.{Book}
use Rattle.poets_syntax.proofs.Replacing.{truth}
use Rattle.poets_meaning.specs.Marks.{Marks}
use Rattle.poets_calculus.specs.Residual.{after}
use Rattle.poets_cons.specs.declared.node.Node.{Node}
use Rattle.poets_cons.specs.Table.{contract_at, Stands, Extends}
use Rattle.poets_cons.proofs.Reaching.{one_ok}
use Rattle.poets_cons.proofs.Standing.{contract_at-later, length-extends, stands_later}
use Rattle.poets_residue.specs.code.Notes.{AreNotes}

module _ (book : Book) (marks : Marks) (e : Event) where
  -- notes stay right
  pub notes_later : (old new : List Node) → Extends old new → (notes : ℕ → Option ℕ) → AreNotes book marks e old notes → AreNotes book marks e new notes
  notes_later old new x notes all k v h =
      let n = all k v h in (
        omega (arith, n.0, length-extends old new x),
        subst (λ c. Stands new v (after book marks e c)) (sym (contract_at-later old new x k n.0)) (stands_later old new x v (after book marks e (contract_at old k)) n.1),
      )

  -- one more
  pub notes_more : (nodes : List Node) (notes more : ℕ → Option ℕ) (place next : ℕ) → AreNotes book marks e nodes notes → place < length nodes →
      Stands nodes next (after book marks e (contract_at nodes place)) → ((k : ℕ) → more k ≡ cond (nat_eq place k) (Some next) (notes k)) → AreNotes book marks e nodes more
  notes_more nodes notes more place next all l s m k v h = elim (truth (nat_eq place k)) [
    | inl t ↦ (
        let same : place ≡ k = eqb-true place k t in
        let found : Some next ≡ Some v = sym (m k ∙ ap (λ b. cond b (Some next) (notes k)) t) ∙ h in
        let one : next ≡ v = cc in
        (subst (λ j. j < length nodes) same l, subst (λ w. Stands nodes w (after book marks e (contract_at nodes k))) one (subst (λ j. Stands nodes next (after book marks e (contract_at nodes j))) same s))
        )
    | inr t ↦ all k v (sym (m k ∙ ap (λ b. cond b (Some next) (notes k)) t) ∙ h)
  ]

  module _ (old new : List Node) (x : Extends old new) (place next : ℕ) (within : place < length old) (s : Stands new next (after book marks e (contract_at old place)))
      {E : Type 0} (r : Result ℕ E) where
    -- what is handed on once it is noted
    pub noted_stands : IfOk r (λ p. p ≡ next) → IfOk r (λ p. Stands new p (after book marks e (contract_at old place)))
    noted_stands h = one_ok (λ p. p ≡ next) (λ p. Stands new p (after book marks e (contract_at old place))) r
        (λ p q. subst (λ w. Stands new w (after book marks e (contract_at old place))) (sym q) s) h

    pub noted_notes : (notes more : ℕ → Option ℕ) → AreNotes book marks e new notes → IfOk r (λ _. (k : ℕ) → more k ≡ cond (nat_eq place k) (Some next) (notes k)) →
        IfOk r (λ _. AreNotes book marks e new more)
    noted_notes notes more all h =
        one_ok (λ _. (k : ℕ) → more k ≡ cond (nat_eq place k) (Some next) (notes k)) (λ _. AreNotes book marks e new more) r
        (λ p m. notes_more new notes more place next all (omega (arith, within, length-extends old new x))
        (subst (λ c. Stands new next (after book marks e c)) (sym (contract_at-later old new x place within)) s) m) h
