-- Residuals of rows, from those of their parts.
use Rattle.std.proofs.Common.{◌≡◌, ℕ, ◌<◌, true, arith, List, length, refl, sym, ◌∙◌, ap₂, subst}
use Rattle.poets_value.specs.declared.event.Event.{Event}
use Rattle.poets_syntax.specs.Contract.{Plus, Par, Seq}
use Rattle.poets_meaning.specs.Marks.{nullable}
use Rattle.poets_calculus.specs.Normal.{plus, par, seq}
use Rattle.poets_calculus.specs.Residual.{after}
use Rattle.poets_norm.specs.Choices.{IsDistinctChoice}
use Rattle.poets_cons.specs.declared.node.Node.{Node}
use Rattle.poets_cons.specs.Table.{contract_at, Extends}
use Rattle.poets_cons.proofs.Standing.{contract_at-later, length-extends, extends_twice, stands_later}
use Rattle.poets_residue.specs.declared.derivation.Derivation.{Derivation}
use Rattle.poets_residue.specs.code.Deriving.{book_by, marks_by, IsResidual, AreResiduals}
use Rattle.poets_residue.proofs.Equations.{after-plus, after-par, after-seq}

module _ (d : Derivation) where
  -- two rows, derived one after the other
  module _ (old mid new : List Node) (x : Extends old mid) (y : Extends mid new) where
    pub both_after : (a b f g : ℕ) → a < length old → b < length old → IsResidual d mid (contract_at old a) f → IsResidual d new (contract_at mid b) g →
        AreResiduals d new a b (f, g)
    both_after a b f g l m s t = record {
      first = subst (λ c. IsResidual d new c f) (sym (contract_at-later old new (extends_twice old mid new x y) a l))
          (stands_later mid new y f (after (book_by d) (marks_by d) d.event.now (contract_at old a)) s);
      second = subst (λ c. IsResidual d new c g) (sym (contract_at-later mid new y b (omega (arith, m, length-extends old mid x)))) t;
    }

  module _ (nodes : List Node) (a b : ℕ) (p : ℕ × ℕ) (s : AreResiduals d nodes a b p) where
    pub plus_after : plus (contract_at nodes p.0) (contract_at nodes p.1)
        ≡ after (book_by d) (marks_by d) d.event.now (Plus (contract_at nodes a) (contract_at nodes b))
    plus_after =
        ap₂ plus s.first.contract s.second.contract
        ∙ sym (after-plus (book_by d) (marks_by d) d.event.now (contract_at nodes a) (contract_at nodes b))

    pub par_after : plus (par (contract_at nodes p.0) (contract_at nodes b)) (par (contract_at nodes a) (contract_at nodes p.1))
        ≡ after (book_by d) (marks_by d) d.event.now (Par (contract_at nodes a) (contract_at nodes b))
    par_after =
        ap₂ (λ x y. plus (par x (contract_at nodes b)) (par (contract_at nodes a) y)) s.first.contract s.second.contract
        ∙ sym (after-par (book_by d) (marks_by d) d.event.now (contract_at nodes a) (contract_at nodes b))

    -- the first may end
    pub seq_after : nullable (marks_by d) (contract_at nodes a) ≡ true → plus (seq (contract_at nodes p.0) (contract_at nodes b)) (contract_at nodes p.1)
        ≡ after (book_by d) (marks_by d) d.event.now (Seq (contract_at nodes a) (contract_at nodes b))
    seq_after h =
        ap₂ (λ x y. plus (seq x (contract_at nodes b)) y) s.first.contract s.second.contract
        ∙ sym (after-seq (book_by d) (marks_by d) d.event.now (contract_at nodes a) (contract_at nodes b) ∙ rw h refl)

    -- each is a choice of distinct alternatives where the residuals of its row are
    pub first_joined : ((e : Event) → IsDistinctChoice (after (book_by d) (marks_by d) e (contract_at nodes a))) → IsDistinctChoice (contract_at nodes p.0)
    first_joined h = subst IsDistinctChoice (sym s.first.contract) (h d.event.now)

    pub second_joined : ((e : Event) → IsDistinctChoice (after (book_by d) (marks_by d) e (contract_at nodes b))) → IsDistinctChoice (contract_at nodes p.1)
    second_joined h = subst IsDistinctChoice (sym s.second.contract) (h d.event.now)
