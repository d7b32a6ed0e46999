-- What normal forms and residuals tell of the original.
use Rattle.std.proofs.Common.{◌≡◌, ◌≢◌, ℕ, true, false, List, [], refl, sym, subst, append-nil}
use Rattle.std.specs.List.{All}
use Rattle.std.specs.Prelude.{◌↔◌}
use Rattle.poets_value.specs.declared.event.Event.{Event}
use Rattle.poets_syntax.specs.Contract.{Contract, Failure}
use Rattle.poets_syntax.specs.WellFormed.{IsWellFormed, IsDeclaredEvent}
use Rattle.poets_syntax.specs.Applied.{CountsFit}
use Rattle.poets_syntax.specs.Plain.{Book}
use Rattle.poets_meaning.specs.Marks.{Marks, Hopeful}
use Rattle.poets_meaning.specs.May.{May}
use Rattle.poets_meaning.specs.Perf.{Perf}
use Rattle.poets_calculus.specs.Normal.{normal}
use Rattle.poets_calculus.specs.Residual.{residual_after}
use Rattle.poets_norm.proofs.Meaning.{normal_in, normal_out}
use Rattle.poets_norm.proofs.Hope.{IsFailureOrHopeful-normal, failure_is_hopeless, hopeful_unless_failure}
use Rattle.poets_residue.specs.Unfolding.{IsStudied}
use Rattle.poets_residue.proofs.Traces.{trace_in, trace_hopeless, trace_hopeful, trace_performed}
use Rattle.poets_engine.specs.code.Judgements.{is_failure}

pub failure_is : (c : Contract) → is_failure c ≡ true → c ≡ Failure
failure_is Failure e = refl
failure_is _ e = absurd cc

pub no_failure : (c : Contract) → is_failure c ≡ false → c ≢ Failure
no_failure Failure e h = absurd cc
no_failure _ e h = absurd cc

module _ (book : Book) (marks : Marks) (study : IsStudied book marks) where
  pub normal_hopeless : (c : Contract) → IsWellFormed book.declared c → normal book marks c ≡ Failure → Hopeful book c → ⊥
  normal_hopeless c formed e h =
      failure_is_hopeless book (normal book marks c) e (h.0, normal_in book marks study.right c formed [] (λ x k. refl) [] h.0 h.1)

  -- a normal form that is not `Failure`
  pub normal_kept : (c : Contract) → CountsFit book c → normal book marks c ≢ Failure → Hopeful book (normal book marks c)
  normal_kept c fit ne = hopeful_unless_failure book (normal book marks c) (IsFailureOrHopeful-normal book marks study.right c fit) ne

  pub normal_hopeful : (c : Contract) → IsWellFormed book.declared c → CountsFit book c → normal book marks c ≢ Failure → Hopeful book c
  normal_hopeful c formed fit ne =
      let h = normal_kept c fit ne in
      (h.0, normal_out book marks study.right c formed [] (λ x k. refl) [] h.0 h.1)

  module _ (o : Contract) (s : List Event) (formed : IsWellFormed book.declared o) (fit : CountsFit book o) (events : All (IsDeclaredEvent book.declared) s) where
    pub residual_hopeless : residual_after book marks o s ≡ Failure → ((n : ℕ) × May book [] o s n) → ⊥
    residual_hopeless e = (trace_hopeless book marks study o formed fit s events).0 e

    pub residual_hopeful : residual_after book marks o s ≢ Failure → (n : ℕ) × May book [] o s n
    residual_hopeful ne = trace_hopeful book marks study o formed fit s events ne

    -- a residual that is not `Failure`
    pub residual_kept : residual_after book marks o s ≢ Failure → Hopeful book (residual_after book marks o s)
    residual_kept ne =
        let h = residual_hopeful ne in
        (h.0, trace_in book marks study o formed fit s events [] h.0 (subst (λ t. May book [] o t h.0) (sym (append-nil s)) h.1))

    pub residual_performed : Perf book [] (residual_after book marks o s) [] ↔ Perf book [] o s
    residual_performed =
        subst (λ t. Perf book [] (residual_after book marks o s) [] ↔ Perf book [] o t) (append-nil s)
        (trace_performed book marks study o formed fit s events [])
