-- Residuals after whole traces.
use Rattle.std.proofs.Common.{◌≡◌, ℕ, List, [], ◌∷◌, ◌++◌, fold, length, refl, sym, subst, append-nil, ◌↔◌}
use Rattle.std.specs.List.{All}
use Rattle.std.proofs.lemmas.List.Elements.{All-head, All-tail}
use Rattle.std.proofs.lemmas.List.Sums.{fold-append}
use Rattle.poets_value.specs.declared.event.Event.{Event}
use Rattle.poets_syntax.specs.Contract.{Contract, Failure}
use Rattle.poets_syntax.specs.Plain.{Book}
use Rattle.poets_syntax.specs.WellFormed.{IsWellFormed, IsDeclaredEvent}
use Rattle.poets_syntax.specs.Applied.{CountsFit}
use Rattle.poets_meaning.specs.Perf.{Perf}
use Rattle.poets_meaning.specs.May.{May}
use Rattle.poets_meaning.specs.Marks.{Marks, Hopeful}
use Rattle.poets_meaning.proofs.Granting.{May-Perf, Perf-May}
use Rattle.poets_calculus.specs.Normal.{normal}
use Rattle.poets_calculus.specs.Residual.{after, residual_after}
use Rattle.poets_calculus.proofs.Unfolded.{unfolds-guarded}
use Rattle.poets_norm.proofs.Meaning.{normal_in, normal_out}
use Rattle.poets_norm.proofs.WellFormedness.{IsWellFormed-normal}
use Rattle.poets_norm.proofs.Counts.{CountsFit-normal}
use Rattle.poets_norm.proofs.Parts.{FailureOr}
use Rattle.poets_norm.proofs.Hope.{IsFailureOrHopeful, IsFailureOrHopeful-normal, failure_is_hopeless, hopeless_is_failure, hopeful_unless_failure}
use Rattle.poets_norm.proofs.NormalForms.{IsBuilt, built-normal, normal_of_built}
use Rattle.poets_residue.specs.Unfolding.{IsStudied}
use Rattle.poets_residue.proofs.Kept.{IsWellFormed-after_at, CountsFit-after_at, IsFailureOrHopeful-after_at, built-after_at}
use Rattle.poets_residue.proofs.Following.{Follows}
use Rattle.poets_residue.proofs.Unfoldings.{Follows-after_at}

-- one event more
pub residual_after-more : (book : Book) (marks : Marks) (o : Contract) (s : List Event) (e : Event) →
    residual_after book marks o (s ++ e ∷ []) ≡ after book marks e (residual_after book marks o s)
residual_after-more book marks o s e = fold-append (λ c x. after book marks x c) (normal book marks o) s (e ∷ [])

-- it is a normal form
through_built : (book : Book) (marks : Marks) (s : List Event) (c : Contract) → FailureOr (IsBuilt book marks) c →
    FailureOr (IsBuilt book marks) (fold (λ d e. after book marks e d) c s)
through_built book marks [] c h = h
through_built book marks (e ∷ s) c h = through_built book marks s (after book marks e c) (built-after_at book marks e (length book.templates) c h)

pub trace_normal : (book : Book) (marks : Marks) (o : Contract) (s : List Event) →
    normal book marks (residual_after book marks o s) ≡ residual_after book marks o s
trace_normal book marks o s =
    normal_of_built book marks (residual_after book marks o s) (through_built book marks s (normal book marks o) (built-normal book marks o))

module _ (book : Book) (marks : Marks) (study : IsStudied book marks) where
  -- a contract taken through the events of a trace
  abbrev through : Contract → List Event → Contract
  through c s = fold (λ d e. after book marks e d) c s

  IsWellFormed-after : (e : Event) → IsDeclaredEvent book.declared e → (c : Contract) → IsWellFormed book.declared c →
      IsWellFormed book.declared (after book marks e c)
  IsWellFormed-after e declared c h = IsWellFormed-after_at book marks study.formed e declared (length book.templates) c h

  CountsFit-after : (e : Event) (c : Contract) → CountsFit book c → CountsFit book (after book marks e c)
  CountsFit-after e c h = CountsFit-after_at book marks study.fit e (length book.templates) c h

  pub Follows-after : (e : Event) → IsDeclaredEvent book.declared e → (c : Contract) → IsWellFormed book.declared c → CountsFit book c →
      Follows book e c (after book marks e c)
  Follows-after e declared c h k =
      Follows-after_at book marks study.right e declared study.formed (length book.templates) c (unfolds-guarded book marks study.right study.guarded study.fit c k) h

  through_out : (s : List Event) (c : Contract) → IsWellFormed book.declared c → CountsFit book c → All (IsDeclaredEvent book.declared) s →
      (s' : List Event) (n : ℕ) → May book [] (through c s) s' n → May book [] c (s ++ s') n
  through_out [] c h k events s' n m = m
  through_out (e ∷ s) c h k events s' n m =
      let here = All-head (IsDeclaredEvent book.declared) e s events in
      (Follows-after e here c h k (s ++ s') n).0
      (through_out s (after book marks e c) (IsWellFormed-after e here c h) (CountsFit-after e c k)
      (All-tail (IsDeclaredEvent book.declared) e s events) s' n m)

  through_in : (s : List Event) (c : Contract) → IsWellFormed book.declared c → CountsFit book c → All (IsDeclaredEvent book.declared) s →
      (s' : List Event) (n : ℕ) → May book [] c (s ++ s') n → May book [] (through c s) s' n
  through_in [] c h k events s' n m = m
  through_in (e ∷ s) c h k events s' n m =
      let here = All-head (IsDeclaredEvent book.declared) e s events in
      through_in s (after book marks e c) (IsWellFormed-after e here c h) (CountsFit-after e c k)
      (All-tail (IsDeclaredEvent book.declared) e s events) s' n ((Follows-after e here c h k (s ++ s') n).1 m)

  through_formed : (s : List Event) (c : Contract) → IsWellFormed book.declared c → All (IsDeclaredEvent book.declared) s →
      IsWellFormed book.declared (through c s)
  through_formed [] c h events = h
  through_formed (e ∷ s) c h events =
      through_formed s (after book marks e c) (IsWellFormed-after e (All-head (IsDeclaredEvent book.declared) e s events) c h)
      (All-tail (IsDeclaredEvent book.declared) e s events)

  through_fit : (s : List Event) (c : Contract) → CountsFit book c → CountsFit book (through c s)
  through_fit [] c h = h
  through_fit (e ∷ s) c h = through_fit s (after book marks e c) (CountsFit-after e c h)

  through_hope : (s : List Event) (c : Contract) → CountsFit book c → IsFailureOrHopeful book c → IsFailureOrHopeful book (through c s)
  through_hope [] c k h = h
  through_hope (e ∷ s) c k h =
      through_hope s (after book marks e c) (CountsFit-after e c k)
      (IsFailureOrHopeful-after_at book marks study.right study.fit e (length book.templates) c k h)

  module _ (o : Contract) (formed : IsWellFormed book.declared o) (fit : CountsFit book o)
      (s : List Event) (events : All (IsDeclaredEvent book.declared) s) where
    pub trace_out : (s' : List Event) (n : ℕ) → May book [] (residual_after book marks o s) s' n → May book [] o (s ++ s') n
    trace_out s' n m =
        normal_out book marks study.right o formed [] (λ x k. refl) (s ++ s') n
        (through_out s (normal book marks o) (IsWellFormed-normal book marks o formed) (CountsFit-normal book marks o fit) events s' n m)

    pub trace_in : (s' : List Event) (n : ℕ) → May book [] o (s ++ s') n → May book [] (residual_after book marks o s) s' n
    trace_in s' n m =
        through_in s (normal book marks o) (IsWellFormed-normal book marks o formed) (CountsFit-normal book marks o fit) events s' n
        (normal_in book marks study.right o formed [] (λ x k. refl) (s ++ s') n m)

    pub trace_followed : (s' : List Event) (n : ℕ) → May book [] (residual_after book marks o s) s' n ↔ May book [] o (s ++ s') n
    trace_followed s' n = (trace_out s' n, trace_in s' n)

    pub trace_performed : (s' : List Event) → Perf book [] (residual_after book marks o s) s' ↔ Perf book [] o (s ++ s')
    trace_performed s' = (
      (λ p. May-Perf (trace_out s' 0 (Perf-May p)) refl),
      (λ p. May-Perf (trace_in s' 0 (Perf-May p)) refl),
    )

    pub trace_formed : IsWellFormed book.declared (residual_after book marks o s)
    trace_formed = through_formed s (normal book marks o) (IsWellFormed-normal book marks o formed) events

    pub trace_fit : CountsFit book (residual_after book marks o s)
    trace_fit = through_fit s (normal book marks o) (CountsFit-normal book marks o fit)

    -- what goes on after the trace is hope of the residual
    trace_hope : ((n : ℕ) × May book [] o s n) → Hopeful book (residual_after book marks o s)
    trace_hope g = (g.0, trace_in [] g.0 (subst (λ u. May book [] o u g.0) (sym (append-nil s)) g.1))

    hope_trace : Hopeful book (residual_after book marks o s) → (n : ℕ) × May book [] o s n
    hope_trace g = (g.0, subst (λ u. May book [] o u g.0) (append-nil s) (trace_out [] g.0 g.1))

    trace_hope_kept : IsFailureOrHopeful book (residual_after book marks o s)
    trace_hope_kept =
        through_hope s (normal book marks o) (CountsFit-normal book marks o fit) (IsFailureOrHopeful-normal book marks study.right o fit)

    pub trace_hopeless : (residual_after book marks o s ≡ Failure) ↔ (((n : ℕ) × May book [] o s n) → ⊥)
    trace_hopeless = (
      (λ q g. failure_is_hopeless book (residual_after book marks o s) q (trace_hope g)),
      (λ denied. hopeless_is_failure book (residual_after book marks o s) trace_hope_kept (λ g. denied (hope_trace g))),
    )

    -- where it is not, some number of granted steps finishes
    pub trace_hopeful : (residual_after book marks o s ≡ Failure → ⊥) → (n : ℕ) × May book [] o s n
    trace_hopeful unless = hope_trace (hopeful_unless_failure book (residual_after book marks o s) trace_hope_kept unless)
