-- What the normal forms and the parts of a contract have, its residuals have.
use Rattle.std.proofs.Common.{◌≡◌, ℕ, zero, suc, Bool, true, false, List, [], Option, Some, None, inl, inr, if◌then◌else◌, refl, sym, subst}
use Rattle.poets_value.specs.declared.value.Name.{Name}
use Rattle.poets_value.specs.declared.event.Event.{Event}
use Rattle.poets_expr.specs.Expression.{Expression}
use Rattle.poets_expr.specs.Val.{val}
use Rattle.poets_syntax.specs.declared.term.Binders.{Binders}
use Rattle.poets_syntax.specs.Contract.{Contract, Success, Failure, Transmit, Plus, Par, Seq, App}
use Rattle.poets_syntax.specs.Plain.{Book, Template}
use Rattle.poets_syntax.specs.Book.{template_in, taken}
use Rattle.poets_syntax.specs.Replace.{replace}
use Rattle.poets_syntax.specs.WellFormed.{IsWellFormed, IsDeclaredEvent, AreWellFormed}
use Rattle.poets_syntax.specs.Givens.{event_givens, argument_givens}
use Rattle.poets_syntax.proofs.Givens.{HaveDeclaredNames-event, HaveDeclaredNames-arguments}
use Rattle.poets_syntax.proofs.WellFormedness.{IsWellFormed-replace}
use Rattle.poets_syntax.specs.Applied.{CountsFit, BodiesCountsFit}
use Rattle.poets_meaning.specs.Marks.{Marks, AreRight, nullable}
use Rattle.poets_meaning.specs.Truth.{is_true}
use Rattle.poets_calculus.specs.Normal.{normal, par, seq}
use Rattle.poets_calculus.specs.Residual.{after_by, after_at, body_of}
use Rattle.poets_norm.proofs.Parts.{IsOfParts, kept_by_plus, kept_by_par, kept_by_seq, FailureOr, IsKeptOrFailure}
use Rattle.poets_norm.proofs.WellFormedness.{IsWellFormed-of_parts, IsWellFormed-normal}
use Rattle.poets_norm.proofs.Counts.{CountsFit-of_parts, CountsFit-normal, CountsFit-replace}
use Rattle.poets_norm.proofs.Hope.{IsHopefulThroughout, IsFailureOrHopeful, IsHopefulThroughout-kept, IsFailureOrHopeful-normal}
use Rattle.poets_norm.proofs.NormalForms.{IsBuilt, IsBuilt-kept, built-normal}

-- nothing is left of `Failure`
pub after_at-failure : (d : ℕ) (book : Book) (marks : Marks) (e : Event) → after_at d book marks e Failure ≡ Failure
after_at-failure zero book marks e = refl
after_at-failure (suc d) book marks e = refl

either_way : (P : Contract → Type 0) (b : Bool) {c d : Contract} → P c → P d → P (if b then c else d)
either_way P true h k = h
either_way P false h k = k

-- what has it exactly where its parts have it
module _ (book : Book) (marks : Marks) (e : Event) (P : Contract → Type 0) (of : IsOfParts P)
    (taken_on : (b : Binders) (p : Expression) (c : Contract) → P (Transmit b p c) → P (normal book marks (replace (event_givens b e) c))) where
  kept_by_after_by : (unfold_at : Name → List Expression → Contract) → ((f : Name) (args : List Expression) → P (App f args) → P (unfold_at f args)) →
      (c : Contract) → P c → P (after_by unfold_at book marks e c)
  kept_by_after_by u unfolded Success h = of.failure
  kept_by_after_by u unfolded Failure h = of.failure
  kept_by_after_by u unfolded (Transmit b p c) h =
      either_way P (is_true (val book.declared (taken b e []) p)) (taken_on b p c h) of.failure
  kept_by_after_by u unfolded (Plus a b) h =
      kept_by_plus P of (after_by u book marks e a) (after_by u book marks e b)
      (kept_by_after_by u unfolded a (of.plus_parts a b h).0) (kept_by_after_by u unfolded b (of.plus_parts a b h).1)
  kept_by_after_by u unfolded (Par a b) h =
      kept_by_plus P of (par (after_by u book marks e a) b) (par a (after_by u book marks e b))
      (kept_by_par P of (after_by u book marks e a) b (kept_by_after_by u unfolded a (of.par_parts a b h).0) (of.par_parts a b h).1)
      (kept_by_par P of a (after_by u book marks e b) (of.par_parts a b h).0 (kept_by_after_by u unfolded b (of.par_parts a b h).1))
  kept_by_after_by u unfolded (Seq a b) h =
      let first = kept_by_seq P of (after_by u book marks e a) b (kept_by_after_by u unfolded a (of.seq_parts a b h).0) (of.seq_parts a b h).1 in
      either_way P (nullable marks a)
      (kept_by_plus P of (seq (after_by u book marks e a) b) (after_by u book marks e b) first (kept_by_after_by u unfolded b (of.seq_parts a b h).1))
      first
  kept_by_after_by u unfolded (App f args) h = unfolded f args h

  pub kept_by_after_at : ((f : Name) (args : List Expression) → P (App f args) → P (body_of book marks (template_in book.templates f) args)) →
      (d : ℕ) (c : Contract) → P c → P (after_at d book marks e c)
  kept_by_after_at bodies zero c h = kept_by_after_by (λ _ _. Failure) (λ _ _ _. of.failure) c h
  kept_by_after_at bodies (suc d) c h =
      kept_by_after_by (λ f args. after_at d book marks e (body_of book marks (template_in book.templates f) args))
      (λ f args k. kept_by_after_at bodies d (body_of book marks (template_in book.templates f) args) (bodies f args k)) c h

-- a fact of the body of each template
pub of_body : (book : Book) (marks : Marks) (P : Contract → Type 0) → P Failure → (o : Option Template) (args : List Expression) →
    ((t : Template) → o ≡ Some t → P (body_of book marks (Some t) args)) → P (body_of book marks o args)
of_body book marks P none None args h = none
of_body book marks P none (Some t) args h = h t refl

-- residuals are well-formed
pub IsWellFormed-body : (book : Book) (marks : Marks) (t : Template) (args : List Expression) →
    IsWellFormed book.declared t.body → IsWellFormed book.declared (App t.name args) → IsWellFormed book.declared (body_of book marks (Some t) args)
IsWellFormed-body book marks t args h k =
    IsWellFormed-normal book marks (replace (argument_givens book.declared t.params args) t.body)
    (IsWellFormed-replace book.declared (argument_givens book.declared t.params args) (HaveDeclaredNames-arguments book.declared t.params args k) t.body h)

pub IsWellFormed-taken : (book : Book) (marks : Marks) (e : Event) → IsDeclaredEvent book.declared e → (b : Binders) (c : Contract) →
    IsWellFormed book.declared c → IsWellFormed book.declared (normal book marks (replace (event_givens b e) c))
IsWellFormed-taken book marks e declared b c h =
    IsWellFormed-normal book marks (replace (event_givens b e) c)
    (IsWellFormed-replace book.declared (event_givens b e) (HaveDeclaredNames-event book.declared b e declared) c h)

pub IsWellFormed-after_at : (book : Book) (marks : Marks) → AreWellFormed book → (e : Event) → IsDeclaredEvent book.declared e →
    (d : ℕ) (c : Contract) → IsWellFormed book.declared c → IsWellFormed book.declared (after_at d book marks e c)
IsWellFormed-after_at book marks formed e declared =
    kept_by_after_at book marks e (IsWellFormed book.declared) (IsWellFormed-of_parts book.declared)
    (λ b p c h. IsWellFormed-taken book marks e declared b c h.1)
    (λ f args h. of_body book marks (IsWellFormed book.declared) tt (template_in book.templates f) args
    (λ t q. IsWellFormed-body book marks t args (formed f t q) h))

-- the numbers of arguments in residuals fit
pub CountsFit-body : (book : Book) (marks : Marks) → BodiesCountsFit book → (f : Name) (args : List Expression) →
    CountsFit book (body_of book marks (template_in book.templates f) args)
CountsFit-body book marks fit f args = of_body book marks (CountsFit book) tt (template_in book.templates f) args
    (λ t q. CountsFit-normal book marks (replace (argument_givens book.declared t.params args) t.body)
    (CountsFit-replace book (argument_givens book.declared t.params args) t.body (fit f t q)))

pub CountsFit-after_at : (book : Book) (marks : Marks) → BodiesCountsFit book → (e : Event) →
    (d : ℕ) (c : Contract) → CountsFit book c → CountsFit book (after_at d book marks e c)
CountsFit-after_at book marks fit e =
    kept_by_after_at book marks e (CountsFit book) (CountsFit-of_parts book)
    (λ b p c h. CountsFit-normal book marks (replace (event_givens b e) c) (CountsFit-replace book (event_givens b e) c h))
    (λ f args h. CountsFit-body book marks fit f args)

-- what the builders keep, but for `Failure`, where the parts meet a premise
module _ (book : Book) (marks : Marks) (e : Event) (P : Contract → Type 0) (of : IsOfParts P) (Q : Contract → Type 0) (kept : IsKeptOrFailure Q)
    (taken_on : (b : Binders) (p : Expression) (c : Contract) → P (Transmit b p c) → FailureOr Q (normal book marks (replace (event_givens b e) c))) where
  or_failure_after_by : (unfold_at : Name → List Expression → Contract) →
      ((f : Name) (args : List Expression) → P (App f args) → FailureOr Q (unfold_at f args)) →
      (c : Contract) → P c → Q c → FailureOr Q (after_by unfold_at book marks e c)
  or_failure_after_by u unfolded Success h k = inl refl
  or_failure_after_by u unfolded Failure h k = inl refl
  or_failure_after_by u unfolded (Transmit b p c) h k =
      either_way (FailureOr Q) (is_true (val book.declared (taken b e []) p)) (taken_on b p c h) (inl refl)
  or_failure_after_by u unfolded (Plus a b) h k =
      let premise = of.plus_parts a b h in
      let parts = kept.plus_parts a b k in
      kept.plus (after_by u book marks e a) (after_by u book marks e b)
      (or_failure_after_by u unfolded a premise.0 parts.0) (or_failure_after_by u unfolded b premise.1 parts.1)
  or_failure_after_by u unfolded (Par a b) h k =
      let premise = of.par_parts a b h in
      let parts = kept.par_parts a b k in
      kept.plus (par (after_by u book marks e a) b) (par a (after_by u book marks e b))
      (kept.par (after_by u book marks e a) b (or_failure_after_by u unfolded a premise.0 parts.0) (inr parts.1))
      (kept.par a (after_by u book marks e b) (inr parts.0) (or_failure_after_by u unfolded b premise.1 parts.1))
  or_failure_after_by u unfolded (Seq a b) h k =
      let premise = of.seq_parts a b h in
      let parts = kept.seq_parts a b k in
      let first = kept.seq (after_by u book marks e a) b (or_failure_after_by u unfolded a premise.0 parts.0) (inr parts.1) in
      either_way (FailureOr Q) (nullable marks a)
      (kept.plus (seq (after_by u book marks e a) b) (after_by u book marks e b) first (or_failure_after_by u unfolded b premise.1 parts.1))
      first
  or_failure_after_by u unfolded (App f args) h k = unfolded f args h

  pub or_failure_after_at : ((f : Name) (args : List Expression) → P (App f args) → P (body_of book marks (template_in book.templates f) args)) →
      ((f : Name) (args : List Expression) → FailureOr Q (body_of book marks (template_in book.templates f) args)) →
      (d : ℕ) (c : Contract) → P c → FailureOr Q c → FailureOr Q (after_at d book marks e c)
  or_failure_after_at premises bodies d c h (inl q) =
      inl (subst (λ x. after_at d book marks e x ≡ Failure) (sym q) (after_at-failure d book marks e))
  or_failure_after_at premises bodies zero c h (inr k) = or_failure_after_by (λ _ _. Failure) (λ _ _ _. inl refl) c h k
  or_failure_after_at premises bodies (suc d) c h (inr k) =
      or_failure_after_by (λ f args. after_at d book marks e (body_of book marks (template_in book.templates f) args))
      (λ f args i. or_failure_after_at premises bodies d (body_of book marks (template_in book.templates f) args)
      (premises f args i) (bodies f args)) c h k

-- the residual of what is `Failure`, or hopeful in each part, is again one or the other
pub IsFailureOrHopeful-after_at : (book : Book) (marks : Marks) → AreRight book marks → BodiesCountsFit book → (e : Event) →
    (d : ℕ) (c : Contract) → CountsFit book c → IsFailureOrHopeful book c → IsFailureOrHopeful book (after_at d book marks e c)
IsFailureOrHopeful-after_at book marks right fit e =
    or_failure_after_at book marks e (CountsFit book) (CountsFit-of_parts book) (IsHopefulThroughout book) (IsHopefulThroughout-kept book)
    (λ b p c h. IsFailureOrHopeful-normal book marks right (replace (event_givens b e) c) (CountsFit-replace book (event_givens b e) c h))
    (λ f args h. CountsFit-body book marks fit f args)
    (λ f args. of_body book marks (IsFailureOrHopeful book) (inl refl) (template_in book.templates f) args
    (λ t q. IsFailureOrHopeful-normal book marks right (replace (argument_givens book.declared t.params args) t.body)
    (CountsFit-replace book (argument_givens book.declared t.params args) t.body (fit f t q))))

-- the residual of a normal form is a normal form
nothing_asked : IsOfParts (λ _. Unit {0})
nothing_asked = record {
  failure = tt;
  plus = λ a b h k. tt;
  par = λ a b h k. tt;
  seq = λ a b h k. tt;
  plus_parts = λ a b h. (tt, tt);
  par_parts = λ a b h. (tt, tt);
  seq_parts = λ a b h. (tt, tt);
}

pub built-after_at : (book : Book) (marks : Marks) (e : Event) (d : ℕ) (c : Contract) →
    FailureOr (IsBuilt book marks) c → FailureOr (IsBuilt book marks) (after_at d book marks e c)
built-after_at book marks e d c h =
    or_failure_after_at book marks e (λ _. Unit {0}) nothing_asked (IsBuilt book marks) (IsBuilt-kept book marks)
    (λ b p c _. built-normal book marks (replace (event_givens b e) c)) (λ f args _. tt)
    (λ f args. of_body book marks (FailureOr (IsBuilt book marks)) (inl refl) (template_in book.templates f) args
    (λ t q. built-normal book marks (replace (argument_givens book.declared t.params args) t.body))) d c tt h
