-- A normal form is `Failure`, or each part of it is hopeful.
use Rattle.std.proofs.Common.{◌≡◌, ℕ, suc, ◌+◌, true, List, [], ◌++◌, map, refl, sym, ◌∙◌, subst, inl, inr}
use Rattle.std.proofs.lemmas.List.Elements.{All-append}
use Rattle.poets_value.specs.declared.value.Name.{Name}
use Rattle.poets_expr.specs.Env.{Env}
use Rattle.poets_expr.specs.Expression.{Expression}
use Rattle.poets_expr.specs.Val.{val}
use Rattle.poets_syntax.specs.declared.term.Binders.{Binders}
use Rattle.poets_syntax.specs.Contract.{Contract, Success, Failure, Transmit, Plus, Par, Seq, App}
use Rattle.poets_syntax.specs.Plain.{Book}
use Rattle.poets_syntax.specs.Book.{parameter_env, granted}
use Rattle.poets_syntax.proofs.Replacing.{truth}
use Rattle.poets_meaning.specs.Between.{Between}
use Rattle.poets_meaning.specs.May.{May}
use Rattle.poets_meaning.specs.Marks.{Marks, AreRight, Hopeful}
use Rattle.poets_meaning.proofs.Granting.{May-anywhere}
use Rattle.poets_calculus.specs.Normal.{alternatives, distinct, plus, send, folded, params_in, normal}
use Rattle.poets_calculus.proofs.Regrouping.{regrouped-keeps}
use Rattle.poets_norm.specs.Laws.{CountsFit}
use Rattle.poets_norm.proofs.Counts.{length-folded}
use Rattle.poets_norm.proofs.Parts.{All-distinct, All-choice, FailureOr, FailureOr-alternatives, FailureOr-par, FailureOr-seq, FailureOr-send, IsKeptOrFailure}

-- each part is hopeful
abbrev pub IsHopefulThroughout : Book → Contract → Type 0
IsHopefulThroughout book Success = Unit {0}
IsHopefulThroughout book Failure = ⊥
IsHopefulThroughout book (Transmit b p c) = IsHopefulThroughout book c
IsHopefulThroughout book (Plus c₁ c₂) = IsHopefulThroughout book c₁ × IsHopefulThroughout book c₂
IsHopefulThroughout book (Par c₁ c₂) = IsHopefulThroughout book c₁ × IsHopefulThroughout book c₂
IsHopefulThroughout book (Seq c₁ c₂) = IsHopefulThroughout book c₁ × IsHopefulThroughout book c₂
IsHopefulThroughout book (App f args) = Hopeful book (App f args)

-- what a normal form is
abbrev pub IsFailureOrHopeful : Book → Contract → Type 0
IsFailureOrHopeful book c = FailureOr (IsHopefulThroughout book) c

module _ (book : Book) where
  -- a contract whose parts are hopeful is
  pub hopeful_by_parts : (c : Contract) → IsHopefulThroughout book c → (env : Env) → (n : ℕ) × May book env c [] n
  hopeful_by_parts Success h env = (0, May.Done)
  hopeful_by_parts Failure h env = absurd h
  hopeful_by_parts (Transmit b p c) h env = let m = hopeful_by_parts c h (granted b env) in (suc m.0, May.Granted m.1)
  hopeful_by_parts (Plus c₁ c₂) h env = let m = hopeful_by_parts c₁ h.0 env in (m.0, May.Left m.1)
  hopeful_by_parts (Par c₁ c₂) h env =
      let m = hopeful_by_parts c₁ h.0 env in
      let k = hopeful_by_parts c₂ h.1 env in
      (m.0 + k.0, May.Beside Between.Empty refl m.1 k.1)
  hopeful_by_parts (Seq c₁ c₂) h env =
      let m = hopeful_by_parts c₁ h.0 env in
      let k = hopeful_by_parts c₂ h.1 env in
      (m.0 + k.0, May.ThenGranted refl m.1 k.1)
  hopeful_by_parts (App f args) h env = (h.0, May-anywhere h.1 refl env)

  hopeful-plus : (a b : Contract) → FailureOr (IsHopefulThroughout book) a → FailureOr (IsHopefulThroughout book) b →
      FailureOr (IsHopefulThroughout book) (plus a b)
  hopeful-plus a b h k =
      let each = FailureOr-alternatives (IsHopefulThroughout book) (λ e. e) (λ x y i. i) in
      All-choice (IsHopefulThroughout book) (λ x y i j. (i, j)) (distinct (alternatives a ++ alternatives b))
      (All-distinct (IsHopefulThroughout book) (alternatives a ++ alternatives b)
      (All-append (IsHopefulThroughout book) (alternatives a) (alternatives b) (each a h) (each b k)))

  hopeful-send : (b : Binders) (p : Expression) (c : Contract) → IsHopefulThroughout book c → IsHopefulThroughout book (send b p c)
  hopeful-send b p Failure h = h
  hopeful-send b p _ h = h

  pub IsHopefulThroughout-kept : IsKeptOrFailure (IsHopefulThroughout book)
  IsHopefulThroughout-kept = record {
    plus = hopeful-plus;
    par = FailureOr-par (IsHopefulThroughout book) (λ a b h k _ _.
        regrouped-keeps (IsHopefulThroughout book) (record { join = λ c d l m. (l, m); sides = λ c d l. l }) (Par a b) (h, k));
    seq = FailureOr-seq (IsHopefulThroughout book) (λ a b h k e. (h, k));
    plus_parts = λ a b h. h;
    par_parts = λ a b h. h;
    seq_parts = λ a b h. h;
  }

module _ (book : Book) (marks : Marks) (right : AreRight book marks) where
  -- a hopeful template that is applied to the right number of arguments
  hopeful-app : (f : Name) (args : List Expression) → CountsFit book (App f args) → marks.hopeful f ≡ true →
      Hopeful book (App f (folded book.declared (params_in book f) args))
  hopeful-app f args counts e =
      let body = (right.hopeful f).0 e in
      let folded_args = folded book.declared (params_in book f) args in (
        body.2.0,
        May.Body body.1 (counts body.0 body.1 ∙ sym (length-folded book.declared (params_in book f) args))
            (May-anywhere body.2.1 refl (parameter_env body.0.params (map (val book.declared []) folded_args))),
      )

  pub IsFailureOrHopeful-normal : (c : Contract) → CountsFit book c → IsFailureOrHopeful book (normal book marks c)
  IsFailureOrHopeful-normal Success h = inr tt
  IsFailureOrHopeful-normal Failure h = inl refl
  IsFailureOrHopeful-normal (Transmit b p c) h =
      FailureOr-send (IsHopefulThroughout book) (hopeful-send book) b p (normal book marks c) (IsFailureOrHopeful-normal c h)
  IsFailureOrHopeful-normal (Plus a b) h =
      (IsHopefulThroughout-kept book).plus (normal book marks a) (normal book marks b) (IsFailureOrHopeful-normal a h.0) (IsFailureOrHopeful-normal b h.1)
  IsFailureOrHopeful-normal (Par a b) h =
      (IsHopefulThroughout-kept book).par (normal book marks a) (normal book marks b) (IsFailureOrHopeful-normal a h.0) (IsFailureOrHopeful-normal b h.1)
  IsFailureOrHopeful-normal (Seq a b) h =
      (IsHopefulThroughout-kept book).seq (normal book marks a) (normal book marks b) (IsFailureOrHopeful-normal a h.0) (IsFailureOrHopeful-normal b h.1)
  IsFailureOrHopeful-normal (App f args) h = elim (truth (marks.hopeful f)) [
    | inl e ↦ rw e (inr (hopeful-app f args h e))
    | inr e ↦ rw e (inl refl)
  ]

-- such a contract is `Failure` exactly where it is not hopeful
pub failure_is_hopeless : (book : Book) (c : Contract) → c ≡ Failure → Hopeful book c → ⊥
failure_is_hopeless book c e h = let m : May book [] Failure [] h.0 = subst (λ d. May book [] d [] h.0) e h.1 in elim m [ ]

pub hopeless_is_failure : (book : Book) (c : Contract) → IsFailureOrHopeful book c → (Hopeful book c → ⊥) → c ≡ Failure
hopeless_is_failure book c (inl e) denied = e
hopeless_is_failure book c (inr h) denied = absurd (denied (hopeful_by_parts book c h []))

-- where it is not, some number of granted steps performs it
pub hopeful_unless_failure : (book : Book) (c : Contract) → IsFailureOrHopeful book c → (c ≡ Failure → ⊥) → Hopeful book c
hopeful_unless_failure book c (inl e) unless = absurd (unless e)
hopeful_unless_failure book c (inr h) unless = hopeful_by_parts book c h []
