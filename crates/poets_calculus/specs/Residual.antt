-- The residual of a closed contract in normal form by an event: as a function, with a depth of
-- unfolding, and as a relation.
use Rattle.std.specs.Prelude.{◌≡◌, ℕ, zero, suc, length, fold, Option, Some, None, if◌then◌else◌}
use Rattle.std.specs.Prelude.{List, []}
use Rattle.poets_value.specs.declared.value.Name.{Name}
use Rattle.poets_value.specs.declared.event.Event.{Event}
use Rattle.poets_expr.specs.Expression.{Expression}
use Rattle.poets_expr.specs.Val.{val}
use Rattle.poets_syntax.specs.declared.term.Binders.{Binders}
use Rattle.poets_syntax.specs.Contract.{Contract}
use Rattle.poets_syntax.specs.Contract as C
use Rattle.poets_syntax.specs.Plain.{Book, Template}
use Rattle.poets_syntax.specs.Book.{template_in, taken}
use Rattle.poets_syntax.specs.Replace.{replace}
use Rattle.poets_syntax.specs.Givens.{event_givens, argument_givens}
use Rattle.poets_meaning.specs.Perf.{Holds}
use Rattle.poets_meaning.specs.Marks.{Marks, Nullable, nullable}
use Rattle.poets_meaning.specs.Truth.{is_true}
use Rattle.poets_calculus.specs.Normal.{normal, plus, par, seq}

-- the residual by an event, where `unfold_at` gives that of an application
abbrev pub after_by : (Name → List Expression → Contract) → Book → Marks → Event → Contract → Contract
after_by unfold_at book marks e C.Success = C.Failure
after_by unfold_at book marks e C.Failure = C.Failure
after_by unfold_at book marks e (C.Transmit b p c) =
    if is_true (val book.declared (taken b e []) p) then normal book marks (replace (event_givens b e) c) else C.Failure
after_by unfold_at book marks e (C.Plus a b) =
    plus (after_by unfold_at book marks e a) (after_by unfold_at book marks e b)
after_by unfold_at book marks e (C.Par a b) =
    plus (par (after_by unfold_at book marks e a) b) (par a (after_by unfold_at book marks e b))
after_by unfold_at book marks e (C.Seq a b) =
    if nullable marks a then plus (seq (after_by unfold_at book marks e a) b) (after_by unfold_at book marks e b)
    else seq (after_by unfold_at book marks e a) b
after_by unfold_at book marks e (C.App f args) = unfold_at f args

-- an application unfolded: the body with its parameters replaced, in normal form
abbrev pub body_of : Book → Marks → Option Template → List Expression → Contract
body_of book marks None args = C.Failure
body_of book marks (Some t) args = normal book marks (replace (argument_givens book.declared t.params args) t.body)

-- the residual by an event, with at most so many unfoldings in a row
abbrev pub after_at : ℕ → Book → Marks → Event → Contract → Contract
after_at zero book marks e c = after_by (λ _ _. C.Failure) book marks e c
after_at (suc d) book marks e c =
    after_by (λ f args. after_at d book marks e (body_of book marks (template_in book.templates f) args)) book marks e c

-- the residual by an event: in a guarded book there are no more unfoldings in a row than templates
abbrev pub after : Book → Marks → Event → Contract → Contract
after book marks e c = after_at (length book.templates) book marks e c

-- the residual by a trace: the normal form of the original, taken through the events one by one
abbrev pub residual_after : Book → Marks → Contract → List Event → Contract
residual_after book marks o s = fold (λ c e. after book marks e c) (normal book marks o) s

-- the second contract is the residual of the first by the event, rule by rule
pub data After (book : Book) (marks : Marks) (e : Event) : Contract → Contract → Type 0 where
  Success : After book marks e Contract.Success Contract.Failure
  Failure : After book marks e Contract.Failure Contract.Failure
  Taken :
      {b : Binders} {p : Expression} {c : Contract} → Holds book (taken b e []) p →
      After book marks e (Contract.Transmit b p c) (normal book marks (replace (event_givens b e) c))
  Refused :
      {b : Binders} {p : Expression} {c : Contract} → (Holds book (taken b e []) p → ⊥) →
      After book marks e (Contract.Transmit b p c) Contract.Failure
  Plus :
      {c₁ c₂ r₁ r₂ : Contract} → After book marks e c₁ r₁ → After book marks e c₂ r₂ →
      After book marks e (Contract.Plus c₁ c₂) (plus r₁ r₂)
  Par :
      {c₁ c₂ r₁ r₂ : Contract} → After book marks e c₁ r₁ → After book marks e c₂ r₂ →
      After book marks e (Contract.Par c₁ c₂) (plus (par r₁ c₂) (par c₁ r₂))
  Over :
      {c₁ c₂ r₁ r₂ : Contract} → Nullable book c₁ → After book marks e c₁ r₁ → After book marks e c₂ r₂ →
      After book marks e (Contract.Seq c₁ c₂) (plus (seq r₁ c₂) r₂)
  Seq :
      {c₁ c₂ r₁ : Contract} → (Nullable book c₁ → ⊥) → After book marks e c₁ r₁ →
      After book marks e (Contract.Seq c₁ c₂) (seq r₁ c₂)
  Body :
      {f : Name} {args : List Expression} {t : Template} {r : Contract} →
      template_in book.templates f ≡ Some t → length t.params ≡ length args →
      After book marks e (normal book marks (replace (argument_givens book.declared t.params args) t.body)) r →
      After book marks e (Contract.App f args) r
