-- Contracts of one shape whose expressions have the same values.
use Rattle.std.proofs.Common.{◌≡◌, ℕ, List, length, map, sym, ◌∙◌, subst}
use Rattle.poets_value.specs.declared.value.Name.{Name}
use Rattle.poets_value.specs.declared.event.Event.{Event}
use Rattle.poets_expr.specs.Expression.{Expression}
use Rattle.poets_expr.specs.Env.{Declared, Env}
use Rattle.poets_expr.specs.Val.{val}
use Rattle.poets_syntax.specs.declared.term.Binders.{Binders}
use Rattle.poets_syntax.specs.Contract.{Contract}
use Rattle.poets_syntax.specs.Plain.{Book}
use Rattle.poets_syntax.specs.Book.{BinderValues, values_of, undefined_values, bound, parameter_env}
use Rattle.poets_meaning.specs.May.{May}

-- the first contract under the first environment says what the second says under the second
pub data SaysSame (declared : Declared) : Env → Contract → Env → Contract → Type 0 where
  Success : {e₁ e₂ : Env} → SaysSame declared e₁ Contract.Success e₂ Contract.Success
  Failure : {e₁ e₂ : Env} → SaysSame declared e₁ Contract.Failure e₂ Contract.Failure
  Transmit :
      {e₁ e₂ : Env} {b₁ b₂ : Binders} {p₁ p₂ : Expression} {c₁ c₂ : Contract} →
      ((v : BinderValues) → val declared (bound b₁ v e₁) p₁ ≡ val declared (bound b₂ v e₂) p₂) →
      ((v : BinderValues) → SaysSame declared (bound b₁ v e₁) c₁ (bound b₂ v e₂) c₂) →
      SaysSame declared e₁ (Contract.Transmit b₁ p₁ c₁) e₂ (Contract.Transmit b₂ p₂ c₂)
  Plus :
      {e₁ e₂ : Env} {c₁ c₂ d₁ d₂ : Contract} →
      SaysSame declared e₁ c₁ e₂ c₂ → SaysSame declared e₁ d₁ e₂ d₂ → SaysSame declared e₁ (Contract.Plus c₁ d₁) e₂ (Contract.Plus c₂ d₂)
  Par :
      {e₁ e₂ : Env} {c₁ c₂ d₁ d₂ : Contract} →
      SaysSame declared e₁ c₁ e₂ c₂ → SaysSame declared e₁ d₁ e₂ d₂ → SaysSame declared e₁ (Contract.Par c₁ d₁) e₂ (Contract.Par c₂ d₂)
  Seq :
      {e₁ e₂ : Env} {c₁ c₂ d₁ d₂ : Contract} →
      SaysSame declared e₁ c₁ e₂ c₂ → SaysSame declared e₁ d₁ e₂ d₂ → SaysSame declared e₁ (Contract.Seq c₁ d₁) e₂ (Contract.Seq c₂ d₂)
  App :
      {e₁ e₂ : Env} {f : Name} {args₁ args₂ : List Expression} →
      length args₁ ≡ length args₂ → map (val declared e₁) args₁ ≡ map (val declared e₂) args₂ →
      SaysSame declared e₁ (Contract.App f args₁) e₂ (Contract.App f args₂)

pub SaysSame-sym : {declared : Declared} {e₁ e₂ : Env} {c₁ c₂ : Contract} → SaysSame declared e₁ c₁ e₂ c₂ → SaysSame declared e₂ c₂ e₁ c₁
SaysSame-sym SaysSame.Success = SaysSame.Success
SaysSame-sym SaysSame.Failure = SaysSame.Failure
SaysSame-sym (SaysSame.Transmit h k) = SaysSame.Transmit (λ v. sym (h v)) (λ v. SaysSame-sym (k v))
SaysSame-sym (SaysSame.Plus h k) = SaysSame.Plus (SaysSame-sym h) (SaysSame-sym k)
SaysSame-sym (SaysSame.Par h k) = SaysSame.Par (SaysSame-sym h) (SaysSame-sym k)
SaysSame-sym (SaysSame.Seq h k) = SaysSame.Seq (SaysSame-sym h) (SaysSame-sym k)
SaysSame-sym (SaysSame.App l h) = SaysSame.App (sym l) (sym h)

pub SaysSame-May : {book : Book} {e₁ e₂ : Env} {c₁ c₂ : Contract} {s : List Event} {n : ℕ} →
    SaysSame book.declared e₁ c₁ e₂ c₂ → May book e₁ c₁ s n → May book e₂ c₂ s n
SaysSame-May SaysSame.Success May.Done = May.Done
SaysSame-May SaysSame.Failure m = elim m [ ]
SaysSame-May (SaysSame.Transmit h k) (May.Taken {e = e} q m) = May.Taken (sym (h (values_of e)) ∙ q) (SaysSame-May (k (values_of e)) m)
SaysSame-May (SaysSame.Transmit h k) (May.Granted m) = May.Granted (SaysSame-May (k undefined_values) m)
SaysSame-May (SaysSame.Plus h k) (May.Left m) = May.Left (SaysSame-May h m)
SaysSame-May (SaysSame.Plus h k) (May.Right m) = May.Right (SaysSame-May k m)
SaysSame-May (SaysSame.Par h k) (May.Beside b q m₁ m₂) = May.Beside b q (SaysSame-May h m₁) (SaysSame-May k m₂)
SaysSame-May (SaysSame.Seq h k) (May.Then q m₁ m₂) = May.Then q (SaysSame-May h m₁) (SaysSame-May k m₂)
SaysSame-May (SaysSame.Seq h k) (May.ThenGranted q m₁ m₂) = May.ThenGranted q (SaysSame-May h m₁) (SaysSame-May k m₂)
SaysSame-May {book} (SaysSame.App l h) (May.Body {t = t} {s = s} {n = n} q r m) =
    May.Body q (r ∙ l) (subst (λ vs. May book (parameter_env t.params vs) t.body s n) h m)
