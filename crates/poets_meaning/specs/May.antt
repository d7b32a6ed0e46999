-- Which traces, and then how many granted steps, perform a contract.
use Rattle.std.specs.Prelude.{◌≡◌, ℕ, suc, ◌+◌, List, [], ◌∷◌, ◌++◌, length, map, Some}
use Rattle.poets_value.specs.declared.value.Name.{Name}
use Rattle.poets_value.specs.declared.event.Event.{Event}
use Rattle.poets_expr.specs.Env.{Env}
use Rattle.poets_expr.specs.Expression.{Expression}
use Rattle.poets_expr.specs.Val.{val}
use Rattle.poets_syntax.specs.declared.term.Binders.{Binders}
use Rattle.poets_syntax.specs.Contract.{Contract, Success, Transmit, Plus, Par, Seq, App}
use Rattle.poets_syntax.specs.Plain.{Book, Template}
use Rattle.poets_syntax.specs.Book.{template_in, parameter_env, taken, granted}
use Rattle.poets_meaning.specs.Between.{Between}
use Rattle.poets_meaning.specs.Perf.{Holds}

-- under the environment the contract may be performed by the trace, and then by so many granted
-- steps
pub data May (book : Book) : Env → Contract → List Event → ℕ → Type 0 where
  Done : {env : Env} → May book env Success [] 0
  Taken :
      {env : Env} {b : Binders} {p : Expression} {c : Contract} {e : Event} {s : List Event} {n : ℕ} →
      Holds book (taken b e env) p → May book (taken b e env) c s n → May book env (Transmit b p c) (e ∷ s) n
  Granted :
      {env : Env} {b : Binders} {p : Expression} {c : Contract} {n : ℕ} →
      May book (granted b env) c [] n → May book env (Transmit b p c) [] (suc n)
  Left : {env : Env} {c₁ c₂ : Contract} {s : List Event} {n : ℕ} → May book env c₁ s n → May book env (Plus c₁ c₂) s n
  Right : {env : Env} {c₁ c₂ : Contract} {s : List Event} {n : ℕ} → May book env c₂ s n → May book env (Plus c₁ c₂) s n
  Beside :
      {env : Env} {c₁ c₂ : Contract} {s₁ s₂ s : List Event} {n₁ n₂ n : ℕ} →
      Between s₁ s₂ s → n ≡ n₁ + n₂ → May book env c₁ s₁ n₁ → May book env c₂ s₂ n₂ → May book env (Par c₁ c₂) s n
  Then :
      {env : Env} {c₁ c₂ : Contract} {s₁ s₂ s : List Event} {n : ℕ} →
      s ≡ s₁ ++ s₂ → May book env c₁ s₁ 0 → May book env c₂ s₂ n → May book env (Seq c₁ c₂) s n
  ThenGranted :
      {env : Env} {c₁ c₂ : Contract} {s : List Event} {n₁ n₂ n : ℕ} →
      n ≡ n₁ + n₂ → May book env c₁ s n₁ → May book env c₂ [] n₂ → May book env (Seq c₁ c₂) s n
  Body :
      {env : Env} {f : Name} {args : List Expression} {t : Template} {s : List Event} {n : ℕ} →
      template_in book.templates f ≡ Some t → length t.params ≡ length args →
      May book (parameter_env t.params (map (val book.declared env) args)) t.body s n → May book env (App f args) s n
