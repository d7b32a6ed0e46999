-- Which traces perform a contract.
use Rattle.std.specs.Prelude.{◌≡◌, List, [], ◌∷◌, ◌++◌, length, map, Some, true}
use Rattle.poets_value.specs.declared.value.Name.{Name}
use Rattle.poets_value.specs.declared.event.Event.{Event}
use Rattle.poets_value.specs.declared.value.Value.TheVariants as V
use Rattle.poets_expr.specs.Env.{Env}
use Rattle.poets_expr.specs.Expression.{Expression}
use Rattle.poets_expr.specs.Val.{val}
use Rattle.poets_syntax.specs.declared.term.Binders.{Binders}
use Rattle.poets_syntax.specs.Contract.{Contract, Success, Transmit, Plus, Par, Seq, App}
use Rattle.poets_syntax.specs.Plain.{Book, Template}
use Rattle.poets_syntax.specs.Book.{template_in, parameter_env, taken}
use Rattle.poets_meaning.specs.Between.{Between}

-- a predicate holds where its value is true
abbrev pub Holds : Book → Env → Expression → Type 0
Holds book env p = val book.declared env p ≡ Some (V.Bool true)

-- under the environment the contract is performed by the trace
pub data Perf (book : Book) : Env → Contract → List Event → Type 0 where
  Done : {env : Env} → Perf book env Success []
  Taken :
      {env : Env} {b : Binders} {p : Expression} {c : Contract} {e : Event} {s : List Event} →
      Holds book (taken b e env) p → Perf book (taken b e env) c s → Perf book env (Transmit b p c) (e ∷ s)
  Left : {env : Env} {c₁ c₂ : Contract} {s : List Event} → Perf book env c₁ s → Perf book env (Plus c₁ c₂) s
  Right : {env : Env} {c₁ c₂ : Contract} {s : List Event} → Perf book env c₂ s → Perf book env (Plus c₁ c₂) s
  Beside :
      {env : Env} {c₁ c₂ : Contract} {s₁ s₂ s : List Event} →
      Between s₁ s₂ s → Perf book env c₁ s₁ → Perf book env c₂ s₂ → Perf book env (Par c₁ c₂) s
  Then :
      {env : Env} {c₁ c₂ : Contract} {s₁ s₂ s : List Event} →
      s ≡ s₁ ++ s₂ → Perf book env c₁ s₁ → Perf book env c₂ s₂ → Perf book env (Seq c₁ c₂) s
  Body :
      {env : Env} {f : Name} {args : List Expression} {t : Template} {s : List Event} →
      template_in book.templates f ≡ Some t → length t.params ≡ length args →
      Perf book (parameter_env t.params (map (val book.declared env) args)) t.body s → Perf book env (App f args) s
