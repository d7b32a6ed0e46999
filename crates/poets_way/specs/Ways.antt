-- Why a trace performs a contract.
use Rattle.std.specs.Prelude.{◌≡◌, ◌≤◌, ℕ, Bool, List, [], ◌∷◌, length, map, take, drop, Some}
use Rattle.std.specs.Prelude.{if◌then◌else◌}
use Rattle.poets_value.specs.declared.value.Name.{Name}
use Rattle.poets_value.specs.declared.event.Event.{Event}
use Rattle.poets_expr.specs.Env.{Env}
use Rattle.poets_expr.specs.Expression.{Expression}
use Rattle.poets_expr.specs.Val.{val}
use Rattle.poets_syntax.specs.declared.term.Binders.{Binders}
use Rattle.poets_syntax.specs.Contract.{Contract, Success, Transmit, Plus, Par, Seq, App}
use Rattle.poets_syntax.specs.Plain.{Book, Template}
use Rattle.poets_syntax.specs.Book.{template_in, parameter_env, taken}
use Rattle.poets_meaning.specs.Perf.{Holds}
use Rattle.poets_way.specs.Way.{Way}
use Rattle.poets_way.specs.Way as W

-- the items whose side is the first one
abbrev pub first_of : {A : Type 0} → List Bool → List A → List A
first_of (second ∷ sides) (x ∷ s) = if second then first_of sides s else x ∷ first_of sides s
first_of _ _ = []

-- the items whose side is the second one
abbrev pub second_of : {A : Type 0} → List Bool → List A → List A
second_of (second ∷ sides) (x ∷ s) = if second then x ∷ second_of sides s else second_of sides s
second_of _ _ = []

-- under the environment the trace performs the contract in this way
pub data Ways (book : Book) : Env → Contract → List Event → Way → Type 0 where
  Nothing : {env : Env} → Ways book env Success [] W.Nothing
  Enter :
      {env : Env} {f : Name} {args : List Expression} {t : Template} {s : List Event} {w : Way} →
      template_in book.templates f ≡ Some t → length t.params ≡ length args →
      Ways book (parameter_env t.params (map (val book.declared env) args)) t.body s w →
      Ways book env (App f args) s (W.Enter w)
  Take :
      {env : Env} {b : Binders} {p : Expression} {c : Contract} {e : Event} {s : List Event} {w : Way} →
      Holds book (taken b e env) p → Ways book (taken b e env) c s w → Ways book env (Transmit b p c) (e ∷ s) (W.Take w)
  Left :
      {env : Env} {c₁ c₂ : Contract} {s : List Event} {w : Way} →
      Ways book env c₁ s w → Ways book env (Plus c₁ c₂) s (W.Left w)
  Right :
      {env : Env} {c₁ c₂ : Contract} {s : List Event} {w : Way} →
      Ways book env c₂ s w → Ways book env (Plus c₁ c₂) s (W.Right w)
  Both :
      {env : Env} {c₁ c₂ : Contract} {s : List Event} {sides : List Bool} {v u : Way} → length sides ≡ length s →
      Ways book env c₁ (first_of sides s) v → Ways book env c₂ (second_of sides s) u →
      Ways book env (Par c₁ c₂) s (W.Both sides v u)
  Then :
      {env : Env} {c₁ c₂ : Contract} {s : List Event} {n : ℕ} {v u : Way} → n ≤ length s →
      Ways book env c₁ (take n s) v → Ways book env c₂ (drop n s) u → Ways book env (Seq c₁ c₂) s (W.Then n v u)
