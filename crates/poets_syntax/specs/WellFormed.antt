-- What typing gives the laws: declared names are bound nowhere, and the literals in arguments of
-- applications are of declared kinds.
use Rattle.std.specs.Prelude.{◌≡◌, List, [], ◌∷◌, Some}
use Rattle.poets_value.specs.declared.value.Name.{Name}
use Rattle.poets_value.specs.declared.event.Event.{Event}
use Rattle.poets_value.specs.declared.value.Ty.TheVariants as T
use Rattle.poets_expr.specs.Expression.{Expression}
use Rattle.poets_expr.specs.Env.{Declared}
use Rattle.poets_expr.specs.Fold.{HasDeclaredLiterals}
use Rattle.poets_syntax.specs.Contract.{Contract, Success, Failure, Transmit, Plus, Par, Seq, App}
use Rattle.poets_syntax.specs.Plain.{Book, Template}
use Rattle.poets_syntax.specs.Book.{template_in}
use Rattle.poets_syntax.specs.Replace.{AreUndeclared}

-- the literals in the expressions are of declared kinds
abbrev pub HaveDeclaredLiterals : Declared → List Expression → Type 0
HaveDeclaredLiterals declared [] = Unit {0}
HaveDeclaredLiterals declared (a ∷ args) = HasDeclaredLiterals declared a × HaveDeclaredLiterals declared args

-- binders are no declared names, and the literals in arguments are of declared kinds
abbrev pub IsWellFormed : Declared → Contract → Type 0
IsWellFormed declared Success = Unit {0}
IsWellFormed declared Failure = Unit {0}
IsWellFormed declared (Transmit b p c) = AreUndeclared declared b × IsWellFormed declared c
IsWellFormed declared (Plus c₁ c₂) = IsWellFormed declared c₁ × IsWellFormed declared c₂
IsWellFormed declared (Par c₁ c₂) = IsWellFormed declared c₁ × IsWellFormed declared c₂
IsWellFormed declared (Seq c₁ c₂) = IsWellFormed declared c₁ × IsWellFormed declared c₂
IsWellFormed declared (App f args) = HaveDeclaredLiterals declared args

-- the event's agents and its kind are declared as such
pub record IsDeclaredEvent (declared : Declared) (e : Event) : Type 0 where
  pub sender : declared e.sender ≡ Some T.Agent
  pub receiver : declared e.receiver ≡ Some T.Agent
  pub kind : declared e.what.kind ≡ Some T.Kind

-- the bodies of the templates are well-formed
abbrev pub AreWellFormed : Book → Type 0
AreWellFormed book =
    (f : Name) (t : Template) → template_in book.templates f ≡ Some t → IsWellFormed book.declared t.body
