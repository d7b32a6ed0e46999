-- Faults of types and cycles as refusals.
use Rattle.std.specs.Prelude.{◌≡◌, ℕ, Bool, false, List, All}
use Rattle.poets_value.specs.declared.value.Name.{Name}
use Rattle.poets_expr.specs.Env.{same_name}
use Rattle.poets_syntax.specs.Plain.{TypeCause}
use Rattle.poets_guard.specs.FirstCycle.{IsFirstCycle}
use Rattle.poets_command.specs.declared.statement.Statement.{Statement as CodeStatement}
use Rattle.poets_command.specs.Statements.{statement_of}
use Rattle.poets_command.specs.Said.{Statement, Template}
use Rattle.poets_command.specs.Declarations.{book_from}
use Rattle.poets_command.specs.StatementDemands.{FirstTypeFault}
use Rattle.poets_session.specs.Refusals.{Refusal, Mistyped, Unguarded, IsTemplateAt}
use Rattle.poets_session.specs.Causes.{IsCauseOf}
use Rattle.poets_session.specs.declared.fault.SessionCause.{SessionCause}

-- the statement declares the template
abbrev pub declares : Name → Statement → Bool
declares name (Template t) = same_name t.name name
declares name s = false

-- none of the statements declares the template
abbrev pub NoneDeclares : Name → List CodeStatement → Type 0
NoneDeclares name statements = All (λ s. declares name (statement_of s) ≡ false) statements

-- the refusal of the first fault of types
pub record IsTypeRefusal (statements : List Statement) (r : Refusal) : Type 0 where
  pub number : ℕ
  pub fault : TypeCause
  pub first : FirstTypeFault statements number fault
  pub told : r ≡ Mistyped number fault

-- the cause reports the first fault of types among the statements, or that memory ran out
abbrev pub TellsTypes : List Statement → SessionCause → Type 0
TellsTypes statements cause = IsCauseOf (IsTypeRefusal statements) cause

-- the refusal of the first cycle
pub record IsGuardRefusal (statements : List Statement) (r : Refusal) : Type 0 where
  pub number : ℕ
  pub cycle : List Name
  pub told : r ≡ Unguarded number cycle
  pub found : IsFirstCycle (book_from statements) cycle
  pub declared : IsTemplateAt statements number found.first
