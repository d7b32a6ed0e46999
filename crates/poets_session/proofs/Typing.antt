-- Faults of types, told as causes.
use Rattle.std.proofs.Common.{◌≡◌, ℕ, List, inl, inr, IfSome, refl, ap}
use Rattle.std.specs.Prelude.{option_map}
use Rattle.poets_syntax.specs.Plain.{Twice, Unknown, WrongCount, WrongType}
use Rattle.poets_types.specs.declared.cause.TypeCause.{TypeCause}
use Rattle.poets_types.specs.declared.cause.TypeCause.TheVariants as T
use Rattle.poets_types.specs.declared.cause.TypeFault.{TypeFault}
use Rattle.poets_types.specs.Faults.{fault_of, IsFirstFault}
use Rattle.poets_session.specs.code.Checking.{IsTypeRefusal}
use Rattle.poets_session.specs.Refusals.{Mistyped}
use Rattle.poets_session.specs.Causes.{IsCauseOf, type_cause, cause_by}
use Rattle.poets_command.specs.Said.{Statement}
use Rattle.poets_command.specs.StatementDemands.{FirstTypeFault}
use Rattle.poets_command.specs.Plain as plain

refused_by : (statements : List Statement) (number : ℕ) (fault : plain.TypeCause) → FirstTypeFault statements number fault → IsTypeRefusal statements (Mistyped number fault)
refused_by statements number fault h = record { number = number; fault = fault; first = h; told = refl }

by_cause : (statements : List Statement) (f : TypeFault) (cause : TypeCause) → f.cause ≡ cause → IfSome (fault_of cause) (FirstTypeFault statements f.statement) →
    IsCauseOf (IsTypeRefusal statements) (cause_by f cause)
by_cause statements f (T.Twice x) e h =
    inr (Mistyped f.statement (Twice x), ap (λ c. option_map (Mistyped f.statement) (fault_of c)) e, refused_by statements f.statement (Twice x) h)
by_cause statements f (T.Unknown x) e h =
    inr (Mistyped f.statement (Unknown x), ap (λ c. option_map (Mistyped f.statement) (fault_of c)) e, refused_by statements f.statement (Unknown x) h)
by_cause statements f (T.WrongCount x m n) e h =
    inr (Mistyped f.statement (WrongCount x m n), ap (λ c. option_map (Mistyped f.statement) (fault_of c)) e, refused_by statements f.statement (WrongCount x m n) h)
by_cause statements f (T.WrongType s t) e h =
    inr (Mistyped f.statement (WrongType s t), ap (λ c. option_map (Mistyped f.statement) (fault_of c)) e, refused_by statements f.statement (WrongType s t) h)
by_cause statements f T.Memory e h = inl refl

pub type_told : (statements : List Statement) (f : TypeFault) → IsFirstFault statements f → IsCauseOf (IsTypeRefusal statements) (type_cause f)
type_told statements f h = by_cause statements f f.cause refl h
