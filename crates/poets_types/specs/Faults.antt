-- The faults that the code reports.
use Rattle.std.specs.Prelude.{Option, Some, None, IfSome, List}
use Rattle.poets_expr.specs.Env.{Declared}
use Rattle.poets_syntax.specs.Plain.{Twice, Unknown, WrongCount, WrongType}
use Rattle.poets_syntax.specs.Demands.{Demand, FirstFault}
use Rattle.poets_types.specs.declared.cause.TypeCause.{TypeCause}
use Rattle.poets_types.specs.declared.cause.TypeCause.TheVariants as C
use Rattle.poets_types.specs.declared.cause.TypeFault.{TypeFault}
use Rattle.poets_command.specs.Said.{Statement}
use Rattle.poets_command.specs.StatementDemands.{FirstTypeFault}
use Rattle.poets_command.specs.Plain as plain

-- the fault that a cause reports; "out of memory" reports none
abbrev pub fault_of : TypeCause → Option plain.TypeCause
fault_of (C.Twice x) = Some (Twice x)
fault_of (C.Unknown x) = Some (Unknown x)
fault_of (C.WrongCount x wanted found) = Some (WrongCount x wanted found)
fault_of (C.WrongType wanted found) = Some (WrongType wanted found)
fault_of C.Memory = None

-- the cause is that of the first demand that is not met, or that memory ran out
abbrev pub IsFaultOf : Declared → List Demand → TypeCause → Type 0
IsFaultOf declared demands cause = IfSome (fault_of cause) (FirstFault declared demands)

-- the number and the cause are those of the first fault of types among the statements, or the cause
-- is that memory ran out
abbrev pub IsFirstFault : List Statement → TypeFault → Type 0
IsFirstFault statements f = IfSome (fault_of f.cause) (FirstTypeFault statements f.statement)
