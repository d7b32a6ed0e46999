-- Checks as the code answers them.
use Rattle.std.specs.Prelude.{◌≡◌, Result, Ok, Err, Some, IfSome}
use Rattle.poets_syntax.specs.Plain.{Twice, Unknown, WrongCount, WrongType}
use Rattle.poets_syntax.specs.TypeOf.{Verdict, Passes, Fails}
use Rattle.poets_syntax.specs.Plain as plain
use Rattle.poets_types.specs.declared.cause.TypeCause.{TypeCause}
use Rattle.poets_types.specs.declared.cause.TypeCause.TheVariants as C
use Rattle.poets_types.specs.declared.cause.TypeFault.{TypeFault}
use Rattle.poets_types.specs.Faults.{fault_of}
use Rattle.poets_command.specs.Plain as command

-- the cause that tells a fault
abbrev pub cause_of : plain.TypeCause → TypeCause
cause_of (Twice x) = C.Twice x
cause_of (Unknown x) = C.Unknown x
cause_of (WrongCount x wanted found) = C.WrongCount x wanted found
cause_of (WrongType wanted found) = C.WrongType wanted found

-- what passes, or the cause of the fault
abbrev pub answer_of : {A : Type 0} → Verdict A → Result A TypeCause
answer_of (Passes a) = Ok a
answer_of (Fails fault) = Err (cause_of fault)

-- the cause reports the fault of the check, or that memory ran out
abbrev pub IsToldBy : Verdict (Unit {0}) → TypeCause → Type 0
IsToldBy check cause = IfSome (fault_of cause) (λ fault. check ≡ Fails fault)

-- the number and the cause are those of the first fault, or the cause is that memory ran out
abbrev pub IsToldFirst : command.TypeFault → TypeFault → Type 0
IsToldFirst first f = IfSome (fault_of f.cause) (λ fault. first ≡ Some (f.statement, fault))

-- the answer says that the check passes, or reports its fault, or that memory ran out
abbrev pub IsAnswerOf : Verdict (Unit {0}) → Result (Unit {0}) TypeCause → Type 0
IsAnswerOf check (Ok _) = check ≡ Passes tt
IsAnswerOf check (Err cause) = IsToldBy check cause
