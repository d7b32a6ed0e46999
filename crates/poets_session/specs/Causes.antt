-- What a fault says.
use Rattle.std.specs.Prelude.{◌≡◌, ℕ, ◌⊎◌, List, Option, Some, None, option_map}
use Rattle.poets_lex.specs.declared.fault.LexFault.{LexFault}
use Rattle.poets_lex.specs.declared.fault.LexFault.TheVariants as L
use Rattle.poets_parse.specs.declared.fault.SyntaxFault.{SyntaxFault}
use Rattle.poets_parse.specs.declared.fault.SyntaxFault.TheVariants as S
use Rattle.poets_types.specs.declared.cause.TypeCause.{TypeCause}
use Rattle.poets_types.specs.declared.cause.TypeFault.{TypeFault}
use Rattle.poets_types.specs.declared.cause.TypeCause.TheVariants as T
use Rattle.poets_types.specs.Faults.{fault_of}
use Rattle.poets_guard.specs.declared.guard.GuardFault.TheVariants as G
use Rattle.poets_command.specs.Said.{Statement}
use Rattle.poets_session.specs.Places.{Misplaced, TooMany}
use Rattle.poets_session.specs.declared.counting.PlaceFault.{PlaceFault}
use Rattle.poets_session.specs.declared.counting.PlaceFault.TheVariants as P
use Rattle.poets_session.specs.Refusals.{Refusal, TooDeep, NoSentence, Place, Mistyped, Unguarded}
use Rattle.poets_session.specs.Refusals.{refusal_at_byte}
use Rattle.poets_session.specs.Refusals.{AreRefused, IsRefused}
use Rattle.poets_session.specs.Sessions.{Text}
use Rattle.poets_session.specs.declared.fault.SessionCause.{SessionCause}
use Rattle.poets_session.specs.declared.fault.SessionCause.TheVariants as C
use Rattle.poets_session.specs.declared.fault.SessionFault.{SessionFault}
use Rattle.poets_session.specs.declared.form.Form.{Form}

-- the cause of a fault of tokens; "out of memory" is one cause, wherever it happened
abbrev pub lex_cause : LexFault → SessionCause
lex_cause L.Memory = C.Memory
lex_cause fault = C.Lex fault

abbrev pub syntax_cause : ℕ → SyntaxFault → SessionCause
syntax_cause number S.Memory = C.Memory
syntax_cause number fault = C.Syntax number fault

abbrev pub place_cause : PlaceFault → SessionCause
place_cause (P.Misplaced number) = C.Misplaced number
place_cause (P.TooMany number) = C.TooMany number

abbrev pub cause_by : TypeFault → TypeCause → SessionCause
cause_by fault T.Memory = C.Memory
cause_by fault cause = C.Types fault

abbrev pub type_cause : TypeFault → SessionCause
type_cause fault = cause_by fault fault.cause

-- the refusal that a cause reports; "out of memory" is none
abbrev pub refusal_of : SessionCause → Option Refusal
refusal_of (C.Lex fault) = refusal_at_byte fault
refusal_of (C.Syntax number S.TooDeep) = Some (TooDeep number)
refusal_of (C.Syntax number S.NoSentence) = Some (NoSentence number)
refusal_of (C.Syntax number S.Memory) = None
refusal_of (C.Misplaced number) = Some (Place (Misplaced number))
refusal_of (C.TooMany number) = Some (Place (TooMany number))
refusal_of (C.Types fault) = option_map (Mistyped fault.statement) (fault_of fault.cause)
refusal_of (C.Guard number (G.Unguarded cycle)) = Some (Unguarded number cycle.items)
refusal_of (C.Guard number G.Memory) = None
refusal_of C.Memory = None

-- the cause reports a refusal of which this holds, or that memory ran out
abbrev pub IsCauseOf : (Refusal → Type 0) → SessionCause → Type 0
IsCauseOf Is cause = (cause ≡ C.Memory) ⊎ ((r : Refusal) × (refusal_of cause ≡ Some r) × Is r)

-- the fault is the first one of the statements, or memory ran out
abbrev pub IsFirstFaultOf : Form → List Statement → SessionFault → Type 0
IsFirstFaultOf form statements fault = IsCauseOf (AreRefused form statements) fault.what

-- the fault is the first one of the text, or memory ran out
abbrev pub IsFirstFault : Text → Form → SessionFault → Type 0
IsFirstFault text form fault = IsCauseOf (IsRefused text form fault.names) fault.what
