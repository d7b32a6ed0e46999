-- The texts that lines are made of.
use Rattle.std.specs.Prelude.{◌≡◌, Some, option_map, String, string_bytes}
use Rattle.std.specs.declared.alloc.Global.{Global}
use Rattle.poets_lex.specs.Table.{Table}
use Rattle.poets_types.specs.Faults.{fault_of}
use Rattle.poets_types.specs.declared.cause.TypeCause.{TypeCause}
use Rattle.poets_session.specs.Refusals.{Refusal}
use Rattle.poets_session.specs.Texts.{fault_text, refusal_text}

-- the text tells the fault of types that the cause is
abbrev pub TellsFault : Table → TypeCause → String Global → Type 0
TellsFault names cause text = option_map (fault_text names) (fault_of cause) ≡ Some (string_bytes text)

-- the line is that of the refusal
abbrev pub TellsRefusal : Table → Refusal → String Global → Type 0
TellsRefusal names r line = refusal_text names r ≡ string_bytes line
