-- The lines of faults.
use Rattle.std.specs.Prelude.{◌≡◌, Some, option_map, String, string_bytes}
use Rattle.std.specs.declared.alloc.Global.{Global}
use Rattle.poets_lex.specs.Table.{Table}
use Rattle.poets_session.specs.Texts.{refusal_text}
use Rattle.poets_session.specs.Causes.{refusal_of}
use Rattle.poets_session.specs.declared.fault.SessionCause.{SessionCause}

-- the line is that of the refusal which the cause reports
abbrev pub IsLineOf : Table → SessionCause → String Global → Type 0
IsLineOf names cause line = option_map (refusal_text names) (refusal_of cause) ≡ Some (string_bytes line)
