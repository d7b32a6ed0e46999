-- The lines of texts that are no sessions.
use Rattle.std.specs.Prelude.{ℕ, List, [], ◌∷◌, ◌++◌, codes}
use Rattle.std.specs.Fmt.{decimal}
use Rattle.poets_value.specs.declared.value.Name.{Name}
use Rattle.poets_lex.specs.Table.{Table}
use Rattle.poets_syntax.specs.Plain.{TypeCause, Twice, Unknown, WrongCount, WrongType}
use Rattle.poets_print.specs.Texts.{name_text, type_text}
use Rattle.poets_session.specs.Places.{Misplaced, TooMany}
use Rattle.poets_session.specs.Refusals.{Refusal, BadByte, LongNumber, LongName, TooDeep}
use Rattle.poets_session.specs.Refusals.{NoSentence, Place, Mistyped}
use Rattle.poets_session.specs.Refusals.{Unguarded}

-- `refused at byte 13: BadByte`, and LF (10)
abbrev pub at_byte : ℕ → List ℕ → List ℕ
at_byte at what = codes "refused at byte " ++ decimal at ++ codes ": " ++ what ++ 10 ∷ []

-- `refused in statement 4: TooDeep`, and LF
abbrev pub in_statement : ℕ → List ℕ → List ℕ
in_statement number what = codes "refused in statement " ++ decimal number ++ codes ": " ++ what ++ 10 ∷ []

-- what is wrong with the types of a statement, as `Twice ann`
abbrev pub fault_text : Table → TypeCause → List ℕ
fault_text names (Twice x) = codes "Twice " ++ name_text names x
fault_text names (Unknown x) = codes "Unknown " ++ name_text names x
fault_text names (WrongCount x wanted found) =
    codes "WrongCount " ++ name_text names x ++ codes ": wanted " ++ decimal wanted ++ codes ", found " ++ decimal found
fault_text names (WrongType wanted found) =
    codes "WrongType: wanted " ++ type_text wanted ++ codes ", found " ++ type_text found

-- the text of the first name; no cycle is empty
abbrev pub first_text : Table → List Name → List ℕ
first_text names [] = []
first_text names (f ∷ others) = name_text names f

-- the line of a refusal
abbrev pub refusal_text : Table → Refusal → List ℕ
refusal_text names (BadByte at) = at_byte at (codes "BadByte")
refusal_text names (LongNumber at) = at_byte at (codes "LongNumber")
refusal_text names (LongName at) = at_byte at (codes "LongName")
refusal_text names (TooDeep number) = in_statement number (codes "TooDeep")
refusal_text names (NoSentence number) = in_statement number (codes "NoSentence")
refusal_text names (Place (Misplaced number)) = in_statement number (codes "Misplaced")
refusal_text names (Place (TooMany number)) = in_statement number (codes "TooMany")
refusal_text names (Mistyped number fault) = in_statement number (fault_text names fault)
refusal_text names (Unguarded number cycle) = in_statement number (codes "Unguarded " ++ first_text names cycle)
