-- Where the first fault of a text is.
use Rattle.std.specs.Prelude.{◌≡◌, ℕ, ◌≤◌, List, ◌++◌, length, Option, String, string_bytes}
use Rattle.std.specs.declared.alloc.Global.{Global}
use Rattle.poets_value.specs.Limits.{longest_text}
use Rattle.poets_command.specs.Said.{Statement}
use Rattle.poets_lex.specs.Table.{Table}
use Rattle.poets_session.specs.Causes.{IsFirstFault}
use Rattle.poets_session.specs.Sessions.{Text, IsSession}
use Rattle.poets_session.specs.declared.fault.SessionFault.{SessionFault}
use Rattle.poets_session.specs.declared.form.Form.{Form}
use Rattle.poets_mark.specs.Lines.{mark_text}
use Rattle.poets_mark.specs.Places.{IsPlaceOf}
use Rattle.poets_mark.specs.Spots.{IsSpot}
use Rattle.poets_mark.specs.Whys.{why_line}
use Rattle.poets_mark.specs.declared.spots.Spot.{Spot}
use Rattle.poets_mark.specs.declared.why.Mistake.{Mistake}

-- the text is a session of the form
abbrev pub IsSomeSession : Text → Form → Type 0
IsSomeSession text form = (names : Table) × (statements : List Statement) × IsSession text form names statements

-- the text is a session of the form, unless it is longer than one may be
abbrev pub NeedsNoMark : Text → Form → Type 0
NeedsNoMark text form = length text ≤ longest_text → IsSomeSession text form

-- this is the spot of the first fault of the text
abbrev pub IsFaultSpot : Text → Form → Spot → Type 0
IsFaultSpot text form spot =
    (fault : SessionFault) × IsFirstFault text form fault × IsPlaceOf text fault.what spot.place × IsSpot text spot

-- these are the lines that show where the first fault of the text is, and after them one that names
-- a mistake, or none
abbrev pub IsMarkOf : Text → Form → List ℕ → Type 0
IsMarkOf text form lines =
    (spot : Spot) × (mistake : Option Mistake) × IsFaultSpot text form spot
    × (lines ≡ mark_text text spot ++ why_line mistake)

-- the string is the lines that show where the first fault of the text is
abbrev pub ShowsMark : Text → Form → String Global → Type 0
ShowsMark text form lines = IsMarkOf text form (string_bytes lines)
