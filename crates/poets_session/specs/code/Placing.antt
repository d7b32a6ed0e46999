-- The places of statements as the code finds them, one statement after the other.
use Rattle.std.specs.Prelude.{◌≡◌, ℕ, Bool, true, false, ◌||◌, nat_le, nat_lt, List, Option, Some}
use Rattle.std.specs.Prelude.{None}
use Rattle.std.specs.Prelude.{fold, option_and_then, count_by}
use Rattle.poets_value.specs.Limits.{most_clerks}
use Rattle.poets_command.specs.Said.{Statement, Agents, Kinds, Template, Report, Clerk, Journal}
use Rattle.poets_command.specs.Said.{Command, Numbered}
use Rattle.poets_session.specs.Places.{is_template, is_report, is_clerk, is_command, most_templates}
use Rattle.poets_session.specs.Places.{most_reports, most_commands, IsPlaceFault}
use Rattle.poets_session.specs.Places as plain
use Rattle.poets_session.specs.declared.form.Form.{Form}
use Rattle.poets_session.specs.declared.form.Form.TheVariants as F
use Rattle.poets_session.specs.declared.counting.Part.{Part}
use Rattle.poets_session.specs.declared.counting.Part.TheVariants as P
use Rattle.poets_session.specs.declared.counting.PlaceFault.{PlaceFault}
use Rattle.poets_session.specs.declared.counting.PlaceFault.TheVariants as X

-- the part in which a statement stands that follows one of a part; none where it may not stand
-- there
abbrev pub next_part : Form → Part → Statement → Option Part
next_part form P.Book (Agents names) = Some P.Book
next_part form P.Book (Kinds names) = Some P.Book
next_part form P.Book (Template t) = Some P.Book
next_part form P.Book (Report q) = Some P.Book
next_part F.Clerks P.Book Clerk = Some P.Clerk
next_part F.Clerks P.Clerk Clerk = Some P.Clerk
next_part F.Clerks P.Clerk (Command command) = Some P.Clerk
next_part F.Journal P.Book Journal = Some P.Journal
next_part F.Journal P.Journal (Numbered clerk command) = Some P.Journal
next_part form part s = None

-- the part after statements that follow one of a part, none where one of them may not stand in its
-- place
abbrev pub part_from : Form → Option Part → List Statement → Option Part
part_from form part statements = fold (λ part s. option_and_then (λ p. next_part form p s) part) part statements

-- the part after statements; a session begins with its book
abbrev pub part_after : Form → List Statement → Option Part
part_after form statements = part_from form (Some P.Book) statements

-- a journal's session has its `journal`
abbrev pub lacks_journal : Form → Part → Bool
lacks_journal F.Journal P.Book = true
lacks_journal form part = false

-- so many of a kind, or more, stand among the statements
abbrev pub has_all : ℕ → (Statement → Bool) → List Statement → Bool
has_all most is_one before = nat_le most (count_by is_one before)

-- the statement is one too many after those before it, or has the number of no clerk
abbrev pub is_too_many : (before : List Statement) → Statement → Bool
is_too_many before Clerk = has_all most_clerks is_clerk before
is_too_many before (Template t) = has_all most_templates is_template before
is_too_many before (Report q) = has_all most_reports is_report before
is_too_many before (Command command) = has_all most_commands is_command before
is_too_many before (Numbered clerk command) =
    nat_lt clerk 1 || nat_lt most_clerks clerk || has_all most_commands is_command before
is_too_many before s = false

-- the fault of the code, as a plain one
abbrev pub fault_of : PlaceFault → plain.PlaceFault
fault_of (X.Misplaced number) = plain.Misplaced number
fault_of (X.TooMany number) = plain.TooMany number

-- the code's fault tells the first statement that is misplaced or one too many
abbrev pub TellsPlace : Form → List Statement → PlaceFault → Type 0
TellsPlace form statements fault = IsPlaceFault form statements (fault_of fault)
