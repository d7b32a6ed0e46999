-- The laws of runs with a disk, as statements.
use Rattle.std.specs.Prelude.{◌≡◌, ℕ, ◌<◌, ◌≤◌, List, length, take}
use Rattle.poets_value.specs.Limits.{longest_text, most_clerks, most_sales}
use Rattle.poets_lex.specs.Table.{Table, Extends}
use Rattle.poets_command.specs.Declarations.{book_from, reports_of}
use Rattle.poets_command.specs.Plain.{Entry}
use Rattle.poets_command.specs.Said.{Statement}
use Rattle.poets_grammar.specs.TooDeep.{most_open, most_open_stored, most_operators}
use Rattle.poets_recover.specs.Stored.{length_of_all, most_stored}
use Rattle.poets_reread.specs.Reread.{AreReread}
use Rattle.poets_session.specs.declared.form.Form.TheVariants as F
use Rattle.poets_session.specs.Places.{most_commands, most_reports, most_templates}
use Rattle.poets_session.specs.Sessions.{Text, IsSession}
use Rattle.poets_meaning.specs.Spread.{largest}
use Rattle.poets_meaning.specs.Width.{widest}
use Rattle.poets_writing.specs.declared.outcome.TheConstants.{DONE, NO_MEMORY, NO_SESSION}
use Rattle.poets_writing.specs.declared.outcome.TheConstants.{READ_FAULT, TOO_LONG, USAGE}
use Rattle.poets_writing.specs.declared.outcome.TheConstants.{WRITE_FAULT}
use Rattle.poets_keeping.specs.Journals.{texts_of}
use Rattle.poets_keeping.specs.Keeping.{IsPartOf}
use Rattle.poets_keeping.specs.declared.outcome.TheConstants.{DAMAGED, DISK_FAULT, HOLDS_CALLS}

-- the statuses of a run
abbrev pub StatusesAre : Type 0
StatusesAre =
    (DONE ≡ 0) × (NO_SESSION ≡ 1) × (USAGE ≡ 2) × (NO_MEMORY ≡ 3) × (READ_FAULT ≡ 4) × (WRITE_FAULT ≡ 5)
    × (TOO_LONG ≡ 6) × (DISK_FAULT ≡ 7) × (HOLDS_CALLS ≡ 8) × (DAMAGED ≡ 9)

-- the limits of a session: bytes of its text, clerks, templates, reports and commands; sales of a
-- demonstration; open brackets and operators of a statement, and open brackets of one that is read
-- from a journal, whose texts have at most so many bytes; the size and the spread of a contract
-- that is kept
abbrev pub LimitsAre : Type 0
LimitsAre =
    (longest_text ≡ 16_777_216) × (most_clerks ≡ 64) × (most_templates ≡ 256) × (most_reports ≡ 256)
    × (most_commands ≡ 65_536) × (most_sales ≡ 1_000) × (most_open ≡ 200) × (most_operators ≡ 1_000)
    × (most_open_stored ≡ 201) × (most_stored ≡ 4_000_000_000) × (largest ≡ 1_000) × (widest ≡ 4_096)

-- the texts of a session's calls, kept in whatever order, have less than 1,400,000,000 bytes
-- together
abbrev pub KeptTextsAreFew : Type 0
KeptTextsAreFew =
    (text : Text) (names : Table) (statements : List Statement) (h : List Entry) →
    length text ≤ longest_text → IsSession text F.Clerks names statements → IsPartOf statements h →
    length_of_all (texts_of names h) < 1_400_000_000

-- a book whose names come first in a session's table, and that declares what the session's book
-- does: the texts of the first calls of a history of the session, however many, are calls of that
-- book, under its own table of names, and have these texts again
abbrev pub KeptCallsAreRecovered : Type 0
KeptCallsAreRecovered =
    (text book : Text) (names own : Table) (statements declared : List Statement) (h : List Entry) (count : ℕ) →
    IsSession text F.Clerks names statements → IsSession book F.Book own declared → Extends own names →
    book_from declared ≡ book_from statements → reports_of declared ≡ reports_of statements → IsPartOf statements h →
    AreReread (book_from declared) (reports_of declared) own (take count (texts_of names h))
