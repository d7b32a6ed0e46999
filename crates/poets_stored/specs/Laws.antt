-- The laws of the commands of sessions, as statements.
use Rattle.std.specs.Prelude.{◌+◌, ◌*◌, ◌^◌, ◌<◌, ◌≤◌, List, ◌++◌, length, map, flat_map, sum_by}
use Rattle.std.specs.Prelude.{All, IsPermutation}
use Rattle.std.specs.Arc.{arc_value}
use Rattle.std.specs.declared.alloc.Global.{Global}
use Rattle.std.specs.declared.sync.Arc.{Arc}
use Rattle.poets_value.specs.Limits.{longest_text}
use Rattle.poets_value.specs.Listed.{Listed}
use Rattle.poets_lex.specs.Table.{Table}
use Rattle.poets_command.specs.Calls.{Call}
use Rattle.poets_command.specs.Plain.{Command}
use Rattle.poets_command.specs.Said.{Statement}
use Rattle.poets_command.specs.declared.call.Command.{Command as CodeCommand}
use Rattle.poets_printed.specs.Numbered.{numbered_text}
use Rattle.poets_session.specs.declared.form.Form.{Form}
use Rattle.poets_session.specs.declared.session.Session.{Session}
use Rattle.poets_session.specs.Sessions.{Text, IsReadAs, HoldsText, scripts_of, commands_in}
use Rattle.poets_journal.specs.Keeping.{IsStorable}
use Rattle.poets_stored.specs.Stored.{HasText, stored_text, IsShortCommand, IsStorableCommand}
use Rattle.poets_stored.specs.Stored.{ReadsBack}

-- a command of a session has a text of at most 80 bytes for each byte of the session's text, and 12
-- more
abbrev pub CommandsOfSessionsAreShort : Type 0
CommandsOfSessionsAreShort =
    (text : Text) (names : Table) (statements : List Statement) → IsReadAs text names statements →
    All (All (IsShortCommand names (80 * length text + 12))) (scripts_of statements)

-- calls that make commands of a session, each at most once, in whatever order and by whichever
-- clerks, have texts of at most 80 bytes together for each byte of the session's text, and 12 more
-- for each call
abbrev pub CommandsOfSessionsAreShortTogether : Type 0
CommandsOfSessionsAreShortTogether =
    (text : Text) (names : Table) (statements : List Statement) (calls : List Call) (others : List Command) →
    IsReadAs text names statements →
    IsPermutation (flat_map (λ script. script) (scripts_of statements)) (map (λ call. call.1) calls ++ others) →
    All (λ call. call.0 < 2 ^ 32) calls →
    sum_by (λ call. length (numbered_text names call.0 call.1)) calls ≤ 80 * length text + 12 * length calls

-- each command of a session can be stored
abbrev pub SessionsAreStorable : Type 0
SessionsAreStorable =
    (text : Text) (names : Table) (statements : List Statement) →
    length text ≤ longest_text → IsReadAs text names statements →
    All (All (IsStorableCommand names)) (scripts_of statements)

-- each command of a session reads back from its text in a journal
abbrev pub CommandsOfSessionsReadBack : Type 0
CommandsOfSessionsReadBack =
    (text : Text) (names : Table) (statements : List Statement) → IsReadAs text names statements →
    All (All (ReadsBack names)) (scripts_of statements)

-- the call has a text which fits a record
abbrev pub IsStorableCall : Table → Arc CodeCommand Global → Type 0
IsStorableCall names call = IsStorable HasText stored_text names (arc_value call)

-- each call of each script has a text which fits a record
abbrev pub AreStorableScripts : Table → List (Listed (Arc CodeCommand Global)) → Type 0
AreStorableScripts names scripts = All (λ script. All (IsStorableCall names) script.items) scripts

-- where the commands of scripts can be stored, the calls that the scripts hold can be put into a
-- journal
abbrev pub CallsAreStorable : Type 0
CallsAreStorable =
    (names : Table) (scripts : List (Listed (Arc CodeCommand Global))) →
    All (All (IsStorableCommand names)) (commands_in scripts) → AreStorableScripts names scripts

-- the calls of a session can be put into a journal
abbrev pub CallsOfSessionsAreStorable : Type 0
CallsOfSessionsAreStorable =
    (text : Text) (form : Form) (session : Session) →
    length text ≤ longest_text → HoldsText text form session →
    AreStorableScripts session.names session.scripts.items
