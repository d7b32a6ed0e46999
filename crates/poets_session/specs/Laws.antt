-- The laws of sessions, as statements.
use Rattle.std.specs.Prelude.{◌≡◌, ℕ, List, ◌∷◌, All}
use Rattle.poets_value.specs.declared.value.Name.{Name}
use Rattle.poets_lex.specs.Table.{Table, IsTable}
use Rattle.poets_lex.specs.declared.token.Tok.{Tok}
use Rattle.poets_command.specs.Said.{Statement}
use Rattle.poets_grammar.specs.Statements.{IsStatement}
use Rattle.poets_session.specs.Sessions.{Text, AreValid, IsReadAs, IsSession, IsNoSession}
use Rattle.poets_session.specs.Sessions.{scripts_of, journal_of}
use Rattle.poets_session.specs.Refusals.{Refusal, Unguarded, AreRefused, IsRefused}
use Rattle.poets_session.specs.Causes.{IsFirstFaultOf, IsFirstFault}
use Rattle.poets_session.specs.Texts.{refusal_text}
use Rattle.poets_session.specs.Written.{AllFit, IsWrittenCommand, IsWritten, HasListedNames}
use Rattle.poets_session.specs.declared.form.Form.{Form}
use Rattle.poets_session.specs.declared.fault.SessionFault.{SessionFault}

-- a text is one session of a form at most
abbrev pub OneSession : Type 0
OneSession =
    (text : Text) (form : Form) (names others : Table) (a b : List Statement)
    → IsSession text form names a → IsSession text form others b → (names ≡ others) × (a ≡ b)

-- a text that is refused is no session
abbrev pub NoSessionRefused : Type 0
NoSessionRefused =
    (text : Text) (form : Form) (names others : Table) (r : Refusal) (statements : List Statement)
    → IsRefused text form names r → ¬ (IsSession text form others statements)

-- statements that are refused are no valid session
abbrev pub NoValidRefused : Type 0
NoValidRefused =
    (form : Form) (statements : List Statement) (r : Refusal) → AreRefused form statements r →
    ¬ (AreValid form statements)

-- the same refusal, or cycles that begin with one template
pub data AreAlike : Refusal → Refusal → Type 0 where
  Same : {r : Refusal} → AreAlike r r
  Cycles : {number : ℕ} {f : Name} {others more : List Name} →
      AreAlike (Unguarded number (f ∷ others)) (Unguarded number (f ∷ more))

-- a text is refused in one way at most as a session of a form, but for how the first cycle goes on
abbrev pub OneRefusal : Type 0
OneRefusal =
    (text : Text) (form : Form) (names others : Table) (r s : Refusal)
    → IsRefused text form names r → IsRefused text form others s → AreAlike r s

-- statements are refused in one way at most as a session of a form, but for how the first cycle
-- goes on
abbrev pub OneRefusalOfStatements : Type 0
OneRefusalOfStatements =
    (form : Form) (statements : List Statement) (r s : Refusal) → AreRefused form statements r →
    AreRefused form statements s → AreAlike r s

-- a text is refused by one line at most
abbrev pub OneLine : Type 0
OneLine =
    (text : Text) (form : Form) (names others : Table) (r s : Refusal)
    → IsRefused text form names r → IsRefused text form others s → refusal_text names r ≡ refusal_text others s

-- of a text that is no session of the form it cannot be that no refusal holds
abbrev pub EveryTextIsRead : Type 0
EveryTextIsRead =
    (text : Text) (form : Form) → IsNoSession text form →
    ¬ ((names : Table) (r : Refusal) → ¬ (IsRefused text form names r))

-- of statements that are no valid session of the form it cannot be that no refusal holds
abbrev pub AllStatementsAreJudged : Type 0
AllStatementsAreJudged =
    (form : Form) (statements : List Statement) → ¬ (AreValid form statements) →
    ¬ ((r : Refusal) → ¬ (AreRefused form statements r))

-- the names of a text make a table, and what the text says is written with them
abbrev pub SessionsAreWritten : Type 0
SessionsAreWritten =
    (text : Text) (names : Table) (statements : List Statement)
    → IsReadAs text names statements → IsTable names × All (IsWritten names) statements

-- what tokens say as a statement is written with the names of a table that has each name among the
-- tokens, if their numbers and days are those of the language
abbrev pub StatementIsWritten : Type 0
StatementIsWritten =
    (names : Table) (ts : List Tok) (s : Statement) → AllFit names ts → IsStatement ts s → IsWritten names s

-- where statements are written with the names of a table, each of their commands can be printed
-- with them, and reads back
abbrev pub CommandsAreWritten : Type 0
CommandsAreWritten =
    (names : Table) (statements : List Statement)
    → All (IsWritten names) statements
    → All (All (IsWrittenCommand names)) (scripts_of statements)
    × All (λ call. IsWrittenCommand names call.1) (journal_of statements)

-- the names in a text's first fault are in its table
abbrev pub FaultsOfTextsAreListed : Type 0
FaultsOfTextsAreListed =
    (text : Text) (form : Form) (fault : SessionFault) → IsFirstFault text form fault → HasListedNames fault

-- where statements are written with the names of a table, the names in their first fault are in
-- that table
abbrev pub FaultsOfStatementsAreListed : Type 0
FaultsOfStatementsAreListed =
    (form : Form) (statements : List Statement) (fault : SessionFault)
    → All (IsWritten fault.names) statements → IsFirstFaultOf form statements fault → HasListedNames fault
