-- What is exported so that it can be read back.
use Rattle.std.specs.Prelude.{◌<◌, ◌^◌, List, ◌++◌, map, All}
use Rattle.std.specs.List.{flat_map}
use Rattle.poets_value.specs.declared.value.Name.{Name}
use Rattle.poets_value.specs.declared.value.Ty.{Ty}
use Rattle.poets_lex.specs.declared.token.Tok.{Tok}
use Rattle.poets_lex.specs.declared.token.Token.{Token}
use Rattle.poets_lex.specs.Table.{Table}
use Rattle.poets_lex.specs.Lexes.{Lexes}
use Rattle.poets_syntax.specs.Plain.{Book}
use Rattle.poets_command.specs.Plain.{Entry}
use Rattle.poets_command.specs.Said.{Statement}
use Rattle.poets_command.specs.Declarations.{book_from, reports_of}
use Rattle.poets_command.specs.Taken.{IsTaken}
use Rattle.poets_history.specs.Histories.{IsLegal}
use Rattle.poets_grammar.specs.Tokens.{toks}
use Rattle.poets_grammar.specs.TooDeep.{IsTooDeepStored}
use Rattle.poets_print.specs.Laws.{CanWriteCommand}
use Rattle.poets_books.specs.Books.{book_statements}
use Rattle.poets_books.specs.Laws.{CanWriteReport}
use Rattle.poets_named.specs.Written.{CanWriteBook, AreTypedRules}
use Rattle.poets_json.specs.Plain.{Exported}
use Rattle.poets_import.specs.Phrases.{Phrase, Sentence, Owed, phrase_text, registration}
use Rattle.poets_import.specs.Phrases.{entry_phrases}
use Rattle.poets_import.specs.Reading.{AreDeclared, declared_in}

-- ---- how short

-- the tokens of the phrase, as the part of a statement that it is
abbrev pub whole_tokens : Phrase → List Tok → List Tok
whole_tokens (Owed c) tokens = registration ++ tokens
whole_tokens _ tokens = tokens

-- however the text of the phrase is cut into tokens, they are not too deep for a statement that was
-- printed
abbrev pub IsShort : Table → Phrase → Type 0
IsShort names phrase =
    (tokens : List Token) (after : Table) → Lexes names (phrase_text names phrase) 0 tokens after →
    ¬ (IsTooDeepStored (whole_tokens phrase (toks tokens)))

-- ---- what is exported

-- the book of what is exported
abbrev pub book_in : Exported → Book
book_in x = record { declared = declared_in x.declared; templates = x.templates }

-- the statements of the book of what is exported
abbrev pub statements_in : Exported → List Statement
statements_in x = book_statements x.declared x.templates x.reports

-- the declared names are agents and kinds, in order; the book and its reports are typed, and can be
-- written with the names
pub record CanWriteBookIn (names : Table) (x : Exported) : Type 0 where
  pub declared : AreDeclared x.declared
  pub book : CanWriteBook names (book_in x)
  pub rules : AreTypedRules (book_in x) x.reports
  pub reports : All (CanWriteReport names) x.reports

-- each reply is right, and each command is one that an engine takes, and can be written with the
-- names
pub record CanWriteHistoryIn (names : Table) (x : Exported) : Type 0 where
  pub legal : IsLegal (book_in x) x.reports x.history
  pub commands : All (λ e. IsTaken (book_in x) x.reports e.command × CanWriteCommand names e.command) x.history
  pub clerks : All (λ e. e.clerk < 2 ^ 32) x.history

-- each of its texts is short enough to be read back
pub record AreShort (names : Table) (x : Exported) : Type 0 where
  pub book : All (IsShort names) (map Sentence (statements_in x))
  pub history : All (IsShort names) (flat_map entry_phrases x.history)

-- what can be exported and read back: its book and its history can be written, and its texts are
-- short enough
pub record IsExportable (names : Table) (x : Exported) : Type 0 where
  pub book : CanWriteBookIn names x
  pub history : CanWriteHistoryIn names x
  pub short : AreShort names x

-- ---- what is exported of a journal

-- the book and the reports that the statements declare, with its declared names in a list, and a
-- history
abbrev pub exported_from : List Statement → (declared : List (Name × Ty)) → List Entry → Exported
exported_from statements declared h = record {
  declared = declared;
  templates = (book_from statements).templates;
  reports = reports_of statements;
  history = h;
}
