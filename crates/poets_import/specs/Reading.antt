-- How a document is read.
use Rattle.std.specs.Prelude.{◌≡◌, ℕ, ◌<◌, ◌^◌, ◌⊎◌, List, map, All, Option, Some, None, IsUtf8}
use Rattle.std.specs.List.{flat_map}
use Rattle.std.specs.List.Sorted.{IsStrictlySortedBy}
use Rattle.poets_value.specs.declared.value.Name.{Name}
use Rattle.poets_value.specs.declared.value.Ty.{Ty}
use Rattle.poets_value.specs.declared.value.Ty.TheVariants as T
use Rattle.poets_value.specs.declared.value.Value.{Value}
use Rattle.poets_value.specs.Civil.{IsDayNumber}
use Rattle.poets_value.specs.Names.{name_cmp}
use Rattle.poets_expr.specs.Env.{Declared}
use Rattle.poets_syntax.specs.TypeOf.{type_in}
use Rattle.poets_report.specs.Plain.{Answer, Single, Rows}
use Rattle.poets_lex.specs.Table.{Table}
use Rattle.poets_command.specs.Plain as plain
use Rattle.poets_command.specs.Said.{Statement}
use Rattle.poets_command.specs.Declarations.{declared_by, reports_of, template_in_statement}
use Rattle.poets_books.specs.Books.{book_texts}
use Rattle.serde_json.specs.Data.{Data}
use Rattle.serde_json.specs.Read.{read}
use Rattle.poets_json.specs.Plain.{Exported}
use Rattle.poets_json.specs.Document.{document}
use Rattle.poets_literals.specs.Declared.{IsAsDeclared}
use Rattle.poets_import.specs.Phrases.{AreSaid, AreStatements, entry_phrases}

-- ---- values

-- where it is defined, the value is as declared
abbrev pub IsIfDefined : Table → Declared → Option Value → Type 0
IsIfDefined names declared None = Unit {0}
IsIfDefined names declared (Some v) = IsAsDeclared names declared v

abbrev pub HasValues : Table → Declared → Answer → Type 0
HasValues names declared (Single v) = IsIfDefined names declared v
HasValues names declared (Rows rows) =
    All (λ row. IsIfDefined names declared row.0 × IsIfDefined names declared row.1) rows

abbrev pub HasTotal : Table → Declared → Option (Option Value) → Type 0
HasTotal names declared None = Unit {0}
HasTotal names declared (Some total) = IsIfDefined names declared total

-- the values of the reply are as declared, and its day is one of the language
abbrev pub HasReplied : Table → Declared → plain.Reply → Type 0
HasReplied names declared (plain.Late day) = IsDayNumber day
HasReplied names declared (plain.Answered a) = HasValues names declared a
HasReplied names declared (plain.Folio rows total) =
    All (λ part. HasValues names declared part.1) rows × HasTotal names declared total
HasReplied names declared _ = Unit {0}

-- the entry's clerk has a number below 2 ^ 32, and in its reply the values are as declared, and a
-- day is one of the language's
abbrev pub IsReadable : Table → Declared → plain.Entry → Type 0
IsReadable names declared e = (e.clerk < 2 ^ 32) × HasReplied names declared e.reply

-- ---- the book

-- the declared names with their types
abbrev pub declared_in : List (Name × Ty) → Declared
declared_in declared = type_in (λ _. None) declared

-- each name is an agent or a kind, and occurs once, in the order of their numbers
pub record AreDeclared (declared : List (Name × Ty)) : Type 0 where
  pub types : All (λ d. (d.1 ≡ T.Agent) ⊎ (d.1 ≡ T.Kind)) declared
  pub order : IsStrictlySortedBy name_cmp (map (λ d. d.0) declared)

-- what the statements declare is the book of x, and its reports
pub record Declare (statements : List Statement) (x : Exported) : Type 0 where
  pub names : (name : Name) → declared_by statements name ≡ declared_in x.declared name
  pub templates : flat_map template_in_statement statements ≡ x.templates
  pub reports : reports_of statements ≡ x.reports

-- the texts of the book are statements that declare it; their new names lead from the table before
-- to the table between
pub record IsBookRead (before : Table) (names : Table) (x : Exported) (between : Table) : Type 0 where
  pub statements : List Statement
  pub read : AreStatements before (book_texts names x.declared x.templates x.reports) statements between
  pub declare : Declare statements x
  pub declared : AreDeclared x.declared

-- ---- the document

-- the value is the document of x, which is readable; the new names of its texts, first those of the
-- book, lead from the table before to the table after
pub record IsDocumentOf (before : Table) (value : Data) (after : Table) (x : Exported) : Type 0 where
  pub document : value ≡ document after x
  pub between : Table
  pub book : IsBookRead before after x between
  pub said : AreSaid after between (flat_map entry_phrases x.history) after
  pub entries : All (IsReadable after (declared_in x.declared)) x.history

-- the value is the document of nothing that is readable
abbrev pub IsNoDocument : (before : Table) → Data → Type 0
IsNoDocument before value = (after : Table) (x : Exported) → ¬ (IsDocumentOf before value after x)

-- ---- its bytes

-- the bytes are in UTF-8, and the text of a document of x
abbrev pub IsReadAs : (before : Table) → (bytes : List ℕ) → (after : Table) → Exported → Type 0
IsReadAs before bytes after x =
    IsUtf8 bytes × ((value : Data) × (read bytes ≡ Some value) × IsDocumentOf before value after x)

-- the bytes are in UTF-8, and the text of a value that is the document of nothing that is readable
abbrev pub IsNoDocumentIn : (before : Table) → (bytes : List ℕ) → Type 0
IsNoDocumentIn before bytes = IsUtf8 bytes × ((value : Data) × (read bytes ≡ Some value) × IsNoDocument before value)
