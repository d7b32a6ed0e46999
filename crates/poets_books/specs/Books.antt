-- The statements of a book, and their texts.
use Rattle.std.specs.Prelude.{ℕ, List, [], ◌∷◌, ◌++◌, map, filter}
use Rattle.poets_value.specs.declared.value.Name.{Name}
use Rattle.poets_value.specs.declared.value.Ty.{Ty}
use Rattle.poets_value.specs.declared.value.Ty.TheVariants as T
use Rattle.poets_syntax.specs.TypeOf.{same_type}
use Rattle.poets_report.specs.Plain.{Template, Report}
use Rattle.poets_command.specs.Said.{Statement, Agents, Kinds}
use Rattle.poets_command.specs.Said as said
use Rattle.poets_lex.specs.Table.{Table}
use Rattle.poets_books.specs.Statements.{statement_text}

-- the names that are declared with a type, in their order
abbrev pub names_with : Ty → (declared : List (Name × Ty)) → List Name
names_with ty declared = map (λ d. d.0) (filter (λ d. same_type d.1 ty) declared)

-- the statement that declares names, where there are any
abbrev pub declaration : (List Name → Statement) → List Name → List Statement
declaration declares [] = []
declaration declares (x ∷ xs) = declares (x ∷ xs) ∷ []

-- the statements of a book: of its agents and of its kinds, where there are any, then of its
-- templates and of the reports
abbrev pub book_statements : (declared : List (Name × Ty)) → List Template → List Report → List Statement
book_statements declared templates reports =
    declaration Agents (names_with T.Agent declared) ++ declaration Kinds (names_with T.Kind declared)
    ++ map said.Template templates ++ map said.Report reports

-- the texts of the statements of a book
abbrev pub book_texts : Table → (declared : List (Name × Ty)) → List Template → List Report → List (List ℕ)
book_texts names declared templates reports = map (statement_text names) (book_statements declared templates reports)
