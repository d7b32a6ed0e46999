-- The word `check`.
use Rattle.std.specs.Prelude.{◌≡◌, ℕ, List, [], ◌∷◌, ◌++◌, length, codes}
use Rattle.std.specs.Fmt.{decimal}
use Rattle.poets_command.specs.Plain.{Entry}
use Rattle.poets_command.specs.Said.{Statement}
use Rattle.poets_command.specs.Declarations.{book_from, reports_of}

-- `book: templates 2, reports 1`, and LF (10)
abbrev pub book_line : (templates reports : ℕ) → List ℕ
book_line templates reports =
    codes "book: templates " ++ decimal templates ++ codes ", reports " ++ decimal reports ++ 10 ∷ []

-- the line of a book
abbrev pub book_text : List Statement → List ℕ
book_text statements = book_line (length (book_from statements).templates) (length (reports_of statements))

-- a book gives no history, and its line is to be written
pub record ChecksBook (statements : List Statement) (h : List Entry) (text : List ℕ) : Type 0 where
  pub none : h ≡ []
  pub line : text ≡ book_text statements
