-- The laws of the texts of a journal, as statements.
use Rattle.std.specs.Prelude.{◌≡◌, ℕ, ◌≤◌, List}
use Rattle.poets_lex.specs.Table.{Table}
use Rattle.poets_syntax.specs.Plain.{Book}
use Rattle.poets_report.specs.Plain.{Report}
use Rattle.poets_command.specs.Calls.{Call}
use Rattle.poets_recover.specs.Stored.{AreStoredCalls, IsRefusedText, length_of_all, most_stored}

-- texts that are calls of a book, and have no more bytes than the most, are not refused
abbrev pub CallsAreNotRefused : Type 0
CallsAreNotRefused =
    (book : Book) (reports : List Report) (names after : Table) (texts : List (List ℕ)) (calls : List Call) →
    (number : ℕ) → AreStoredCalls book reports names texts calls after → length_of_all texts ≤ most_stored →
    ¬ (IsRefusedText book reports names texts number)

-- the most bytes that the texts of a journal have together
abbrev pub MostStoredIs : Type 0
MostStoredIs = most_stored ≡ 4_000_000_000
