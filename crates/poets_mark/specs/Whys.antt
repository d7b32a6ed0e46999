-- The line that says why a text is refused.
use Rattle.std.specs.Prelude.{ℕ, List, [], ◌∷◌, ◌++◌, Option, None, Some, codes}
use Rattle.poets_mark.specs.declared.why.Mistake.{Mistake}
use Rattle.poets_mark.specs.declared.why.Mistake.TheVariants as M

-- the words that name a mistake
abbrev pub mistake_text : Mistake → List ℕ
mistake_text M.NoDay = codes "a day is written @YYYY-MM-DD, and has to be one of the calendar"
mistake_text M.NoAscii = codes "a text is ASCII, except in comments"
mistake_text M.Point = codes "numbers are whole: there is no decimal point"
mistake_text M.Grouping = codes "digits are not grouped by commas"
mistake_text M.WorkedOut = codes "an amount in [ ] is a number: write res(amount, kind) for one that is worked out"
mistake_text M.Unended = codes "the statement before the mark lacks its ;;"
mistake_text M.Empty = codes "there is no statement before this ;;"
mistake_text M.Reserved = codes "this word is reserved, and cannot be a name"
mistake_text M.NoBracket = codes "a ( is missing after the name before the mark, or that name is a misspelt word"
mistake_text M.NoElse = codes "an if needs an else"
mistake_text M.Numbered = codes "clerk;; has no number: the first one is clerk 1"
mistake_text M.NoClerk = codes "clerks have the numbers 1 to 64"
mistake_text M.BookAlone = codes "a book alone is read: poets run reads commands of clerks, and poets replay a journal"
mistake_text M.OfJournal = codes "this stands in a journal, which poets replay, explain and export read"
mistake_text M.OfSession = codes "this stands in a session of clerks, which poets run, keep and resume read"
mistake_text M.NoJournal = codes "a journal has the statement journal;; before its first command"
mistake_text M.LateBook = codes "declarations stand before the first clerk;; or journal;;"
mistake_text M.EarlyCommand = codes "commands stand after clerk;;"
mistake_text M.OutOfScope = codes "this name is known elsewhere in the statement, but not here"
mistake_text M.WantsAmount = codes "a number is wanted here: amount(r) is the number of a resource r"
mistake_text M.WantsKind = codes "a resource has a number and a kind, as in [5 USD]"
mistake_text M.Endless = codes "a template may come back to itself only after a transmit"

-- the line that names a mistake, and LF (10), if there is one to name
abbrev pub why_line : Option Mistake → List ℕ
why_line None = []
why_line (Some mistake) = mistake_text mistake ++ 10 ∷ []
