-- The shape of a session: its book, and what its form has after it.
use Rattle.std.specs.Prelude.{◌≡◌, Bool, true, false, List, [], ◌∷◌, ◌++◌, map, All, IsTrue}
use Rattle.std.specs.List.{flat_map}
use Rattle.poets_command.specs.Calls.{Call}
use Rattle.poets_command.specs.Plain as plain
use Rattle.poets_command.specs.Said.{Statement, Agents, Kinds, Template, Report, Clerk, Journal}
use Rattle.poets_command.specs.Said.{Command, Numbered}
use Rattle.poets_session.specs.declared.form.Form.{Form}
use Rattle.poets_session.specs.declared.form.Form.TheVariants as F

abbrev pub is_of_book : Statement → Bool
is_of_book (Agents names) = true
is_of_book (Kinds names) = true
is_of_book (Template t) = true
is_of_book (Report q) = true
is_of_book s = false

-- `clerk`, and its commands
abbrev pub clerk_section : List plain.Command → List Statement
clerk_section commands = Clerk ∷ map Command commands

-- `journal`, and its numbered commands
abbrev pub journal_section : List Call → List Statement
journal_section calls = Journal ∷ map (λ call. Numbered call.0 call.1) calls

-- after the book comes nothing, or a section for each clerk, or a journal
abbrev pub IsAfterBook : Form → List Statement → Type 0
IsAfterBook F.Book rest = rest ≡ []
IsAfterBook F.Clerks rest = (scripts : List (List plain.Command)) × (rest ≡ flat_map clerk_section scripts)
IsAfterBook F.Journal rest = (calls : List Call) × (rest ≡ journal_section calls)

-- the statements are a book, and what the form has after it
pub record HasShape (form : Form) (statements : List Statement) : Type 0 where
  pub book : List Statement
  pub rest : List Statement
  pub cut : statements ≡ book ++ rest
  pub of_book : All (λ s. IsTrue (is_of_book s)) book
  pub after : IsAfterBook form rest

-- the statements are the beginning of some statements of that shape
abbrev pub Begins : Form → List Statement → Type 0
Begins form front = (rest : List Statement) × HasShape form (front ++ rest)

-- together with the first of the rest the statements are the beginning of nothing of that shape;
-- where none is left, they do not have that shape
abbrev pub GoesWrong : Form → (front rest : List Statement) → Type 0
GoesWrong form front [] = ¬ (HasShape form front)
GoesWrong form front (s ∷ rest) = ¬ (Begins form (front ++ s ∷ []))
