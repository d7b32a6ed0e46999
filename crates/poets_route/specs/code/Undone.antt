-- From ways of a normal form to ways of the contract.
use Rattle.std.specs.Prelude.{◌≡◌, ℕ, List, [], length}
use Rattle.poets_value.specs.declared.event.Event.{Event}
use Rattle.poets_expr.specs.Env.{Env}
use Rattle.poets_expr.specs.Fold.{KeepsDeclared}
use Rattle.poets_syntax.specs.Contract.{Contract}
use Rattle.poets_syntax.specs.Book.{book_of}
use Rattle.poets_syntax.specs.Plain.{Book}
use Rattle.poets_syntax.specs.Applied.{CountsFit}
use Rattle.poets_syntax.specs.WellFormed.{IsWellFormed}
use Rattle.poets_meaning.specs.Studied.{StudiedBook, marks_of}
use Rattle.poets_meaning.specs.Marks.{Marks}
use Rattle.poets_calculus.specs.Normal.{normal}
use Rattle.poets_residue.specs.Unfolding.{IsStudied}
use Rattle.poets_way.specs.Way.{Way}
use Rattle.poets_way.specs.Ways.{Ways}
use Rattle.poets_route.specs.code.Choices.{IsAlternative}

-- so many events perform the contract in the second way, where these perform an alternative of its
-- normal form in the first
abbrev pub Undoes : Book → Marks → ℕ → (c alternative : Contract) → (from to : Way) → Type 0
Undoes book marks n c a v w = (env : Env) → KeepsDeclared book.declared env → (s : List Event) → length s ≡ n →
    IsAlternative (normal book marks c) a → Ways book env a s v → Ways book env c s w

-- the same of the whole normal form
abbrev pub UndoesWhole : Book → Marks → ℕ → (c whole : Contract) → (from to : Way) → Type 0
UndoesWhole book marks n c r v w = (env : Env) → KeepsDeclared book.declared env → (s : List Event) → length s ≡ n →
    r ≡ normal book marks c → Ways book env r s v → Ways book env c s w

-- the empty trace performs the contract in this way, under every environment
abbrev pub Ends : Book → Contract → Way → Type 0
Ends book c w = (env : Env) → Ways book env c [] w

-- in a studied book a well-formed contract, where each application has as many arguments as its
-- template has parameters
pub record IsFormed (book : Book) (marks : Marks) (c : Contract) : Type 0 where
  pub studied : IsStudied book marks
  pub formed : IsWellFormed book.declared c
  pub fits : CountsFit book c

abbrev pub IsFormedIn : StudiedBook → Contract → Type 0
IsFormedIn s c = IsFormed (book_of s.book) (marks_of s) c

-- the same in a studied book
abbrev pub UndoesIn : StudiedBook → ℕ → (c alternative : Contract) → (from to : Way) → Type 0
UndoesIn s n c a v w = Undoes (book_of s.book) (marks_of s) n c a v w

abbrev pub UndoesWholeIn : StudiedBook → ℕ → (c whole : Contract) → (from to : Way) → Type 0
UndoesWholeIn s n c r v w = UndoesWhole (book_of s.book) (marks_of s) n c r v w

abbrev pub EndsIn : StudiedBook → Contract → Way → Type 0
EndsIn s c w = Ends (book_of s.book) c w
