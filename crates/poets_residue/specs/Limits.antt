-- Contracts past the limit, in a studied book.
use Rattle.std.specs.Prelude.{Bool}
use Rattle.poets_syntax.specs.Book.{book_of}
use Rattle.poets_syntax.specs.Contract.{Contract}
use Rattle.poets_meaning.specs.Spread.{is_past_limit}
use Rattle.poets_meaning.specs.Studied.{StudiedBook, marks_of}

-- whether the contract is past the limit, in a studied book (`is_past_limit`)
abbrev pub is_past_limit_in : StudiedBook → Contract → Bool
is_past_limit_in s c = is_past_limit (book_of s.book) (marks_of s) c
