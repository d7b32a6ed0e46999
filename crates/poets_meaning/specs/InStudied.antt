-- What is said of a contract in a studied book: with its templates and their marks.
use Rattle.std.specs.Prelude.{ℕ, Bool, false, Option}
use Rattle.std.specs.Borrow.{Bor}
use Rattle.std.specs.Option.{option_map_or}
use Rattle.poets_value.specs.declared.value.Name.{Name}
use Rattle.poets_syntax.specs.declared.term.Template.{Template as TermTemplate}
use Rattle.poets_syntax.specs.Applied.{CountsFit}
use Rattle.poets_syntax.specs.Book.{book_of, template_in}
use Rattle.poets_syntax.specs.Contract.{Contract}
use Rattle.poets_syntax.specs.Plain.{Template}
use Rattle.poets_meaning.specs.declared.studied.Mark.{Mark}
use Rattle.poets_meaning.specs.Marks.{nullable}
use Rattle.poets_meaning.specs.Studied.{StudiedBook, marks_of}
use Rattle.poets_meaning.specs.Width.{body_in, cut, wide_by, width}

-- the first template of the studied book with that name
abbrev pub template_named : StudiedBook → Name → Option Template
template_named s f = template_in (book_of s.book).templates f

-- whether a template was found, with a mark that has the property
abbrev pub found_with : (Mark → Bool) → Option (Bor TermTemplate × Bor Mark) → Bool
found_with is found = option_map_or (λ p. is p.1.now) found false

-- whether the empty trace performs the contract, by the marks of a studied book (`nullable`)
abbrev pub nullable_in : StudiedBook → Contract → Bool
nullable_in s c = nullable (marks_of s) c

-- in a studied book each application of a template has as many arguments as it has parameters
-- (`CountsFit`)
abbrev pub CountsFitIn : StudiedBook → Contract → Type 0
CountsFitIn s c = CountsFit (book_of s.book) c

-- how wide the contract is in a studied book (`width`)
abbrev pub width_in : StudiedBook → Contract → ℕ
width_in s c = width (book_of s.book) (marks_of s) c

-- how wide the contract is in a studied book, cut at one more than the greatest spread that is kept
abbrev pub wide_in : StudiedBook → Contract → ℕ
wide_in s c = cut (width_in s c)

-- as wide as the contract, where each application counts with the width of its template's body
abbrev pub width_by_bodies : StudiedBook → Contract → ℕ
width_by_bodies s c = wide_by (λ f. body_in (template_named s f) (width (book_of s.book) (marks_of s))) (marks_of s) c
