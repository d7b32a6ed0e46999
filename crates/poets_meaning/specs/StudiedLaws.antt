-- What is known of guarded and studied books, as statements.
use Rattle.std.specs.Prelude.{◌≡◌, List}
use Rattle.poets_syntax.specs.Contract.{Contract}
use Rattle.poets_syntax.specs.Plain.{Book}
use Rattle.poets_syntax.specs.Book.{template_in}
use Rattle.poets_syntax.specs.Applied.{CountsFit, BodiesCountsFit}
use Rattle.poets_meaning.specs.declared.studied.Mark.{Mark}
use Rattle.poets_meaning.specs.Marks.{Marks, AreRight}
use Rattle.poets_meaning.specs.Guarded.{IsGuarded}
use Rattle.poets_meaning.specs.Width.{body_in, wide_by, width}
use Rattle.poets_meaning.specs.Studied.{marks_in, IsStudiedBook}

-- the marks of a studied book are right
abbrev pub StudiedMarksAreRight : Type 0
StudiedMarksAreRight =
    (book : Book) (marks : List Mark) → IsStudiedBook book marks → AreRight book (marks_in book.templates marks)

-- in a guarded book an application counts with the width of its template's body
abbrev pub WidthUnfolds : Type 0
WidthUnfolds = (book : Book) (marks : Marks) (c : Contract) →
    AreRight book marks → IsGuarded book → BodiesCountsFit book → CountsFit book c →
    width book marks c ≡ wide_by (λ f. body_in (template_in book.templates f) (width book marks)) marks c
