-- What a studied book gives.
use Rattle.std.proofs.Common.{◌≡◌, List}
use Rattle.poets_syntax.specs.Contract.{Contract}
use Rattle.poets_syntax.specs.Plain.{Book}
use Rattle.poets_syntax.specs.Book.{template_in}
use Rattle.poets_syntax.specs.Applied.{CountsFit, BodiesCountsFit}
use Rattle.poets_syntax.proofs.Counts.{CountsFit-fit}
use Rattle.poets_syntax.proofs.TypingRules.{BodiesFit-typed}
use Rattle.poets_meaning.specs.declared.studied.Mark.{Mark}
use Rattle.poets_meaning.specs.Studied.{IsStudiedBook, marks_in}
use Rattle.poets_meaning.specs.Width.{body_in, wide_by, width}
use Rattle.poets_meaning.proofs.StudiedMarks.{AreRight-studied}
use Rattle.poets_meaning.proofs.Unfolded.{width-unfolded}

-- the bodies of its templates apply templates to as many arguments as these have parameters
pub BodiesCountsFit-studied : (book : Book) (marks : List Mark) → IsStudiedBook book marks → BodiesCountsFit book
BodiesCountsFit-studied book marks h = λ f t i. CountsFit-fit book t.body (BodiesFit-typed book h.checked.0 h.checked.1.typed f t i)

-- an application counts with the width of its template's body
pub width-studied : (book : Book) (marks : List Mark) → IsStudiedBook book marks → (c : Contract) → CountsFit book c →
    width book (marks_in book.templates marks) c ≡ wide_by (λ f. body_in (template_in book.templates f) (width book (marks_in book.templates marks))) (marks_in book.templates marks) c
width-studied book marks h c fit =
    width-unfolded book (marks_in book.templates marks) (AreRight-studied book marks h) h.guarded (BodiesCountsFit-studied book marks h) c fit
