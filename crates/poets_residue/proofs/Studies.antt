-- A checked and guarded book with right marks is as the laws ask.
use Rattle.std.proofs.Common.{List}
use Rattle.poets_syntax.specs.Plain.{Book}
use Rattle.poets_syntax.specs.Typed.{scope_of}
use Rattle.poets_syntax.proofs.Counts.{CountsFit-fit}
use Rattle.poets_syntax.proofs.Typedness.{IsWellFormed-typed}
use Rattle.poets_syntax.proofs.TypingRules.{template_passes, BodiesFit-typed}
use Rattle.poets_meaning.specs.declared.studied.Mark.{Mark}
use Rattle.poets_meaning.specs.Studied.{marks_in, IsStudiedBook}
use Rattle.poets_meaning.proofs.StudiedMarks.{AreRight-studied}
use Rattle.poets_residue.specs.Unfolding.{IsStudied}

pub IsStudied-book : (book : Book) (marks : List Mark) → IsStudiedBook book marks → IsStudied book (marks_in book.templates marks)
IsStudied-book book marks h = record {
  right = AreRight-studied book marks h;
  formed = λ f t q. IsWellFormed-typed book h.checked.0 (scope_of t.params) t.body (template_passes book h.checked.0 t (h.checked.1.typed f t q)).1;
  fit = λ f t q. CountsFit-fit book t.body (BodiesFit-typed book h.checked.0 h.checked.1.typed f t q);
  guarded = h.guarded;
}
