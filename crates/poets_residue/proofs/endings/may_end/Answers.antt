use Rattle.std.proofs.Common.{◌∙◌, [], refl, sym}
use Rattle.poets_syntax.specs.Book.{book_of}
use Rattle.poets_syntax.specs.Contract.{contract_of}
use Rattle.poets_meaning.specs.Studied.{marks_of}
use Rattle.poets_meaning.proofs.Nullability.{nullable_in, nullable_performed, EachExposed-fits}
use Rattle.poets_meaning.proofs.StudiedMarks.{AreRight-studied}
use Rattle.poets_residue.proofs.endings.may_end.Goals as goal

pub returns : goal.returns
returns c =
    let book = book_of c.args.studied.now.book in
    let marks = marks_of c.args.studied.now in
    let term = contract_of c.args.term.now in
    let right = AreRight-studied book c.args.studied.now.marks c.recall.ensures in (
      (λ h. nullable_performed book marks right [] term (EachExposed-fits book marks term c.requires) (sym c.nullable.ensures ∙ h)),
      (λ p. c.nullable.ensures ∙ nullable_in book marks right p refl),
    )
