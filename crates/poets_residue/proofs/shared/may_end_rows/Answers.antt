use Rattle.std.proofs.Common.{◌≡◌, ◌∙◌, [], refl, sym, ap}
use Rattle.poets_syntax.specs.Book.{book_of}
use Rattle.poets_meaning.specs.Marks.{nullable}
use Rattle.poets_meaning.specs.Studied.{marks_of}
use Rattle.poets_meaning.proofs.Nullability.{nullable_in, nullable_performed, EachExposed-fits}
use Rattle.poets_meaning.proofs.StudiedMarks.{AreRight-studied}
use Rattle.poets_cons.specs.Table.{contract_of_rows}
use Rattle.poets_residue.proofs.shared.may_end_rows.Goals as goal

pub returns : goal.returns
returns c =
    let book = book_of c.args.studied.now.book in
    let marks = marks_of c.args.studied.now in
    let term = contract_of_rows c.args.rows.now in
    let right = AreRight-studied book c.args.studied.now.marks c.recall.ensures in
    let answer : c.may_end_at.result ≡ nullable marks term =
    (rw c.nodes-nodes.ensures.nodes at c.may_end_at.ensures) ∙ ap (nullable marks) c.root-root.ensures.contract in (
      (λ h. nullable_performed book marks right [] term (EachExposed-fits book marks term c.requires) (sym answer ∙ h)),
      (λ p. answer ∙ nullable_in book marks right p refl),
    )
