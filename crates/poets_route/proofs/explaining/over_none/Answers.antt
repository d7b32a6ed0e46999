use Rattle.std.proofs.Common.{◌≡◌, true, refl, sym, subst}
use Rattle.poets_syntax.specs.Book.{book_of}
use Rattle.poets_meaning.specs.Marks.{nullable}
use Rattle.poets_meaning.specs.Studied.{marks_of}
use Rattle.poets_meaning.proofs.Nullability.{nullable_in}
use Rattle.poets_route.proofs.explaining.over_none.Goals as goal

pub ended-requires-clause-ends : goal.ended-requires-clause-ends
ended-requires-clause-ends c =
    let marks = marks_of c.args.studied.now in
    subst (λ x. nullable marks x ≡ true) (sym c.in_ok-term.ensures)
    (nullable_in (book_of c.args.studied.now.book) marks c.requires.ready.formed.studied.right c.requires.ends refl)
