-- How far applications unfold in a guarded book, as a statement.
use Rattle.std.specs.Prelude.{length}
use Rattle.poets_syntax.specs.Contract.{Contract}
use Rattle.poets_syntax.specs.Plain.{Book}
use Rattle.poets_syntax.specs.Applied.{CountsFit, BodiesCountsFit}
use Rattle.poets_meaning.specs.Marks.{Marks, AreRight}
use Rattle.poets_meaning.specs.Guarded.{IsGuarded}
use Rattle.poets_calculus.specs.Exposed.{UnfoldsWithin}

-- in a guarded book as many unfoldings in a row as there are templates are enough for each contract
-- in which the numbers of arguments fit
abbrev pub EnoughDepth : Type 0
EnoughDepth = (book : Book) (marks : Marks) (c : Contract) →
    AreRight book marks → IsGuarded book → BodiesCountsFit book → CountsFit book c →
    UnfoldsWithin (length book.templates) book marks c
