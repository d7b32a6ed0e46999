-- What the laws of residuals require of a book.
use Rattle.poets_syntax.specs.Plain.{Book}
use Rattle.poets_syntax.specs.WellFormed.{AreWellFormed}
pub use Rattle.poets_syntax.specs.Applied.{BodiesCountsFit}
use Rattle.poets_meaning.specs.Marks.{Marks, AreRight}
use Rattle.poets_meaning.specs.Guarded.{IsGuarded}
pub use Rattle.poets_calculus.specs.Exposed.{UnfoldsWithin}

-- the marks are right, the bodies of the templates are well-formed and their applications fit, and
-- the book is guarded
pub record IsStudied (book : Book) (marks : Marks) : Type 0 where
  pub right : AreRight book marks
  pub formed : AreWellFormed book
  pub fit : BodiesCountsFit book
  pub guarded : IsGuarded book
