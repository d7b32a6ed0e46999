-- Books that were studied: checked and guarded, with right marks.
use Rattle.std.specs.Prelude.{◌≡◌, Bool, false, List, ◌∷◌, IsTrue, ◌↔◌, if◌then◌else◌}
use Rattle.std.specs.List.{AllZip}
use Rattle.poets_value.specs.declared.value.Name.{Name}
use Rattle.poets_expr.specs.Env.{same_name}
use Rattle.poets_syntax.specs.declared.term.Book.{Book}
use Rattle.poets_syntax.specs.Plain.{Template}
use Rattle.poets_syntax.specs.Book.{book_of}
use Rattle.poets_syntax.specs.Checked.{IsChecked}
use Rattle.poets_syntax.specs.Plain as plain
use Rattle.poets_meaning.specs.declared.studied.Mark.{Mark}
use Rattle.poets_meaning.specs.Guarded.{IsGuarded}
use Rattle.poets_meaning.specs.Marks.{Marks, Nullable, Hopeful}
use Rattle.poets_meaning.specs.Width.{width, cut}

-- a book, and the marks of its templates in their order
pub record StudiedBook : Type 0 where
  pub book : Book
  pub marks : List Mark

-- the mark of the first template of that name has the property
abbrev pub has_mark : (Mark → Bool) → List Template → List Mark → Name → Bool
has_mark is (t ∷ templates) (m ∷ marks) f = if same_name t.name f then is m else has_mark is templates marks f
has_mark is _ _ f = false

-- which templates the list of marks calls nullable and which hopeful
abbrev pub marks_in : List Template → List Mark → Marks
marks_in templates marks = record {
  nullable = has_mark (λ m. m.nullable) templates marks;
  hopeful = has_mark (λ m. m.hopeful) templates marks;
}

-- what is known of the templates of a studied book
abbrev pub marks_of : StudiedBook → Marks
marks_of s = marks_in (book_of s.book).templates s.marks

-- what the mark says of the template's body is true; its width is cut at one more than the greatest
-- spread that is kept
pub record IsRightMark (book : plain.Book) (marks : Marks) (t : Template) (m : Mark) : Type 0 where
  pub nullable : IsTrue m.nullable ↔ Nullable book t.body
  pub hopeful : IsTrue m.hopeful ↔ Hopeful book t.body
  pub wide : m.wide ≡ cut (width book marks t.body)

-- the book is checked and guarded, and each template's mark is right
pub record IsStudiedBook (book : plain.Book) (marks : List Mark) : Type 0 where
  pub checked : IsChecked book
  pub guarded : IsGuarded book
  pub right : AllZip (IsRightMark book (marks_in book.templates marks)) book.templates marks
