-- How many unfoldings in a row are enough.
use Rattle.std.specs.Prelude.{◌≡◌, ℕ, zero, suc, length, Some, None}
use Rattle.poets_syntax.specs.Contract.{Contract}
use Rattle.poets_syntax.specs.Plain.{Book, Template}
use Rattle.poets_syntax.specs.Book.{template_in}
use Rattle.poets_meaning.specs.Marks.{Marks}
use Rattle.poets_meaning.specs.Exposed.{EachExposed}
use Rattle.poets_calculus.specs.Residual.{body_of}

-- so many unfoldings in a row are enough: the exposed applications of templates fit them, and after
-- so many there is none
abbrev pub UnfoldsWithin : ℕ → Book → Marks → Contract → Type 0
UnfoldsWithin zero book marks c = EachExposed (λ f args. template_in book.templates f ≡ None) marks c
UnfoldsWithin (suc d) book marks c =
    EachExposed (λ f args. (t : Template) → template_in book.templates f ≡ Some t →
    (length t.params ≡ length args) × UnfoldsWithin d book marks (body_of book marks (Some t) args)) marks c
