-- The spread of a contract, which counts equal subterms once, and the limit of size and spread.
use Rattle.std.specs.Prelude.{ℕ, ◌+◌, Bool, ◌||◌, nat_lt, List, [], ◌∷◌, ◌++◌, sum_by}
use Rattle.std.specs.Prelude.{if◌then◌else◌}
use Rattle.poets_expr.specs.Size.{nodes, nodes_of_all}
use Rattle.poets_syntax.specs.Contract.{Contract, Success, Failure, Transmit, Plus, Par, Seq, App}
use Rattle.poets_syntax.specs.Plain.{Book}
use Rattle.poets_syntax.specs.Book.{template_in}
use Rattle.poets_meaning.specs.Marks.{Marks, nullable}
use Rattle.poets_meaning.specs.Subterms.{subterms, different}
use Rattle.poets_meaning.specs.Width.{body_in, size, width, widest}
use Rattle.poets_meaning.specs.declared.sizes.TheConstants.{LARGEST}

-- what a subterm counts: 1, 1 more for each contract directly below it, and the size of its own
-- predicate or arguments
abbrev pub own_count : Contract → ℕ
own_count Success = 1
own_count Failure = 1
own_count (Transmit b p c) = 2 + nodes p
own_count (Plus a b) = 3
own_count (Par a b) = 3
own_count (Seq a b) = 3
own_count (App f args) = 1 + nodes_of_all args

-- the applications in unguarded positions: outside every transmit, and not after a part that is not
-- nullable
abbrev pub exposed : Marks → Contract → List Contract
exposed marks Success = []
exposed marks Failure = []
exposed marks (Transmit b p c) = []
exposed marks (Plus a b) = exposed marks a ++ exposed marks b
exposed marks (Par a b) = exposed marks a ++ exposed marks b
exposed marks (Seq a b) = exposed marks a ++ (if nullable marks a then exposed marks b else [])
exposed marks (App f args) = App f args ∷ []

-- the width of the body of the applied template
abbrev pub body_width : Book → Marks → Contract → ℕ
body_width book marks (App f args) = body_in (template_in book.templates f) (width book marks)
body_width book marks _ = 0

-- the spread: what the different subterms count, and the widths of the bodies of the different
-- applications in unguarded positions
abbrev pub spread : Book → Marks → Contract → ℕ
spread book marks c =
    sum_by own_count (different (subterms c)) + sum_by (body_width book marks) (different (exposed marks c))

-- the greatest size of a contract that is kept
abbrev pub largest : ℕ
largest = LARGEST

-- whether the contract is past the limit: its size is above `largest`, or its spread above `widest`
abbrev pub is_past_limit : Book → Marks → Contract → Bool
is_past_limit book marks c = nat_lt largest (size c) || nat_lt widest (spread book marks c)
