use Rattle.std.proofs.Common.{◌+◌, ◌*◌, map}
use Rattle.poets_expr.specs.Expression.{expression_of}
use Rattle.poets_syntax.specs.Book.{book_of}
use Rattle.poets_syntax.specs.Contract.{contract_of, App, Par, Plus, Seq}
use Rattle.poets_meaning.specs.Studied.{marks_of}
use Rattle.poets_meaning.specs.Width.{width}
use Rattle.poets_calculus.specs.Normal.{normal}
use Rattle.poets_route.proofs.backward.+back.Given as goal

abbrev pub decreases-back : goal.decreases-back
decreases-back l = 7 * width (book_of l.studied.now.book) (marks_of l.studied.now) (contract_of l.term.now) + 6

abbrev pub decreases-back_one : goal.decreases-back_one
decreases-back_one l = 7 * width (book_of l.studied.now.book) (marks_of l.studied.now) (contract_of l.term.now) + 5

abbrev pub decreases-back_plus : goal.decreases-back_plus
decreases-back_plus l = 7 * width (book_of l.studied.now.book) (marks_of l.studied.now) (Plus (contract_of l.a.now) (contract_of l.b.now)) + 4

abbrev pub decreases-back_par : goal.decreases-back_par
decreases-back_par l = 7 * width (book_of l.studied.now.book) (marks_of l.studied.now) (Par (contract_of l.a.now) (contract_of l.b.now)) + 4

abbrev pub decreases-by_first : goal.decreases-by_first
decreases-by_first l = 7 * width (book_of l.studied.now.book) (marks_of l.studied.now) (Par (contract_of l.a.now) (contract_of l.b.now)) + 3

abbrev pub decreases-by_second : goal.decreases-by_second
decreases-by_second l = 7 * width (book_of l.studied.now.book) (marks_of l.studied.now) (Par (contract_of l.a.now) (contract_of l.b.now)) + 3

abbrev pub decreases-back_over : goal.decreases-back_over
decreases-back_over l = 7 * width (book_of l.studied.now.book) (marks_of l.studied.now) (contract_of l.over.now) + 6

abbrev pub decreases-back_seq : goal.decreases-back_seq
decreases-back_seq l = 7 * width (book_of l.studied.now.book) (marks_of l.studied.now) (Seq (contract_of l.a.now) (contract_of l.b.now)) + 4

abbrev pub decreases-begun : goal.decreases-begun
decreases-begun l = 7 * width (book_of l.studied.now.book) (marks_of l.studied.now) (Seq (contract_of l.a.now) (contract_of l.b.now)) + 3

abbrev pub decreases-back_app : goal.decreases-back_app
decreases-back_app l = 7 * width (book_of l.studied.now.book) (marks_of l.studied.now) (App l.name (map expression_of l.args.now)) + 4

-- the body is taken in normal form
abbrev pub decreases-back_body : goal.decreases-back_body
decreases-back_body l =
    7 * width (book_of l.studied.now.book) (marks_of l.studied.now) (normal (book_of l.studied.now.book) (marks_of l.studied.now) (contract_of l.body.now)) + 6
