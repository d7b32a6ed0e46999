use Rattle.std.proofs.Common.{◌∙◌, ap, map}
use Rattle.poets_syntax.specs.Book.{book_of}
use Rattle.poets_syntax.specs.Contract.{contract_of}
use Rattle.poets_residue.proofs.Studies.{IsStudied-book}
use Rattle.poets_open.specs.Next.{step_of}
use Rattle.poets_open.specs.code.Opened.{added_all, opened_in}
use Rattle.poets_open.proofs.Listing.{listed_all}
use Rattle.poets_open.proofs.opening.next.Goals as goal

pub add_open-requires-clause-studied : goal.add_open-requires-clause-studied
add_open-requires-clause-studied c = IsStudied-book (book_of c.args.studied.now.book) c.args.studied.now.marks c.recall.ensures

pub returns : goal.returns
returns c =
    let steps = opened_in c.args.studied.now (contract_of c.args.term.now) in
    c.in_ok-add_open.ensures ∙ ap (λ xs. added_all (map step_of xs) steps) c.new-steps.ensures ∙ listed_all steps
