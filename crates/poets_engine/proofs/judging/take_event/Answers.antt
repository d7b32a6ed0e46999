use Rattle.std.proofs.Common.{length, subst, sym}
use Rattle.poets_syntax.specs.Applied.{CountsFit}
use Rattle.poets_syntax.specs.Book.{book_of}
use Rattle.poets_meaning.specs.Studied.{marks_of}
use Rattle.poets_cons.specs.Table.{contract_of_rows}
use Rattle.poets_residue.proofs.Kept.{CountsFit-after_at}
use Rattle.poets_residue.proofs.Studies.{IsStudied-book}
use Rattle.poets_engine.proofs.judging.take_event.Goals as goal

pub judge-requires : goal.judge-requires
judge-requires g c =
    let book = book_of c.args.studied.now.book in
    subst (CountsFit book) (sym c.in_ok-next.ensures.residual)
    (CountsFit-after_at book (marks_of c.args.studied.now) (IsStudied-book book c.args.studied.now.marks c.recall.ensures).fit c.args.event.now
    (length book.templates) (contract_of_rows c.args.owed.now) c.requires)
