use Rattle.std.proofs.Common.{sym, ◌∙◌, ap}
use Rattle.poets_syntax.specs.Book.{book_of}
use Rattle.poets_syntax.specs.Contract.{contract_of}
use Rattle.poets_meaning.specs.Width.{cut}
use Rattle.poets_norm.proofs.StudiedBooks.{width-studied}
use Rattle.poets_norm.proofs.widths.wide.Goals as goal

pub returns : goal.returns
returns c =
    let studied = c.args.studied.now in
    c.measure.ensures.wide ∙ ap cut (sym (width-studied (book_of studied.book) studied.marks c.recall.ensures (contract_of c.args.term.now) c.requires))
