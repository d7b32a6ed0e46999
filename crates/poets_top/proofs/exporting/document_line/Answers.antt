use Rattle.std.proofs.Common.{◌++◌, [], ◌∷◌, ◌∙◌, ap}
use Rattle.poets_top.proofs.Exported.{document_of_rules}
use Rattle.poets_top.proofs.exporting.document_line.Goals as goal

pub returns : goal.returns
returns c =
    let line = c.in_ok-push_str.ensures.bytes ∙ ap (λ t. t ++ 10 ∷ []) c.in_ok-line.ensures in
    document_of_rules c.args.engine.now.rules c.args.names.now c.book-book.result.now c.reports.result.now c.args.history.now _ (c.book-book.ensures.book ∙ ap (λ s. s.book) c.studied.ensures) c.reports.ensures
    c.iter-entries.ensures.ordered c.iter-entries.ensures.found line
