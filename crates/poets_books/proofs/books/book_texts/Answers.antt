use Rattle.std.proofs.Common.{◌∙◌}
use Rattle.poets_books.proofs.BookTexts.{all_added}
use Rattle.poets_books.proofs.books.book_texts.Goals as goal

pub returns : goal.returns
returns c =
    all_added c.args.names.now c.args.book.now.decls.names.entries c.args.book.now.templates.items
    c.as_slice-3.result.now c.args.reports.now.items c.as_slice-4.result.now c.as_slice.result.now c.as_slice-2.result.now
    (c.as_slice.ensures ∙ c.in_ok-agents.ensures) (c.as_slice-2.ensures ∙ c.in_ok-kinds.ensures) c.as_slice-3.ensures c.as_slice-4.ensures
    c.new-texts.result.items c.add_declaration.new.texts.items c.add_declaration-2.new.texts.items c.add_templates.new.texts.items
    c.add_reports.new.texts.items c.new-texts.ensures c.in_ok-add_declaration.ensures
    c.in_ok-add_declaration-2.ensures c.in_ok-add_templates.ensures c.in_ok-add_reports.ensures
