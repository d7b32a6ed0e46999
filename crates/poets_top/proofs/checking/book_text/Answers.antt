use Rattle.std.proofs.Common.{◌≡◌, IfOk, length, sym, ◌∙◌, ap, ap₂, subst}
use Rattle.std.specs.Prelude.{string_bytes}
use Rattle.std.proofs.lemmas.List.{length-map}
use Rattle.poets_syntax.specs.Book.{template_of}
use Rattle.poets_report.specs.Reports.{report_of}
use Rattle.poets_command.specs.Declarations.{book_from, reports_of}
use Rattle.poets_top.specs.Checking.{book_line}
use Rattle.poets_top.proofs.checking.book_text.Goals as goal

pub returns : goal.returns
returns c = λ statements holds.
    let templates : c.len-templates.result ≡ length (book_from statements).templates =
    c.len-templates.ensures ∙ ap (λ b. length b.templates.items) c.book.ensures.book ∙ sym (length-map _ template_of) ∙ ap (λ d. length d.templates) holds.book in
    let reports : c.len-reports.result ≡ length (reports_of statements) = c.len-reports.ensures ∙ sym (length-map _ report_of) ∙ ap length holds.reports in
    subst (λ text. IfOk c.book_line.result (λ line. string_bytes line ≡ text)) (ap₂ book_line templates reports) c.book_line.ensures
