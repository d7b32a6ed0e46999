use Rattle.std.proofs.Common.{◌≤◌, ap, map, sym, subst, ◌∙◌}
use Rattle.serde_json.specs.Data.{Data, depth}
use Rattle.serde_json.specs.Read.{max_depth}
use Rattle.serde_json.specs.Written.{has_float}
use Rattle.poets_syntax.specs.Book.{template_of}
use Rattle.poets_report.specs.Reports.{report_of}
use Rattle.poets_books.specs.Books.{book_texts}
use Rattle.poets_json.proofs.NoFloats.{no_float_texts}
use Rattle.poets_import.proofs.Depths.{depth_texts}
use Rattle.poets_import.proofs.importing.is_value_of.Goals as goal

pub same-requires : goal.same-requires
same-requires c =
    let found = c.args.declared.now in
    let texts = book_texts c.args.names.now found.book.decls.names.entries (map template_of found.book.templates.items) (map report_of found.reports.items) in
    record {
      left = c.requires;
      right = subst (λ (d : Data). depth d ≤ max_depth) (sym c.in_ok-again.ensures) (depth_texts texts);
      floats = ap has_float c.in_ok-again.ensures ∙ no_float_texts texts;
    }
