use Rattle.std.proofs.Common.{◌≡◌, ◌++◌, ◌∙◌, ap, append_assoc, string_bytes}
use Rattle.std.specs.Prelude.{codes}
use Rattle.poets_books.specs.Statements.{parameters_text}
use Rattle.poets_books.proofs.Formats.{report_pieces}
use Rattle.poets_books.proofs.declarations.report_text.Goals as goal

pub returns : goal.returns
returns c =
    let line : string_bytes c.in_ok-format.field-0 ≡ codes "report " ++ c.name_text-name.result.now ++ string_bytes c.in_ok-params.params ++ codes ": " ++ c.type_text-ty.result.now ++ codes " = " ++ string_bytes c.in_ok-fold.fold =
    simp append_assoc c.in_ok-format.ensures.ok in
    line ∙ report_pieces c.name_text-name.ensures (c.in_ok-params.ensures ∙ ap (parameters_text c.args.names.now) c.as_slice.ensures) c.type_text-ty.ensures c.in_ok-fold.ensures
