use Rattle.std.proofs.Common.{◌≡◌, ◌++◌, ◌∙◌, ap, append_assoc, string_bytes}
use Rattle.std.specs.Prelude.{codes}
use Rattle.poets_books.specs.Statements.{parameters_text}
use Rattle.poets_books.proofs.Formats.{template_pieces}
use Rattle.poets_books.proofs.declarations.template_text.Goals as goal

pub returns : goal.returns
returns c =
    let line : string_bytes c.in_ok-format.field-0 ≡ codes "template " ++ c.name_text-name.result.now ++ string_bytes c.in_ok-params.params ++ codes " = " ++ string_bytes c.in_ok-body.body =
    simp append_assoc c.in_ok-format.ensures.ok in
    line ∙ template_pieces c.name_text-name.ensures (c.in_ok-params.ensures ∙ ap (parameters_text c.args.names.now) c.as_slice.ensures) c.in_ok-body.ensures
