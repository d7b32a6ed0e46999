use Rattle.std.proofs.Common.{◌≡◌, ◌++◌, ◌∙◌, append_assoc, string_bytes}
use Rattle.std.specs.Prelude.{codes}
use Rattle.poets_books.proofs.Formats.{fold_pieces}
use Rattle.poets_books.proofs.declarations.fold_text.Goals as goal

pub returns : goal.returns
returns c =
    let line : string_bytes c.in_ok-format.field-0 ≡ codes "fold " ++ c.name_text-carry.result.now ++ codes " = " ++ string_bytes c.in_ok-start.start ++ codes " with (" ++ string_bytes c.in_ok-binders.binders ++ codes ") in " ++ string_bytes c.in_ok-step.step ++ string_bytes c.in_ok-key.key =
    simp append_assoc c.in_ok-format.ensures.ok in
    line ∙ fold_pieces c.name_text-carry.ensures c.in_ok-start.ensures c.in_ok-binders.ensures c.in_ok-step.ensures c.in_ok-key.ensures
