use Rattle.std.proofs.Common.{sym, ap, ◌∙◌}
use Rattle.std.specs.Prelude.{is_some}
use Rattle.poets_types.proofs.Tables.{position_from-some}
use Rattle.poets_types.proofs.Indices.{is_some-template_in}
use Rattle.poets_types.proofs.index.Index.is_template.Goals as goal

pub returns : goal.returns
returns c =
    c.contains_key.ensures ∙ ap is_some (c.args.self.now.first_places c.args.name)
    ∙ position_from-some _ 0 c.args.self.now.book.now.templates.items ∙ sym (is_some-template_in c.args.self.now.book.now.templates.items c.args.name)
