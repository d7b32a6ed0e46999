use Rattle.std.proofs.Common.{sym, ◌∙◌}
use Rattle.poets_syntax.specs.Book.{template_of}
use Rattle.poets_types.proofs.Indices.{template_in-none, template_in-at, read_at}
use Rattle.poets_types.proofs.index.Index.template.Goals as goal

pub returns-in_err-get : goal.returns-in_err-get
returns-in_err-get c =
    rw c.from_residual.ensures
    (sym (template_in-none 0 c.args.self.now.book.now.templates.items c.args.name (sym (c.args.self.now.first_places c.args.name) ∙ sym c.in_err-get.ensures.value)))

pub returns : goal.returns
returns c =
    read_at (λ t. t.now) template_of c.args.self.now.book.now.templates.items c.in_ok-get.field-0.now c.get-2.result c.get-2.ensures.found c.get-2.ensures.none
    ∙ template_in-at c.in_ok-get.field-0.now c.args.self.now.book.now.templates.items c.args.name (sym (c.args.self.now.first_places c.args.name) ∙ sym c.in_ok-get.ensures.value)
