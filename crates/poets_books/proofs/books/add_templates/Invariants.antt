use Rattle.std.proofs.Common.{take}
use Rattle.poets_books.specs.code.Putting.{Adds, template_texts}
use Rattle.poets_books.proofs.books.add_templates.Given as goal

abbrev pub invariant-loop-template : goal.invariant-loop-template
invariant-loop-template l =
    Adds l.initial.texts.items l.texts.items (template_texts l.names (take l.template-index l.templates))
