use Rattle.std.specs.BTreeMap.{get}
use Rattle.poets_value.specs.Names.{name_cmp}
use Rattle.poets_syntax.specs.Book.{book_of}
use Rattle.poets_guard.specs.code.Facts.{IsBuilt}
use Rattle.poets_guard.proofs.endings.rules_of_book.Given as goal

abbrev pub invariant-loop-template : goal.invariant-loop-template
invariant-loop-template l = IsBuilt (book_of l.book) l.granted l.book.templates.items (get name_cmp l.facts) l.template-index l.rules
