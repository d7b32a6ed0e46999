use Rattle.std.specs.BTreeMap.{get}
use Rattle.std.specs.BTreeSet.{contains}
use Rattle.poets_value.specs.Names.{name_cmp}
use Rattle.poets_guard.specs.code.Rules.{is_known}
use Rattle.poets_guard.specs.code.Facts.{says, IsTold}
use Rattle.poets_guard.proofs.endings.templates_that_end.Given as goal

abbrev pub invariant-loop-template : goal.invariant-loop-template
invariant-loop-template l = IsTold l.template-index l.book.templates.items (says (is_known l.known.items) (get name_cmp l.facts)) (contains name_cmp l.ending)
