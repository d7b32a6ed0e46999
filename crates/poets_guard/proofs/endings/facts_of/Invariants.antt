use Rattle.std.specs.BTreeMap.{get}
use Rattle.poets_value.specs.Names.{name_cmp}
use Rattle.poets_guard.specs.code.Facts.{AreFacts}
use Rattle.poets_guard.proofs.endings.facts_of.Given as goal

abbrev pub invariant-loop-place : goal.invariant-loop-place
invariant-loop-place l = AreFacts l.place l.book.templates.items (get name_cmp l.facts)
