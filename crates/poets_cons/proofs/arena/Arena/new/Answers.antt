use Rattle.poets_cons.proofs.Adding.{table-none}
use Rattle.poets_cons.proofs.Alikeness.{no_classes, no_forms}
use Rattle.poets_cons.proofs.arena.Arena.new.Goals as goal

pub invariant_of-result : goal.invariant_of-result
invariant_of-result c = (
  table-none c.new.result.keys c.new.ensures.unique c.new.ensures.len,
  no_forms c.new.result.keys c.new-2.result.items c.new.ensures.len c.new-2.ensures.items,
  no_classes c.new.result.keys c.new-3.result c.new-3.ensures.bags c.new-3.ensures.shapes c.new-3.ensures.classes,
)
