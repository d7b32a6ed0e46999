use Rattle.std.proofs.Common.{map, take}
use Rattle.std.specs.BTreeSet.{contains}
use Rattle.poets_value.specs.Names.{name_cmp}
use Rattle.poets_syntax.specs.Book.{template_of}
use Rattle.poets_guard.specs.code.Graph.{IsGraph}
use Rattle.poets_guard.proofs.graph.graph_of.Given as goal

abbrev pub invariant-loop-template : goal.invariant-loop-template
invariant-loop-template l = IsGraph (map template_of (take l.template-index l.book.templates.items)) (contains name_cmp l.nullable) l.graph
