use Rattle.std.specs.BTreeSet.{contains}
use Rattle.poets_value.specs.Names.{name_cmp}
use Rattle.poets_guard.proofs.Studying.{IsStudiedBook-marked, HasNodesOf-graph, IsFirstCycle-found}
use Rattle.poets_guard.proofs.guard.study.Goals as goal

pub of-requires : goal.of-requires
of-requires c =
    IsStudiedBook-marked c.args.book c.requires.checked (contains name_cmp c.in_ok-nullable.nullable) (contains name_cmp c.in_ok-hopeful.hopeful)
    c.in_ok-graph.graph c.in-Some.marks.items c.in_ok-nullable.ensures c.in_ok-hopeful.ensures c.in_ok-graph.ensures (rw c.in-Some.is at c.in_ok-marks.ensures.marks)

pub first_cycle-requires-clause-names : goal.first_cycle-requires-clause-names
first_cycle-requires-clause-names c =
    HasNodesOf-graph (contains name_cmp c.in_ok-nullable.nullable) c.in_ok-graph.graph c.args.book.templates.items c.in_ok-graph.ensures

pub returns-in_ok-first_cycle-in-None-clause-unguarded : goal.returns-in_ok-first_cycle-in-None-clause-unguarded
returns-in_ok-first_cycle-in-None-clause-unguarded c =
    IsFirstCycle-found c.args.book c.requires.checked (contains name_cmp c.in_ok-nullable.nullable) c.in_ok-graph.graph c.in_ok-first_cycle-in-None.field-0.items
    c.in_ok-nullable.ensures c.in_ok-graph.ensures c.in_ok-first_cycle-in-None.ensures
