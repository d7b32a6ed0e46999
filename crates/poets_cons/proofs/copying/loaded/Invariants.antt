use Rattle.std.proofs.Common.{◌≡◌, take}
use Rattle.poets_cons.specs.Table.{rows_of}
use Rattle.poets_cons.proofs.copying.loaded.Given as goal

abbrev pub invariant-loop-node : goal.invariant-loop-node
invariant-loop-node l = rows_of l.arena ≡ take l.node-index (rows_of l.nodes)
