use Rattle.std.proofs.Common.{◌≡◌, ◌-◌, take}
use Rattle.poets_residue.specs.code.Limits.{rows_count}
use Rattle.poets_residue.proofs.limits.less_rows.Given as goal

abbrev pub invariant-loop-node : goal.invariant-loop-node
invariant-loop-node l = l.left ≡ l.initial.left - rows_count (take l.node-index l.nodes)
