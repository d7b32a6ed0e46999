use Rattle.std.proofs.Common.{◌≡◌, ◌++◌}
use Rattle.poets_report.specs.Keyed.{rows_of}
use Rattle.poets_report.proofs.keyed.listed.Given as goal

-- the rows so far stand before those of the cells that are left
abbrev pub invariant-loop-key : goal.invariant-loop-key
invariant-loop-key l = l.rows.items ++ rows_of l.key-iterator l.undefined ≡ rows_of l.cells.entries l.undefined
