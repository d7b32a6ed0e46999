use Rattle.std.proofs.Common.{◌≡◌}
use Rattle.poets_table.specs.Pieces.{joined}
use Rattle.poets_engine.proofs.Points.{between}
use Rattle.poets_engine.proofs.accounts.listed.Given as goal

abbrev pub invariant-loop-place : goal.invariant-loop-place
invariant-loop-place l = l.list.items ≡ joined (between 0 l.place l.events.pieces)
