use Rattle.std.proofs.Common.{◌≡◌, length, take, ◌-◌, ◌≤◌}
use Rattle.std.specs.Io.KnownBytes.{Appends}
use Rattle.poets_io.proofs.whole.write_all.Given as goal

abbrev pub invariant-loop-at : goal.invariant-loop-at
invariant-loop-at g l = record {
  inside : l.at ≤ length l.piece;
  kept : g.K.Sink.faults l.sink ≡ g.K.Sink.faults l.initial.sink;
  bytes : Appends (g.K.Sink.held l.initial.sink) (g.K.Sink.held l.sink) (take l.at l.piece);
}

abbrev pub decreases-loop-at : goal.decreases-loop-at
decreases-loop-at g l = length l.piece - l.at
