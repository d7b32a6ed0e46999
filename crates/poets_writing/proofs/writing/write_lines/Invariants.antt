use Rattle.std.proofs.Common.{take, ◌≡◌}
use Rattle.std.specs.Io.KnownBytes.{Appends}
use Rattle.poets_writing.specs.Outcomes.{lines_after}
use Rattle.poets_writing.proofs.writing.write_lines.Given as goal

abbrev pub invariant-loop-place : goal.invariant-loop-place
invariant-loop-place g l = record {
  kept : g.K.Sink.faults l.sink ≡ g.K.Sink.faults l.initial.sink;
  bytes : Appends (g.K.Sink.held l.initial.sink) (g.K.Sink.held l.sink) (lines_after l.names l.earlier (take l.place l.entries));
}
