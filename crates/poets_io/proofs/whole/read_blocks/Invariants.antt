use Rattle.std.proofs.Common.{◌≡◌, ◌≤◌, ◌-◌, length}
use Rattle.std.specs.Io.KnownBytes.{Consumes}
use Rattle.poets_io.proofs.whole.read_blocks.Given as goal

abbrev pub invariant-reading : goal.invariant-reading
invariant-reading g l = record {
  kept : g.S.Source.faults l.source ≡ g.S.Source.faults l.initial.source;
  short : length l.text.items ≤ l.limit;
  bytes : Consumes (g.S.Source.left l.initial.source) (g.S.Source.left l.source) l.text.items;
}

abbrev pub decreases-reading : goal.decreases-reading
decreases-reading g l = l.limit - length l.text.items
