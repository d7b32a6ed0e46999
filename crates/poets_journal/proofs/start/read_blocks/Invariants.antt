use Rattle.std.proofs.Common.{◌≡◌, ◌≤◌, ◌+◌, ◌-◌, false, length, take, IfSome, if◌then◌else◌}
use Rattle.poets_disk.specs.Disks.{Rests}
use Rattle.poets_journal.proofs.start.read_blocks.Given as goal

abbrev pub invariant-reading : goal.invariant-reading
invariant-reading g l = record {
  rests : Rests (g.D.Disk.seen l.fn.disk) (g.D.Disk.seen l.disk);
  within : length l.bytes.items ≤ l.long;
  front : IfSome (g.D.Disk.seen l.fn.disk).bytes (λ file. l.bytes.items ≡ take (length l.bytes.items) file);
  done : l.more ≡ false → IfSome (g.D.Disk.seen l.fn.disk).bytes (λ file. length file ≤ length l.bytes.items);
  kept : g.D.Disk.faults l.disk ≡ g.D.Disk.faults l.fn.disk;
}

abbrev pub decreases-reading : goal.decreases-reading
decreases-reading g l = if l.more then l.long - length l.bytes.items + 1 else 0
