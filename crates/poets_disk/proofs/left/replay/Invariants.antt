use Rattle.std.proofs.Common.{◌≡◌, ◌≤◌, length, drop, vec_capacity}
use Rattle.poets_value.specs.Limits.{longest_text}
use Rattle.poets_disk.specs.Memory.{held_by}
use Rattle.poets_disk.specs.Kept.{disk_calls}
use Rattle.poets_disk.specs.code.Marks.{AreKept, marked}
use Rattle.poets_disk.proofs.left.replay.Given as goal

abbrev pub invariant-loop-mark : goal.invariant-loop-mark
invariant-loop-mark l = record {
  file : held_by l.file.items (disk_calls (drop l.mark-index l.marks) l.rest) ≡ held_by l.fn.file.items (disk_calls l.marks l.written);
  kept : AreKept l.file.items (disk_calls (drop l.mark-index l.marks) l.rest);
  enough : marked (drop l.mark-index l.marks) ≤ length l.rest;
  room : longest_text ≤ vec_capacity l.file;
  left : drop (marked (drop l.mark-index l.marks)) l.rest ≡ drop (marked l.marks) l.written;
}
