-- How a disk in memory keeps its calls: a mark for each, and all bytes that were written, piece
-- after piece.
use Rattle.std.specs.Prelude.{ℕ, List, [], ◌∷◌, take, drop}
use Rattle.poets_disk.specs.Memory.{DiskCall, wrote, failed_write, synced, failed_sync, MemoryFile}
use Rattle.poets_disk.specs.declared.memory.Mark.{Mark}
use Rattle.poets_disk.specs.declared.memory.Mark.TheVariants.{Wrote, FailedWrite, Synced}
use Rattle.poets_disk.specs.declared.memory.Mark.TheVariants.{FailedSync}
use Rattle.poets_disk.specs.declared.memory.MemoryDisk.TheInside.{Inside}

-- the calls that the marks stand for, whose pieces are these bytes
abbrev pub disk_calls : List Mark → List ℕ → List DiskCall
disk_calls [] bytes = []
disk_calls (Wrote at count ∷ marks) bytes = wrote at (take count bytes) ∷ disk_calls marks (drop count bytes)
disk_calls (FailedWrite at count ∷ marks) bytes = failed_write at count ∷ disk_calls marks bytes
disk_calls (Synced ∷ marks) bytes = synced ∷ disk_calls marks bytes
disk_calls (FailedSync ∷ marks) bytes = failed_sync ∷ disk_calls marks bytes

-- what contracts see of a disk in memory
abbrev pub file_of : Inside → MemoryFile
file_of m = record {
  first = m.first.items;
  calls = disk_calls m.marks.items m.written.items;
  fails = m.fails.items;
  faults = m.faults;
}
