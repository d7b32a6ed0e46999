use Rattle.std.proofs.Common.{◌≡◌, ◌++◌, take}
use Rattle.poets_io.proofs.lists.append.Given as goal

abbrev pub invariant-loop-byte : goal.invariant-loop-byte
invariant-loop-byte l = l.list.items ≡ l.fn.list.items ++ take l.byte-index l.bytes
