use Rattle.std.proofs.Common.{map, take}
use Rattle.poets_mark.specs.Lines.{shown}
use Rattle.poets_value.specs.code.Texts.{Puts}
use Rattle.poets_mark.proofs.marking.add_shown.Given as goal

-- so many of the bytes were added
abbrev pub invariant-loop-byte : goal.invariant-loop-byte
invariant-loop-byte l = Puts l.fn.lines l.lines (map shown (take l.byte-index l.bytes))
