use Rattle.std.proofs.Common.{◌≡◌, ◌++◌, drop, map, string_bytes}
use Rattle.poets_way.specs.Texts.{letter}
use Rattle.poets_way.proofs.texts.put_letters.Given as goal

abbrev pub invariant-loop-side : goal.invariant-loop-side
invariant-loop-side l = string_bytes l.out ++ map letter (drop l.side-index l.sides) ≡ string_bytes l.fn.out ++ map letter l.sides
