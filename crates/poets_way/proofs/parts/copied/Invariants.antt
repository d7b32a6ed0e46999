use Rattle.std.proofs.Common.{◌≡◌, take}
use Rattle.poets_way.proofs.parts.copied.Given as goal

abbrev pub invariant-loop-pair : goal.invariant-loop-pair
invariant-loop-pair l = l.copy.items ≡ take l.pair-index l.pairs
