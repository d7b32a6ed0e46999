use Rattle.std.proofs.Common.{◌≡◌, ◌+◌, length}
use Rattle.poets_test_ways.proofs.made.way.Given as goal
use denote.Shadow.{shadow}
use denote.Text.{Utf8}

abbrev pub invariant-loop-word-2 : goal.invariant-loop-word-2
invariant-loop-word-2 l = shadow (Utf8 l.behind) × (length l.trails.ways ≡ l.last + 1)

abbrev pub decreases-loop-word-2 : goal.decreases-loop-word-2
decreases-loop-word-2 l = length l.words.items
