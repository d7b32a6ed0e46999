use Rattle.std.proofs.Common.{◌≡◌, ◌++◌, length, reverse, string_bytes}
use Rattle.poets_way.specs.code.Writing.{after_end, end_text}
use Rattle.poets_way.proofs.texts.put_ends.Given as goal

abbrev pub invariant-loop-first : goal.invariant-loop-first
invariant-loop-first l = record {
  text : string_bytes l.out ++ end_text (reverse l.parts.items) ≡ string_bytes l.fn.out ++ end_text (reverse l.fn.parts.items);
  parts : after_end (reverse l.parts.items) ≡ after_end (reverse l.fn.parts.items);
}

abbrev pub decreases-loop-first : goal.decreases-loop-first
decreases-loop-first l = length l.parts.items
