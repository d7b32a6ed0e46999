use Rattle.std.proofs.Common.{◌≡◌, ◌+◌, ◌≤◌, ◌++◌, drop, length, reverse}
use Rattle.poets_way.specs.Ways.{first_of, second_of}
use Rattle.poets_way.proofs.parts.part.Given as goal

abbrev pub invariant-loop-side : goal.invariant-loop-side
invariant-loop-side l =
    let sides = drop l.side-index l.sides in
    let all = reverse l.fn.left.items in
    record {
      count : length l.first.items + length l.second.items + length l.left.items ≡ length l.fn.left.items;
      enough : length sides ≤ length l.left.items;
      first : l.first.items ++ first_of sides (reverse l.left.items) ≡ first_of l.sides all;
      second : l.second.items ++ second_of sides (reverse l.left.items) ≡ second_of l.sides all;
      others : drop (length sides) (reverse l.left.items) ≡ drop (length l.sides) all;
    }
