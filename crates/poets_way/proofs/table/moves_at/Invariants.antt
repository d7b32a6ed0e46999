use Rattle.std.proofs.Common.{◌≡◌, ◌<◌, ◌++◌, length, map, reverse}
use Rattle.std.specs.List.{AllByRecursion}
use Rattle.poets_way.specs.Moves.{moves_of, move_of}
use Rattle.poets_way.specs.Trails.{way_at, trails_of}
use Rattle.poets_way.specs.code.Table.{moves_at}
use Rattle.poets_way.proofs.table.moves_at.Given as goal

abbrev pub invariant-loop-next : goal.invariant-loop-next
invariant-loop-next l =
    let t = trails_of l.nodes l.rows in
    record {
      within : AllByRecursion (λ n. n < length l.nodes) (reverse l.left.items);
      told : map move_of l.moves.items ++ moves_at t (reverse l.left.items) ≡ moves_of (way_at t l.number);
    }

abbrev pub decreases-loop-next : goal.decreases-loop-next
decreases-loop-next l = length (moves_at (trails_of l.nodes l.rows) (reverse l.left.items))
