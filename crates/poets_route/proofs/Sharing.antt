-- A way of two contracts side by side, by its parts.
use Rattle.std.proofs.Common.{◌≡◌, ℕ, ◌-◌, min, Bool, List}
use Rattle.poets_way.specs.Trails.{seconds}
use Rattle.poets_way.specs.Way.{Way}
use Rattle.poets_way.specs.Way as W

-- its sides, its two parts, and how many of so many events are those of each
pub record SharedWay (n : ℕ) (way : Way) : Type 0 where
  pub sides : List Bool
  pub first : Way
  pub second : Way
  pub first_count : ℕ
  pub second_count : ℕ
  pub is : way ≡ W.Both sides first second
  pub first_is : first_count ≡ n - min (seconds sides) n
  pub second_is : second_count ≡ min (seconds sides) n
