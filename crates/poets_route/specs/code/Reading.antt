-- The heads of ways.
use Rattle.std.specs.Prelude.{◌≡◌, ◌<◌, ◌≤◌, ℕ, Bool, List, length}
use Rattle.poets_way.specs.Way.{Way}
use Rattle.poets_way.specs.Way as W
use Rattle.poets_way.specs.Trails.{TrailsView, way_at, sides_at}

-- a way of a transmit
pub data IsTake : Way → Type 0 where
  Take : {w : Way} → IsTake (W.Take w)

-- a way of two contracts side by side
pub data IsBoth : Way → Type 0 where
  Both : {sides : List Bool} {v u : Way} → IsBoth (W.Both sides v u)

-- a way of a sequence, whose first part has at most so many events
pub data IsThen (n : ℕ) : Way → Type 0 where
  Then : {m : ℕ} {v u : Way} → m ≤ n → IsThen n (W.Then m v u)

-- the way with a number is that of a transmit, by the way with another
pub record IsTakeAt (t : TrailsView) (number part : ℕ) : Type 0 where
  pub within : part < length t.ways
  pub way : way_at t number ≡ W.Take (way_at t part)

-- the way with a number is that of two contracts side by side, by the sides and the ways with
-- others
pub record IsBothAt (t : TrailsView) (number sides first second : ℕ) : Type 0 where
  pub sides_within : sides < length t.sides
  pub first_within : first < length t.ways
  pub second_within : second < length t.ways
  pub way : way_at t number ≡ W.Both (sides_at t sides) (way_at t first) (way_at t second)

-- the way with a number is that of a sequence, by a count and the ways with others
pub record IsThenAt (t : TrailsView) (number count first second : ℕ) : Type 0 where
  pub first_within : first < length t.ways
  pub second_within : second < length t.ways
  pub way : way_at t number ≡ W.Then count (way_at t first) (way_at t second)
