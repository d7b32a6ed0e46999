-- Histories: lists of calls, each with the number of its clerk.
use Rattle.std.specs.Prelude.{ℕ, ◌==◌, List, [], ◌∷◌, if◌then◌else◌}

module _ {C : Type 0} where
  -- the calls of one clerk in a history, in order
  abbrev pub calls_by : ℕ → List (ℕ × C) → List C
  calls_by clerk [] = []
  calls_by clerk (e ∷ es) = if e.0 == clerk then e.1 ∷ calls_by clerk es else calls_by clerk es
