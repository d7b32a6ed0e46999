-- A machine that adds.
use Rattle.std.specs.Prelude.{◌≡◌, ℕ, ◌+◌, ◌%◌, ◌^◌, List, [], ◌∷◌, map}
use Rattle.std.specs.declared.alloc.Global.{Global}
use Rattle.std.specs.declared.sync.Arc.{Arc}
use Rattle.std.specs.Arc.{arc_value}

-- what the amounts add up to
abbrev pub total : List (ℕ × ℕ) → ℕ
total [] = 0
total (e ∷ es) = e.1 + total es

-- the sum of the amounts, this one among them
abbrev pub IsSum : List (ℕ × ℕ) → ℕ → ℕ → Type 0
IsSum before amount sum = sum ≡ (total before + amount) % 2 ^ 64

-- entries as pairs of a clerk's number and an amount
abbrev pub adder_calls : List (ℕ × Arc ℕ Global) → List (ℕ × ℕ)
adder_calls entries = map (λ e. (e.0, arc_value e.1)) entries
