-- Lists of sides.
use Rattle.std.specs.Prelude.{ℕ, zero, suc, Bool, List, [], ◌∷◌}

-- so many times the same side
abbrev pub repeated : ℕ → Bool → List Bool
repeated zero side = []
repeated (suc n) side = side ∷ repeated n side
