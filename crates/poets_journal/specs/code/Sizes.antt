-- The length of a record's text as bytes.
use Rattle.std.specs.Prelude.{ℕ, ◌/◌, ◌%◌, List, [], ◌∷◌}

-- the four bytes of a number below 2 ^ 32, the greatest first
abbrev pub size_bytes : ℕ → List ℕ
size_bytes size = size / 16_777_216 ∷ size / 65_536 % 256 ∷ size / 256 % 256 ∷ size % 256 ∷ []
