-- Texts that are written piece by piece.
use Rattle.std.specs.Prelude.{◌≡◌, ℕ, List, ◌++◌, String, string_bytes}
use Rattle.std.specs.declared.alloc.Global.{Global}

-- the new text is the old one with the piece at its end
abbrev pub Puts : (old new : String Global) → (piece : List ℕ) → Type 0
Puts old new piece = string_bytes new ≡ string_bytes old ++ piece
