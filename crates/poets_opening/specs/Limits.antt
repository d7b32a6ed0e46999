-- How much of a source is read.
use Rattle.std.specs.Prelude.{ℕ, List, [], ◌∷◌, ◌++◌, codes}
use Rattle.poets_value.specs.Limits.{longest_text}
use Rattle.poets_io.specs.declared.whole.TheConstants.{BLOCK}

-- the most bytes of a session
abbrev pub longest : ℕ
longest = longest_text

-- the most bytes that are read at once
abbrev pub block : ℕ
block = BLOCK

-- the line of a text that is longer, and LF (10)
abbrev pub too_long_text : List ℕ
too_long_text = codes "refused: longer than 16777216 bytes" ++ 10 ∷ []
