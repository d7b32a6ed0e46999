-- Texts that are no reserved word of some length.
use Rattle.std.specs.Prelude.{◌≢◌, ℕ, ◌≤◌, ◌<◌, List, length}
use Rattle.poets_lex.specs.declared.token.Word.{Word}
use Rattle.poets_lex.specs.Texts.{word_text}

-- the text is no reserved word of at most four letters
abbrev pub IsNoShortWord : List ℕ → Type 0
IsNoShortWord text = (word : Word) → length (word_text word) ≤ 4 → text ≢ word_text word

-- the text is no reserved word of more than four letters
abbrev pub IsNoLongWord : List ℕ → Type 0
IsNoLongWord text = (word : Word) → 4 < length (word_text word) → text ≢ word_text word
