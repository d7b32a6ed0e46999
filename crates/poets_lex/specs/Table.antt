-- Names, and their table: the list of their texts, in which a name is a place.
use Rattle.std.specs.Prelude.{◌≡◌, ◌≢◌, ℕ, ◌≤◌, List, [], ◌∷◌, ◌++◌, length, map, position, Option}
use Rattle.std.specs.Prelude.{Some, if◌then◌else◌}
use Rattle.std.specs.Prelude.{slice_get, IsTrue, String, string_bytes}
use Rattle.std.specs.List.{list_any, list_all}
use Rattle.std.specs.Str.{bytes_eq}
use Rattle.std.specs.declared.alloc.Global.{Global}
use Rattle.poets_lex.specs.declared.token.Word.{Word}
use Rattle.poets_lex.specs.Bytes.{begins_name, is_in_name}
use Rattle.poets_lex.specs.Texts.{word_text}

-- a letter or `_`, then letters, digits and `_`
abbrev pub HasNameShape : List ℕ → Type 0
HasNameShape [] = ⊥
HasNameShape (byte ∷ bytes) = IsTrue (begins_name byte) × IsTrue (list_all is_in_name bytes)

-- a name has at most 64 bytes and is no reserved word
pub record IsName (bytes : List ℕ) : Type 0 where
  pub shape : HasNameShape bytes
  pub short : length bytes ≤ 64
  pub not_reserved : (word : Word) → bytes ≢ word_text word

-- the texts in the order of their names
abbrev pub Table : Type 0
Table = List (List ℕ)

-- the first place of a text
abbrev pub place_of : List ℕ → Table → Option ℕ
place_of text table = position (bytes_eq text) table

-- the table with a text in it, at the end if it is new
abbrev pub with_text : List ℕ → Table → Table
with_text text table = if list_any (bytes_eq text) table then table else table ++ text ∷ []

-- each text is a name, and occurs once
abbrev pub IsTable : Table → Type 0
IsTable table =
    (text : List ℕ) (place : ℕ) → slice_get table place ≡ Some text → IsName text × (place_of text table ≡ Some place)

-- the new table has more texts after those of the old one
abbrev pub Extends : Table → Table → Type 0
Extends old new = (more : Table) × (new ≡ old ++ more)

-- the bytes of each text
abbrev pub texts_of : List (String Global) → Table
texts_of texts = map string_bytes texts
