-- Texts in a file: each after an open gate and its length, and a gate that is not open after the
-- last one.
use Rattle.std.specs.Prelude.{◌≡◌, ◌≢◌, ◌⊎◌, ℕ, ◌+◌, ◌*◌, ◌<◌, ◌≤◌, List, [], ◌∷◌, ◌++◌, length}

-- a text as bytes
abbrev pub Text : Type 0
Text = List ℕ

-- texts in their order
abbrev pub Texts : Type 0
Texts = List Text

-- the number that four bytes are, the greatest first
abbrev pub number_of : (a b c d : ℕ) → ℕ
number_of a b c d = ((a * 256 + b) * 256 + c) * 256 + d

-- the bytes are a record of the text, and then the rest: the byte 1, which is the open gate, four
-- bytes with the text's length, and the text
pub record BeginsWith (text bytes rest : List ℕ) : Type 0 where
  pub a : ℕ
  pub b : ℕ
  pub c : ℕ
  pub d : ℕ
  pub is : bytes ≡ 1 ∷ a ∷ b ∷ c ∷ d ∷ text ++ rest
  pub size : number_of a b c d ≡ length text

-- the bytes are records of the texts, one after the other, and then the rest
abbrev pub AreRecords : List ℕ → List (List ℕ) → List ℕ → Type 0
AreRecords bytes [] rest = bytes ≡ rest
AreRecords bytes (text ∷ texts) rest = (more : List ℕ) × BeginsWith text bytes more × AreRecords more texts rest

-- the bytes begin with a gate that is not open, whatever follows
abbrev pub IsClosed : List ℕ → Type 0
IsClosed [] = ⊥
IsClosed (gate ∷ rest) = gate ≢ 1

-- the bytes are records of the texts, and then comes a gate that is not open
pub record HoldsFrom (bytes : List ℕ) (texts : List (List ℕ)) : Type 0 where
  pub rest : List ℕ
  pub records : AreRecords bytes texts rest
  pub closed : IsClosed rest

-- the file holds the texts: records of them, or none where it has at most one byte
abbrev pub HoldsTexts : List ℕ → List (List ℕ) → Type 0
HoldsTexts file texts = ((length file ≤ 1) × (texts ≡ [])) ⊎ HoldsFrom file texts

-- a record begins that is not whole, or has no byte after it
pub record IsCutShort (bytes : List ℕ) : Type 0 where
  pub rest : List ℕ
  pub begun : bytes ≡ 1 ∷ rest
  pub short : (text more : List ℕ) (next : ℕ) → ¬ (BeginsWith text bytes (next ∷ more))

-- so many records come first in the file, the last of which is not whole or has no byte after it
pub record IsDamaged (file : List ℕ) (number : ℕ) : Type 0 where
  pub texts : List (List ℕ)
  pub rest : List ℕ
  pub long : 1 < length file
  pub records : AreRecords file texts rest
  pub count : number ≡ length texts + 1
  pub cut : IsCutShort rest

-- the bytes are a record of the text without its gate, and a closed gate after it
abbrev pub IsFrame : List ℕ → List ℕ → Type 0
IsFrame text frame = BeginsWith text (1 ∷ frame) (0 ∷ [])
