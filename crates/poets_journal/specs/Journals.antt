-- What a journal keeps on its disk.
use Rattle.std.specs.Prelude.{◌⊎◌, ℕ, ◌+◌, List, [], ◌∷◌, ◌++◌, map}
use Rattle.poets_value.specs.Listed.{Listed}
use Rattle.poets_disk.specs.Disks.{Seen, MayLeave, over}
use Rattle.poets_journal.specs.Texts.{HoldsTexts}

-- each image holds the texts
abbrev pub AllHold : Seen → List (List ℕ) → Type 0
AllHold disk texts = (image : List ℕ) → MayLeave disk image → HoldsTexts image texts

-- the file holds the texts, or these and one more
abbrev pub HoldsOrMore : List (List ℕ) → List ℕ → List ℕ → Type 0
HoldsOrMore texts text file = HoldsTexts file texts ⊎ HoldsTexts file (texts ++ text ∷ [])

-- the file with the frame after the gate at that place, and then the gate opened
abbrev pub with_record : ℕ → List ℕ → List ℕ → List ℕ
with_record gate frame file = over gate (1 ∷ []) (over (gate + 1) frame file)

-- the bytes of texts
abbrev pub texts_of : Listed (Listed ℕ) → List (List ℕ)
texts_of list = map (λ text. text.items) list.items
