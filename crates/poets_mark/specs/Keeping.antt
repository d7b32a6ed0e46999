-- What a source gave, and keeps.
use Rattle.std.specs.Prelude.{◌≡◌, ℕ, List, ◌++◌, take, Option, Some, IfSome}

-- a source that keeps what it gave
pub record KeptView : Type 0 where
  -- the bytes that are left, where they are told
  pub left : Option (List ℕ)
  -- how many faults there were
  pub faults : ℕ
  -- all that it gave, if memory was found for it
  pub given : Option (List ℕ)

-- what is kept after these bytes were given, if anything is, is what was kept before, and the bytes
abbrev pub IsKept : (before : Option (List ℕ)) → (bytes : List ℕ) → (after : Option (List ℕ)) → Type 0
IsKept before bytes after = IfSome after (λ all. (kept : List ℕ) × (before ≡ Some kept) × (all ≡ kept ++ bytes))

-- what is kept after so many of these bytes were given, if anything is, is what was kept before,
-- and they
abbrev pub IsKeptOf : (before : Option (List ℕ)) → (bytes : List ℕ) → (after : Option (List ℕ)) → (count : ℕ) → Type 0
IsKeptOf before bytes after count = IsKept before (take count bytes) after
