-- How the words are read.
use Rattle.std.specs.Prelude.{◌≡◌, ℕ, ◌≤◌, true, false, List, [], ◌∷◌, length, Option, Some, None}
use Rattle.std.specs.Prelude.{option_map, codes}
use Rattle.std.specs.Borrow.{Bor}
use Rattle.std.specs.List.{list_any}
use Rattle.std.specs.Str.Parse.{starts_with_minus}
use Rattle.clap.specs.Words.{App, first_of, is_simple, matches_of, takes}

-- one or two words, none of which begins with `-`
abbrev pub IsPlain : List (List ℕ) → Type 0
IsPlain words = (1 ≤ length words) × (length words ≤ 2) × (list_any starts_with_minus words ≡ false)

-- a first word and one after it, as far as they were found
abbrev pub words_found : Option (List ℕ) → Option (List ℕ) → List (List ℕ)
words_found None _ = []
words_found (Some first) None = first ∷ []
words_found (Some first) (Some second) = first ∷ second ∷ []

-- the texts that a first word and one after it refer to, as far as they were found
abbrev pub texts_found : Option (Bor (List ℕ)) → Option (Bor (List ℕ)) → List (List ℕ)
texts_found first second = words_found (option_map (λ w. w.now) first) (option_map (λ w. w.now) second)

-- the command takes plain words, and finds each of them
pub record FindsPlainWords (app : App) : Type 0 where
  pub simple : is_simple app ≡ true
  pub taken : (words : List (List ℕ)) → IsPlain words → takes app words ≡ true
  pub found : (words : List (List ℕ)) → IsPlain words →
      let found = matches_of app words in
      words_found (first_of (codes "first") found) (first_of (codes "second") found) ≡ words
