-- Choices of distinct alternatives, and parallel parts grouped to the left.
use Rattle.std.specs.Prelude.{◌≡◌, Bool, List}
use Rattle.std.specs.List.{list_any}
use Rattle.poets_syntax.specs.Contract.{Contract}
use Rattle.poets_calculus.specs.Alike.{alike, parts}
use Rattle.poets_calculus.specs.Normal.{alternatives, distinct, choice, side_by_side}

-- whether a contract of the list is alike to this one
abbrev pub holds_alike : List Contract → Contract → Bool
holds_alike cs c = list_any (λ d. alike d c) cs

-- the choice of the distinct alternatives of a contract
abbrev pub distinct_choice : Contract → Contract
distinct_choice c = choice (distinct (alternatives c))

-- a choice of distinct alternatives, grouped to the left
abbrev pub IsDistinctChoice : Contract → Type 0
IsDistinctChoice c = distinct_choice c ≡ c

-- the parts of a contract side by side, grouped to the left
abbrev pub regrouped : Contract → Contract
regrouped c = side_by_side (parts c)
