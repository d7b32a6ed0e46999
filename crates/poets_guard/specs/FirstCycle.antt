-- The first cycle of a book.
use Rattle.std.specs.Prelude.{◌≡◌, List, ◌∷◌, ◌++◌, map, All}
use Rattle.poets_value.specs.declared.value.Name.{Name}
use Rattle.poets_syntax.specs.Plain.{Book}
use Rattle.poets_meaning.specs.Guarded.{IsCycle, UnguardedEdge}

-- some cycle begins with the name
abbrev pub LiesOnCycle : (Edge : Name → Name → Type 0) → Name → Type 0
LiesOnCycle Edge f = (others : List Name) × IsCycle Edge (f ∷ others)

-- the list is a cycle, and begins with the first of the names that lies on one
pub record IsFirstOf (Edge : Name → Name → Type 0) (names cycle : List Name) : Type 0 where
  pub earlier : List Name
  pub first : Name
  pub later : List Name
  pub others : List Name
  pub split : names ≡ earlier ++ first ∷ later
  pub begins : cycle ≡ first ∷ others
  pub is_cycle : IsCycle Edge cycle
  pub none : All (λ f. ¬ (LiesOnCycle Edge f)) earlier

-- the list is a cycle of unguarded edges, and begins with the first declared template that lies on
-- one
abbrev pub IsFirstCycle : Book → List Name → Type 0
IsFirstCycle book cycle = IsFirstOf (UnguardedEdge book) (map (λ t. t.name) book.templates) cycle
