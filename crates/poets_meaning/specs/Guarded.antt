-- Guarded books: no template leads back to itself before a transmission.
use Rattle.std.specs.Prelude.{List, [], ◌∷◌}
use Rattle.poets_value.specs.declared.value.Name.{Name}
use Rattle.poets_expr.specs.Expression.{Expression}
use Rattle.poets_syntax.specs.Contract.{Contract}
use Rattle.poets_syntax.specs.Plain.{Book}
use Rattle.poets_meaning.specs.Marks.{Nullable, BodySatisfies}

-- the contract applies the name outside every transmit, and not in the second part of a `;` whose
-- first part is not nullable
pub data Exposes (book : Book) : Contract → Name → Type 0 where
  Here : {f : Name} {args : List Expression} → Exposes book (Contract.App f args) f
  PlusLeft : {c₁ c₂ : Contract} {f : Name} → Exposes book c₁ f → Exposes book (Contract.Plus c₁ c₂) f
  PlusRight : {c₁ c₂ : Contract} {f : Name} → Exposes book c₂ f → Exposes book (Contract.Plus c₁ c₂) f
  ParLeft : {c₁ c₂ : Contract} {f : Name} → Exposes book c₁ f → Exposes book (Contract.Par c₁ c₂) f
  ParRight : {c₁ c₂ : Contract} {f : Name} → Exposes book c₂ f → Exposes book (Contract.Par c₁ c₂) f
  SeqFirst : {c₁ c₂ : Contract} {f : Name} → Exposes book c₁ f → Exposes book (Contract.Seq c₁ c₂) f
  SeqSecond : {c₁ c₂ : Contract} {f : Name} → Nullable book c₁ → Exposes book c₂ f → Exposes book (Contract.Seq c₁ c₂) f

-- there is an unguarded edge from a template to each name that its body exposes
abbrev pub UnguardedEdge : Book → Name → Name → Type 0
UnguardedEdge book f g = BodySatisfies book (λ c. Exposes book c g) f

-- a path of edges: from the first name to the head of the list, from each of the list to the next,
-- and from its last to the goal
abbrev pub IsPath : (Edge : Name → Name → Type 0) → (from : Name) → List Name → (goal : Name) → Type 0
IsPath Edge from [] goal = Edge from goal
IsPath Edge from (f ∷ names) goal = Edge from f × IsPath Edge f names goal

-- an edge from each name of the list to the next, and from its last to its first
abbrev pub IsCycle : (Edge : Name → Name → Type 0) → List Name → Type 0
IsCycle Edge [] = ⊥
IsCycle Edge (f ∷ names) = IsPath Edge f names f

-- no list of names is a cycle of unguarded edges
abbrev pub IsGuarded : Book → Type 0
IsGuarded book = (names : List Name) → ¬ (IsCycle (UnguardedEdge book) names)
