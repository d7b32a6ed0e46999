-- Walks over the graph: the widths that it gives, and its cycles.
use Rattle.std.specs.Prelude.{◌≡◌, ◌↔◌, ℕ, ◌+◌, true, IsTrue, List, ◌∷◌, map, length, Option, Some}
use Rattle.std.specs.Prelude.{None, sum_by}
use Rattle.std.specs.BTreeMap.{BTreeMap, get}
use Rattle.std.specs.BTreeSet.{BTreeSet, contains}
use Rattle.poets_value.specs.declared.value.Name.{Name}
use Rattle.poets_value.specs.Names.{name_cmp}
use Rattle.poets_syntax.specs.declared.term.Template.{Template}
use Rattle.poets_meaning.specs.Guarded.{IsPath, IsCycle}
use Rattle.poets_guard.specs.declared.graph.Node.{Node}
use Rattle.poets_meaning.specs.Width.{cut}
use Rattle.poets_guard.specs.FirstCycle.{IsFirstOf, LiesOnCycle}
use Rattle.poets_guard.specs.code.Graph.{HasEdge}

-- some path of edges leads from the first name to the second
abbrev pub Reaches : BTreeMap Name Node → Name → Name → Type 0
Reaches graph f g = (names : List Name) × IsPath (HasEdge graph) f names g

-- some list of names is a cycle
abbrev pub HasCycle : BTreeMap Name Node → Type 0
HasCycle graph = (names : List Name) × IsCycle (HasEdge graph) names

-- every path of edges from the name ends
pub data PathsEnd (graph : BTreeMap Name Node) : Name → Type 0 where
  Ends : {f : Name} → ((g : Name) → HasEdge graph f g → PathsEnd graph g) → PathsEnd graph f

-- the width at a node, where `width` gives those of other names: its own, and those of the names
-- that it exposes
abbrev pub width_at : (width : Name → ℕ) → Option Node → ℕ
width_at width None = 0
width_at width (Some n) = cut (n.own + sum_by width n.exposed.items)

-- a function gives each name the width at its node
abbrev pub IsWidthOf : BTreeMap Name Node → (Name → ℕ) → Type 0
IsWidthOf graph width = (f : Name) → width f ≡ width_at width (get name_cmp graph f)

-- paths from the name end, and the number is what any such function gives it
abbrev pub HasWidth : BTreeMap Name Node → Name → ℕ → Type 0
HasWidth graph f n = PathsEnd graph f × ((width : Name → ℕ) → IsWidthOf graph width → n ≡ width f)

-- so it is with each of the numbers
abbrev pub HaveWidths : BTreeMap Name Node → BTreeMap Name ℕ → Type 0
HaveWidths graph widths = (f : Name) (n : ℕ) → get name_cmp widths f ≡ Some n → HasWidth graph f n

-- from each name of the set a path leads to the name
abbrev pub AllReach : BTreeMap Name Node → BTreeSet Name → Name → Type 0
AllReach graph names g = (f : Name) → contains name_cmp names f ≡ true → Reaches graph f g

-- two sets have the same names, and as many
pub record HaveSameNames (old new : BTreeSet Name) : Type 0 where
  pub same : (f : Name) → contains name_cmp new f ≡ contains name_cmp old f
  pub as_many : length new.keys ≡ length old.keys

-- the list is a cycle of the graph that begins with the name
abbrev pub IsCycleFrom : BTreeMap Name Node → Name → List Name → Type 0
IsCycleFrom graph f cycle = (others : List Name) × (cycle ≡ f ∷ others) × IsCycle (HasEdge graph) (f ∷ others)

-- the list is a cycle of the graph, and begins with the first of the templates that lies on one
abbrev pub IsFirstCycleIn : BTreeMap Name Node → List Template → List Name → Type 0
IsFirstCycleIn graph templates cycle = IsFirstOf (HasEdge graph) (map (λ t. t.name) templates) cycle

-- the set has exactly the names that lie on cycles of the graph
abbrev pub AreOnCycles : BTreeMap Name Node → BTreeSet Name → Type 0
AreOnCycles graph names = (f : Name) → IsTrue (contains name_cmp names f) ↔ LiesOnCycle (HasEdge graph) f
