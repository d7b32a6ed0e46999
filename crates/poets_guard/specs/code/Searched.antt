-- What a search for a path leaves.
use Rattle.std.specs.Prelude.{◌≡◌, ◌≢◌, ◌≤◌, ◌⊎◌, true, List, ◌∷◌, ◌++◌, length, map, None, IsSome}
use Rattle.std.specs.BTreeMap.{BTreeMap, get}
use Rattle.std.specs.BTreeSet.{BTreeSet, contains}
use Rattle.poets_value.specs.declared.value.Name.{Name}
use Rattle.poets_value.specs.Names.{name_cmp}
use Rattle.poets_syntax.specs.declared.term.Template.{Template}
use Rattle.poets_syntax.specs.Typed.{is_among}
use Rattle.poets_meaning.specs.Guarded.{IsPath}
use Rattle.poets_guard.specs.declared.graph.Node.{Node}
use Rattle.poets_guard.specs.code.Graph.{HasEdge}

-- each name of the set has a node
abbrev pub HaveNodes : BTreeMap Name Node → BTreeSet Name → Type 0
HaveNodes graph names = (f : Name) → contains name_cmp names f ≡ true → IsSome (get name_cmp graph f)

-- the name was seen, or has no node
abbrev pub IsSeen : BTreeMap Name Node → BTreeSet Name → Name → Type 0
IsSeen graph seen f = (contains name_cmp seen f ≡ true) ⊎ (get name_cmp graph f ≡ None)

-- each edge from the name leads to a seen one, and not to the goal
abbrev pub IsPassed : BTreeMap Name Node → (goal : Name) → BTreeSet Name → Name → Type 0
IsPassed graph goal seen f = (g : Name) → HasEdge graph f g → IsSeen graph seen g × (g ≢ goal)

-- a search added names: those that it saw are passed
pub record IsSearching (graph : BTreeMap Name Node) (goal : Name) (old new : BTreeSet Name) : Type 0 where
  pub kept : (f : Name) → contains name_cmp old f ≡ true → contains name_cmp new f ≡ true
  pub passed : (f : Name) → contains name_cmp new f ≡ true →
      (contains name_cmp old f ≡ true) ⊎ IsPassed graph goal new f
  pub have_nodes : HaveNodes graph new
  pub as_many : length old.keys ≤ length new.keys

-- the search from the name ended without a path to the goal
abbrev pub IsSearched : BTreeMap Name Node → (goal from : Name) → (old new : BTreeSet Name) → Type 0
IsSearched graph goal from old new = IsSeen graph new from × IsSearching graph goal old new

-- the path goes on from the name to the goal
abbrev pub LeadsOn : BTreeMap Name Node → (goal from : Name) → (old new : List Name) → Type 0
LeadsOn graph goal from old new =
    (names : List Name) × (new ≡ old ++ from ∷ names) × IsPath (HasEdge graph) from names goal

-- each name with a node is that of a template
abbrev pub HasNodesOf : BTreeMap Name Node → List Template → Type 0
HasNodesOf graph templates =
    (f : Name) → IsSome (get name_cmp graph f) → is_among (map (λ t. t.name) templates) f ≡ true
