-- What a visit of the graph leaves: open and closed names, and those on cycles.
use Rattle.std.specs.Prelude.{◌≡◌, ℕ, ◌+◌, ◌≤◌, ◌⊎◌, true, cond, [], ◌∷◌, ◌++◌, length, take, Some}
use Rattle.std.specs.Prelude.{None, IsSome}
use Rattle.std.specs.Prelude.{slice_get}
use Rattle.std.specs.Ordering.{is_eq}
use Rattle.std.specs.BTreeMap.{BTreeMap, get}
use Rattle.std.specs.BTreeSet.{contains}
use Rattle.poets_value.specs.declared.value.Name.{Name}
use Rattle.poets_value.specs.Names.{name_cmp}
use Rattle.poets_guard.specs.declared.graph.Node.{Node}
use Rattle.poets_guard.specs.declared.visits.Visits.{Visits}
use Rattle.poets_guard.specs.code.Graph.{HasEdge}
use Rattle.poets_guard.specs.code.Walks.{Reaches}
use Rattle.poets_guard.specs.FirstCycle.{LiesOnCycle}

-- the name is open at this height
abbrev pub IsOpenAt : Visits → ℕ → Name → Type 0
IsOpenAt visits k f = slice_get visits.stack.items k ≡ Some f

-- the name is among those on cycles
abbrev pub IsOnCycle : Visits → Name → Type 0
IsOnCycle visits f = contains name_cmp visits.on_cycles f ≡ true

-- no name was put among those on cycles but this one, and this one only where P holds
abbrev pub AddsOnlyIf : Type 0 → Name → (old new : Visits) → Type 0
AddsOnlyIf P name old new = (f : Name) → IsOnCycle new f → IsOnCycle old f ⊎ (P × (name ≡ f))

-- each open name leads to the name
abbrev pub AllLead : BTreeMap Name Node → Visits → Name → Type 0
AllLead graph visits g = (k : ℕ) (f : Name) → IsOpenAt visits k f → Reaches graph f g

-- the name has no node, or it was visited, and if it is open, then at this height or above
abbrev pub IsFrom : BTreeMap Name Node → Visits → (least : ℕ) → Name → Type 0
IsFrom graph visits least f =
    (get name_cmp graph f ≡ None)
    ⊎ ((k : ℕ) × (get name_cmp visits.heights f ≡ Some k) × (IsOpenAt visits k f → least ≤ k))

-- so it is with each name to which an edge leads
abbrev pub LeadsFrom : BTreeMap Name Node → Visits → (least : ℕ) → Name → Type 0
LeadsFrom graph visits least f = (g : Name) → HasEdge graph f g → IsFrom graph visits least g

-- the name was visited, and is not open
abbrev pub IsClosed : Visits → Name → Type 0
IsClosed visits f = (k : ℕ) × (get name_cmp visits.heights f ≡ Some k) × ¬ (IsOpenAt visits k f)

-- the name leads to closed names alone, and is among those on cycles or lies on none
abbrev pub IsDone : BTreeMap Name Node → Visits → Name → Type 0
IsDone graph visits f =
    ((least : ℕ) → LeadsFrom graph visits least f)
    × ((contains name_cmp visits.on_cycles f ≡ true) ⊎ ¬ (LiesOnCycle (HasEdge graph) f))

-- closed names are done, and those among the ones on cycles are
pub record AreRight (graph : BTreeMap Name Node) (visits : Visits) : Type 0 where
  pub have_nodes : (f : Name) → IsSome (get name_cmp visits.heights f) → IsSome (get name_cmp graph f)
  pub done : (f : Name) → IsClosed visits f → IsDone graph visits f
  pub sound : (f : Name) → contains name_cmp visits.on_cycles f ≡ true → LiesOnCycle (HasEdge graph) f

-- what was visited stays as it was, and others are open above it
pub record AreGrown (old new : Visits) : Type 0 where
  pub kept : (f : Name) (k : ℕ) → get name_cmp old.heights f ≡ Some k → get name_cmp new.heights f ≡ Some k
  pub stack : take (length old.stack.items) new.stack.items ≡ old.stack.items
  pub fresh : (k : ℕ) (f : Name) → length old.stack.items ≤ k → IsOpenAt new k f → get name_cmp old.heights f ≡ None
  pub still : (f : Name) → contains name_cmp old.on_cycles f ≡ true → contains name_cmp new.on_cycles f ≡ true
  pub as_many : length old.heights.entries ≤ length new.heights.entries

-- those that are open above lie on cycles, lead to open names from the least height on, and to what
-- the others lead to
pub record AreOpened (graph : BTreeMap Name Node) (least : ℕ) (old new : Visits) : Type 0 where
  pub grown : AreGrown old new
  pub above : (k : ℕ) (f : Name) → length old.stack.items ≤ k → IsOpenAt new k f →
      (contains name_cmp new.on_cycles f ≡ true) × LeadsFrom graph new least f
  pub back : (f : Name) → AllLead graph old f → AllLead graph new f
  pub right : AreRight graph new

-- the name was visited, and leads to open names from the least height on, and to that there
pub record IsVisited (graph : BTreeMap Name Node) (f : Name) (least : ℕ) (old new : Visits) : Type 0 where
  pub opened : AreOpened graph least old new
  pub here : IsFrom graph new least f
  pub way : (g : Name) → IsOpenAt old least g → (f ≡ g) ⊎ Reaches graph f g

-- the name was put on the stack at this height
pub record IsPushed (f : Name) (height : ℕ) (old new : Visits) : Type 0 where
  pub top : height ≡ length old.stack.items
  pub fresh : get name_cmp old.heights f ≡ None
  pub heights : (g : Name) →
      get name_cmp new.heights g ≡ cond (is_eq (name_cmp f g)) (Some height) (get name_cmp old.heights g)
  pub stack : new.stack.items ≡ old.stack.items ++ f ∷ []
  pub on_cycles : new.on_cycles ≡ old.on_cycles
  pub as_many : length new.heights.entries ≡ length old.heights.entries + 1
