-- The table of ways as it is kept: nodes, and sides whose rest is a list with a smaller number.
use Rattle.std.specs.Prelude.{◌≡◌, ℕ, ◌+◌, ◌<◌, ◌≤◌, Bool, List, [], ◌∷◌, ◌++◌, length}
use Rattle.std.specs.List.{slice_index_or}
use Rattle.poets_way.specs.Moves.{Move, moves_of}
use Rattle.poets_way.specs.Moves as M
use Rattle.poets_way.specs.declared.node.Node.{Node}
use Rattle.poets_way.specs.declared.node.Side.{Side}
use Rattle.poets_way.specs.declared.node.Node.TheVariants as N
use Rattle.poets_way.specs.Trails.{TrailsView, seconds, way_at, NamesBelow}

-- each row's rest is an earlier list; the first row's list has the given number
abbrev pub RestsAreEarlier : ℕ → List Side → Type 0
RestsAreEarlier n [] = Unit {0}
RestsAreEarlier n (s ∷ rows) = (s.rest < n) × RestsAreEarlier (n + 1) rows

-- each node names earlier ways, and sides below a number; the first node's way has the given number
abbrev pub NodesAreEarlier : (way sides : ℕ) → List Node → Type 0
NodesAreEarlier n k [] = Unit {0}
NodesAreEarlier n k (node ∷ nodes) = NamesBelow n k node × NodesAreEarlier (n + 1) k nodes

-- each row says how many of its list are second ones; the lists before the first row are given
abbrev pub HaveCounts : List (List Bool) → List Side → Type 0
HaveCounts lists [] = Unit {0}
HaveCounts lists (s ∷ rows) =
    (s.seconds ≡ seconds (s.second ∷ slice_index_or lists s.rest []))
    × HaveCounts (lists ++ (s.second ∷ slice_index_or lists s.rest []) ∷ []) rows

-- each node and each row names earlier ones alone, and each row has its count
abbrev pub IsTable : List Node → List Side → Type 0
IsTable nodes rows =
    NodesAreEarlier 0 (length rows + 1) nodes × (RestsAreEarlier 1 rows × HaveCounts ([] ∷ []) rows)

-- the node's list of sides, if it has one, is below a number, or that number itself
abbrev pub HasSides : ℕ → Node → Type 0
HasSides n (N.Both sides v u) = sides ≤ n
HasSides n _ = Unit {0}

-- the head of a node, with sides from a list of them
abbrev pub head_of : List (List Bool) → Node → Move
head_of lists N.Nothing = M.Nothing
head_of lists (N.Enter w) = M.Enter
head_of lists (N.Take w) = M.Take
head_of lists (N.Left w) = M.Left
head_of lists (N.Right w) = M.Right
head_of lists (N.Both sides v u) = M.Both (slice_index_or lists sides [])
head_of lists (N.Then n v u) = M.Then n

-- the numbers of the node's parts
abbrev pub parts_of : Node → List ℕ
parts_of N.Nothing = []
parts_of (N.Enter w) = w ∷ []
parts_of (N.Take w) = w ∷ []
parts_of (N.Left w) = w ∷ []
parts_of (N.Right w) = w ∷ []
parts_of (N.Both sides v u) = v ∷ u ∷ []
parts_of (N.Then n v u) = v ∷ u ∷ []

-- the moves of the ways with these numbers, one after the other
abbrev pub moves_at : TrailsView → List ℕ → List Move
moves_at t [] = []
moves_at t (n ∷ numbers) = moves_of (way_at t n) ++ moves_at t numbers
