-- Ways in a table.
use Rattle.std.specs.Prelude.{ℕ, zero, suc, ◌<◌, Bool, List, [], ◌∷◌, ◌++◌, length, refl}
use Rattle.std.specs.Prelude.{if◌then◌else◌}
use Rattle.std.specs.List.{slice_index_or}
use Rattle.std.specs.Coded.{Coded, code_by, coded×, coded_bool, coded_list}
use Rattle.poets_way.specs.Way.{Way}
use Rattle.poets_way.specs.Way as W
use Rattle.poets_way.specs.Coding.{coded_way}
use Rattle.poets_way.specs.declared.node.Node.{Node}
use Rattle.poets_way.specs.declared.node.Node.TheVariants as N
use Rattle.poets_way.specs.declared.node.Side.{Side}

-- ways, and lists of sides, each with its place as its number
pub record TrailsView : Type 0 where
  pub ways : List Way
  pub sides : List (List Bool)

-- tables are stored as pairs
abbrev pub coded_trails : Coded TrailsView
coded_trails =
    code_by (List Way × List (List Bool)) (coded× (coded_list coded_way) (coded_list (coded_list coded_bool)))
    (λ t. (t.ways, t.sides)) (λ p. record { ways = p.0; sides = p.1 }) (λ _. refl)

-- the way with a number; `Nothing` past the end
abbrev pub way_at : TrailsView → ℕ → Way
way_at t n = slice_index_or t.ways n W.Nothing

-- the list of sides with a number; the empty one past the end
abbrev pub sides_at : TrailsView → ℕ → List Bool
sides_at t n = slice_index_or t.sides n []

-- how many of the sides are second ones
abbrev pub seconds : List Bool → ℕ
seconds [] = zero
seconds (second ∷ sides) = if second then suc (seconds sides) else seconds sides

-- the table with one more way, whose number is how many there were before
abbrev pub with_way : TrailsView → Way → TrailsView
with_way t w = record { ways = t.ways ++ w ∷ []; sides = t.sides }

-- the table with one more list of sides, whose number is how many there were before
abbrev pub with_sides : TrailsView → List Bool → TrailsView
with_sides t sides = record { ways = t.ways; sides = t.sides ++ sides ∷ [] }

-- the way of a node, by the ways and the sides with the numbers that it names
abbrev pub way_of_node : TrailsView → Node → Way
way_of_node t N.Nothing = W.Nothing
way_of_node t (N.Enter w) = W.Enter (way_at t w)
way_of_node t (N.Take w) = W.Take (way_at t w)
way_of_node t (N.Left w) = W.Left (way_at t w)
way_of_node t (N.Right w) = W.Right (way_at t w)
way_of_node t (N.Both sides v u) = W.Both (sides_at t sides) (way_at t v) (way_at t u)
way_of_node t (N.Then n v u) = W.Then n (way_at t v) (way_at t u)

-- the table with one more way, that of a node
abbrev pub with_node : TrailsView → Node → TrailsView
with_node t node = with_way t (way_of_node t node)

-- the lists of rows of sides, after those that are there: each row puts a side in front of an
-- earlier list
abbrev pub grown_sides : List (List Bool) → List Side → List (List Bool)
grown_sides lists [] = lists
grown_sides lists (s ∷ rows) = grown_sides (lists ++ (s.second ∷ slice_index_or lists s.rest []) ∷ []) rows

-- the lists of the rows; number 0 is the empty list
abbrev pub sides_of : List Side → List (List Bool)
sides_of rows = grown_sides ([] ∷ []) rows

-- the table with the ways of further nodes, each of parts before it
abbrev pub grown : TrailsView → List Node → TrailsView
grown t [] = t
grown t (n ∷ nodes) = grown (with_node t n) nodes

-- the ways of the nodes, and the lists of the rows
abbrev pub trails_of : List Node → List Side → TrailsView
trails_of nodes rows = grown (record { ways = []; sides = sides_of rows }) nodes

-- the node names ways below one number, and sides below another
abbrev pub NamesBelow : (ways sides : ℕ) → Node → Type 0
NamesBelow ways sides N.Nothing = Unit {0}
NamesBelow ways sides (N.Enter w) = w < ways
NamesBelow ways sides (N.Take w) = w < ways
NamesBelow ways sides (N.Left w) = w < ways
NamesBelow ways sides (N.Right w) = w < ways
NamesBelow ways sides (N.Both s v u) = (s < sides) × (v < ways) × (u < ways)
NamesBelow ways sides (N.Then n v u) = (v < ways) × (u < ways)

-- the node names ways before a number, and sides that are there
abbrev pub NamesEarlier : TrailsView → ℕ → Node → Type 0
NamesEarlier t n node = NamesBelow n (length t.sides) node
