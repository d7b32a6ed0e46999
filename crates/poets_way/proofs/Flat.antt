-- The moves of ways in a table.
use Rattle.std.proofs.Common.{◌≡◌, ℕ, ◌+◌, ◌<◌, ◌≤◌, arith, List, [], ◌∷◌, ◌++◌, get_or, refl, ap, append_assoc}
use Rattle.std.specs.List.{AllByRecursion}
use Rattle.poets_way.specs.Moves.{moves_of}
use Rattle.poets_way.specs.Moves as M
use Rattle.poets_way.specs.Trails.{TrailsView, way_at, way_of_node, NamesBelow}
use Rattle.poets_way.specs.code.Table.{head_of, moves_at, parts_of}
use Rattle.poets_way.specs.declared.node.Node.{Node}
use Rattle.poets_way.specs.declared.node.Node.TheVariants as N

-- the head of a way, and then its parts, ahead of the others
pub moves-parts : (t : TrailsView) (node : Node) (rest : List ℕ) →
    moves_of (way_of_node t node) ++ moves_at t rest ≡ head_of t.sides node ∷ moves_at t (parts_of node ++ rest)
moves-parts t N.Nothing rest = refl
moves-parts t (N.Enter w) rest = refl
moves-parts t (N.Take w) rest = refl
moves-parts t (N.Left w) rest = refl
moves-parts t (N.Right w) rest = refl
moves-parts t (N.Both s v u) rest =
    ap (λ ms. M.Both (get_or t.sides s []) ∷ ms) (append_assoc (moves_of (way_at t v)) (moves_of (way_at t u)) (moves_at t rest))
moves-parts t (N.Then n v u) rest = ap (λ ms. M.Then n ∷ ms) (append_assoc (moves_of (way_at t v)) (moves_of (way_at t u)) (moves_at t rest))

-- the parts of a node that names what is there are there
pub parts-within : (n k m : ℕ) (node : Node) (rest : List ℕ) → NamesBelow n k node → n ≤ m → AllByRecursion (λ i. i < m) rest →
    AllByRecursion (λ i. i < m) (parts_of node ++ rest)
parts-within n k m N.Nothing rest h l all = all
parts-within n k m (N.Enter w) rest h l all = (omega (arith, h, l), all)
parts-within n k m (N.Take w) rest h l all = (omega (arith, h, l), all)
parts-within n k m (N.Left w) rest h l all = (omega (arith, h, l), all)
parts-within n k m (N.Right w) rest h l all = (omega (arith, h, l), all)
parts-within n k m (N.Both s v u) rest h l all = (omega (arith, h.1, l), (omega (arith, h.2, l), all))
parts-within n k m (N.Then c v u) rest h l all = (omega (arith, h.0, l), (omega (arith, h.1, l), all))
