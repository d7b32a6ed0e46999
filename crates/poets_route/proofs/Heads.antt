-- Ways that have another head.
use Rattle.std.proofs.Common.{◌≡◌, ◌≤◌, ℕ, refl, subst}
use Rattle.poets_way.specs.Way.{Way}
use Rattle.poets_way.specs.Trails.{TrailsView, way_of_node}
use Rattle.poets_way.specs.declared.node.Node.{Node}
use Rattle.poets_way.specs.declared.node.Node.TheVariants as N
use Rattle.poets_route.specs.code.Reading.{IsTake, IsThen}

module _ (t : TrailsView) where
  pub take_none : (node : Node) (w : Way) → w ≡ way_of_node t node → ((p : ℕ) → node ≡ N.Take p → ⊥) → IsTake w → ⊥
  take_none N.Nothing w e other h = elim (subst IsTake e h) [ ]
  take_none (N.Enter p) w e other h = elim (subst IsTake e h) [ ]
  take_none (N.Take p) w e other h = other p refl
  take_none (N.Left p) w e other h = elim (subst IsTake e h) [ ]
  take_none (N.Right p) w e other h = elim (subst IsTake e h) [ ]
  take_none (N.Both s p q) w e other h = elim (subst IsTake e h) [ ]
  take_none (N.Then m p q) w e other h = elim (subst IsTake e h) [ ]

  counted : (n m : ℕ) (v u : Way) → IsThen n (Way.Then m v u) → m ≤ n
  counted n m v u (IsThen.Then h) = h
