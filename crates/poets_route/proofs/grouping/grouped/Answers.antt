use Rattle.std.proofs.Common.{◌≡◌, Bool, List, refl}
use Rattle.poets_way.specs.Way.{Way}
use Rattle.poets_way.specs.Way as W
use Rattle.poets_way.specs.Trails.{way_at, sides_at}
use Rattle.poets_way.specs.declared.node.Node.TheVariants as N
use Rattle.poets_route.specs.code.Grouping.{IsGroupedRight}
use Rattle.poets_route.proofs.Made.{node_made, made_node, way_later, sides_later, grew_not}
use Rattle.poets_route.proofs.grouping.grouped.Goals as goal

right_is : {os om ol is im : List Bool} {p pl w q qm r rm : Way} → om ≡ os → im ≡ is → ol ≡ om → pl ≡ p → w ≡ W.Both im qm rm → qm ≡ q → rm ≡ r →
    W.Both ol pl w ≡ W.Both os p (W.Both is q r)
right_is a b c d e f g = cc

pub returns : goal.returns
returns c =
    let old = c.args.trails.now in
    let mid = c.regroup.new.trails in
    let late = c.both.new.self in
    let g = c.in_ok-outer.ensures in
    let outer = c.in_ok-outer.outer in
    let inner = c.in_ok-outer.inner in
    let rest = W.Both (sides_at mid inner) (way_at mid c.args.b) (way_at mid c.args.c) in
    let k = made_node {t = old} {u = mid} {v = late} {r = c.in_ok-others.others} (N.Both inner c.args.b c.args.c) (λ w. w ≡ rest) g.grew c.in_ok-others.ensures.number c.in_ok-others.ensures.ok refl in
    let l = made_node {t = mid} {u = mid} {v = late} {r = c.in_ok-others.others} (N.Both inner c.args.b c.args.c) (λ w. w ≡ rest) (grew_not mid) c.in_ok-others.ensures.number c.in_ok-others.ensures.ok refl in
    node_made old late c.both-2.new.self c.both-2.result (N.Both outer c.args.a c.in_ok-others.others)
    (IsGroupedRight (sides_at old c.args.last) (sides_at old c.args.second) (way_at old c.args.a) (way_at old c.args.b) (way_at old c.args.c))
    k.grew c.both-2.ensures.number c.both-2.ensures.ok
    (λ fit. right_is (g.sides fit).0 (g.sides fit).1 (sides_later l.grew outer g.first_within) (way_later k.grew c.args.a c.requires.a)
    k.made (way_later g.grew c.args.b c.requires.b) (way_later g.grew c.args.c c.requires.c))
