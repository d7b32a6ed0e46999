use Rattle.std.proofs.Common.{◌∙◌, ◌++◌, ap, [], ◌∷◌}
use Rattle.poets_way.specs.Trails.{sides_at, with_sides}
use Rattle.poets_route.proofs.Regrouping.{regrouping_start, regrouping_last, regrouping_second, regrouping_first, regrouping_done, regrouping_broken}
use Rattle.poets_route.proofs.sides.regroup.Goals.{in-Some+else-is_last+in_default-pop, in_default}
use Rattle.poets_route.proofs.sides.regroup.Goals as goal

pub loop-is_last-init : goal.loop-is_last-init
loop-is_last-init c =
    regrouping_start c.args.trails.now c.in_ok-last.last.items c.in_ok-second.second.items c.no_sides-outer.result
    c.no_sides-outer.ensures.within c.no_sides-outer.ensures.sides

pub loop-is_last-preserved-then-is_last : goal.loop-is_last-preserved-then-is_last
loop-is_last-preserved-then-is_last c =
    let l = c.loop-is_last in
    let rest = c.pop.new.self.items in
    regrouping_last c.args.trails.now l.trails c.side.new.self c.side-then-is_last.new.self c.in_ok-last.last.items c.in_ok-second.second.items
    l.last.items l.second.items l.outer l.inner c.in_ok-outer.outer c.in_ok-inner.inner rest l.invariant
    (c.in-Some.ensures.some ∙ ap (λ b. rest ++ b ∷ []) c.if-is_last.true)
    c.in_ok-outer.ensures.number c.in_ok-outer.ensures.ok c.in_ok-inner.ensures.number c.in_ok-inner.ensures.ok

pub loop-is_last-preserved-then-is_second : goal.loop-is_last-preserved-then-is_second
loop-is_last-preserved-then-is_second c =
    let l = c.loop-is_last in
    let rest = c.pop.new.self.items in
    let rest' = c.pop-in-Some.new.self.items in
    regrouping_second c.args.trails.now l.trails c.side-in-Some.new.self c.side-then-is_second.new.self c.in_ok-last.last.items
    c.in_ok-second.second.items l.last.items l.second.items l.outer l.inner c.in_ok-outer-2.outer c.in_ok-inner-2.inner rest rest' l.invariant
    (c.in-Some.ensures.some ∙ ap (λ b. rest ++ b ∷ []) c.if-is_last.false) (c.in-Some-pop.ensures.some ∙ ap (λ b. rest' ++ b ∷ []) c.if-is_second.true)
    c.in_ok-outer-2.ensures.number (c.in_ok-outer-2.ensures.ok ∙ ap (λ b. with_sides l.trails (b ∷ sides_at l.trails l.outer)) c.if-is_second.true)
    c.in_ok-inner-2.ensures.number c.in_ok-inner-2.ensures.ok

pub loop-is_last-preserved : goal.loop-is_last-preserved
loop-is_last-preserved c =
    let l = c.loop-is_last in
    let rest = c.pop.new.self.items in
    let rest' = c.pop-in-Some.new.self.items in
    regrouping_first c.args.trails.now l.trails c.in_ok-last.last.items c.in_ok-second.second.items l.last.items l.second.items l.outer l.inner
    l.invariant c.side-in-Some.new.self c.in_ok-outer-2.outer rest rest'
    (c.in-Some.ensures.some ∙ ap (λ b. rest ++ b ∷ []) c.if-is_last.false) (c.in-Some-pop.ensures.some ∙ ap (λ b. rest' ++ b ∷ []) c.if-is_second.false)
    c.in_ok-outer-2.ensures.number (c.in_ok-outer-2.ensures.ok ∙ ap (λ b. with_sides l.trails (b ∷ sides_at l.trails l.outer)) c.if-is_second.false)

pub returns : goal.returns
returns c =
    let l = c.loop-is_last in
    elim c.match-pop.branch [
      | in-Some+else-is_last+in_default-pop w ↦ regrouping_broken c.args.trails.now l.trails c.in_ok-last.last.items c.in_ok-second.second.items
          l.last.items l.second.items l.outer l.inner l.invariant c.pop.new.self.items c.args.last c.args.second
          (w.in-Some.ensures.some ∙ ap (λ b. c.pop.new.self.items ++ b ∷ []) w.if-is_last.false) w.in_default-pop.ensures.none.0
          c.in_ok-last.ensures c.in_ok-second.ensures
      | in_default w ↦ regrouping_done c.args.trails.now l.trails c.in_ok-last.last.items c.in_ok-second.second.items l.last.items
          l.second.items l.outer l.inner l.invariant c.args.last c.args.second w.in_default.ensures.none.0 c.in_ok-last.ensures c.in_ok-second.ensures
    ]
