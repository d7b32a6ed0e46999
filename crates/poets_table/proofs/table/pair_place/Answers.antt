use Rattle.std.proofs.Common.{◌≡◌, ◌+◌, ◌-◌, ◌∙◌, ap, arith, nat_eq, subst, sym}
use Rattle.poets_table.specs.code.Rows.{left_ahead}
use Rattle.poets_table.proofs.Logs.{IsAhead, ahead-first, ahead-within, pair-ahead, pair-here}
use Rattle.poets_table.proofs.table.pair_place.Goals as goal

pub loop-at-init : goal.loop-at-init
loop-at-init c = ahead-first c.args.number c.args.behind c.args.log.now c.requires

pub loop-at-preserved : goal.loop-at-preserved
loop-at-preserved c =
    let n = c.args.number in
    let log = c.args.log.now in
    let p = c.index-log-at.result in
    let some = c.loop-at-test.true in
    let within = c.loop-at.auto.at in
    let next : c.loop-at.at - 1 + 1 ≡ c.loop-at.at = omega (arith, some) in
    let so_far = subst (λ k. IsAhead n c.args.behind c.loop-at.left k log) (sym next) c.loop-at.invariant in
    let rest = sym c.in-Some.is ∙ c.left_ahead.ensures ∙ ap (λ q. left_ahead (nat_eq q.0 n) c.loop-at.left) (sym c.index-log-at.is) in
    pair-ahead n c.args.behind c.loop-at.left c.in-Some.rest (c.loop-at.at - 1) p log so_far (omega (arith, some, within)) c.index-log-at.is rest

pub returns-in_default : goal.returns-in_default
returns-in_default c =
    let n = c.args.number in
    let log = c.args.log.now in
    let p = c.index-log-at.result in
    let some = c.loop-at-test.true in
    let within = c.loop-at.auto.at in
    let next : c.loop-at.at - 1 + 1 ≡ c.loop-at.at = omega (arith, some) in
    let so_far = subst (λ k. IsAhead n c.args.behind c.loop-at.left k log) (sym next) c.loop-at.invariant in
    let here = sym c.in_default.is ∙ c.left_ahead.ensures ∙ ap (λ q. left_ahead (nat_eq q.0 n) c.loop-at.left) (sym c.index-log-at.is) in
    pair-here n c.args.behind c.loop-at.left (c.loop-at.at - 1) p log so_far (omega (arith, some, within)) c.index-log-at.is here

pub unreachable-requires : goal.unreachable-requires
unreachable-requires c =
    let none = c.loop-at-test.false in
    let first : c.loop-at.at ≡ 0 = omega (arith, none) in
    ahead-within c.args.number c.args.behind c.loop-at.left c.args.log.now (subst (λ k. IsAhead c.args.number c.args.behind c.loop-at.left k c.args.log.now) first c.loop-at.invariant)
