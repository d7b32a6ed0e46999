use Rattle.std.proofs.Common.{◌++◌, ◌∷◌, [], arith, length, take, subst, sym}
use Rattle.std.specs.Prelude.{remove}
use Rattle.std.specs.List.{AllZip}
use Rattle.poets_live.specs.Watching.{asked_without}
use Rattle.poets_live.specs.code.Watches.{IsLed}
use Rattle.poets_live.proofs.Leading.{next-item, sum-next, sum-within, zip-more}
use Rattle.poets_live.proofs.watches.all_without.Goals as goal

pub returns-in_err-step-clause-asks : goal.returns-in_err-step-clause-asks
returns-in_err-step-clause-asks g c =
    let most = sum-within (asked_without (length c.args.log.now) c.args.place) (λ s. s.watch) c.args.watches.now c.loop-watch.watch-index c.watch-item.result c.loop-watch-test.true c.watch-item.is in
    let here = c.without.ensures.asks in
    let so_far = c.loop-watch.invariant.asks in
    omega (arith, most, here, so_far)

pub returns-in_err-push-clause-asks : goal.returns-in_err-push-clause-asks
returns-in_err-push-clause-asks g c =
    let most = sum-within (asked_without (length c.args.log.now) c.args.place) (λ s. s.watch) c.args.watches.now c.loop-watch.watch-index c.watch-item.result c.loop-watch-test.true c.watch-item.is in
    let here = c.without.ensures.asks in
    let so_far = c.loop-watch.invariant.asks in
    omega (arith, most, here, so_far)

pub loop-watch-preserved : goal.loop-watch-preserved
loop-watch-preserved g c =
    let P = IsLed c.args.decls.now (remove c.args.log.now c.args.place) in
    let i = c.loop-watch.watch-index in
    let xs = c.args.watches.now in
    let item = c.watch-item.result in
    let step = c.in_ok-step.step in
    let more = zip-more P (take i xs) c.loop-watch.moves.items item step c.loop-watch.invariant.led (c.in_ok-step.ensures.leads, c.in_ok-step.ensures.room) in
    let sum = sum-next (asked_without (length c.args.log.now) c.args.place) (λ s. s.watch) xs i item c.loop-watch-test.true c.watch-item.is in
    let here = c.without.ensures.asks in
    let so_far = c.loop-watch.invariant.asks in
    let rises = c.without.ensures.rises in
    let rose = c.loop-watch.invariant.rises in
    record {
      led = subst (λ ys. AllZip P ys c.push.new.list.items) (sym (next-item xs i item c.loop-watch-test.true c.watch-item.is))
          (subst (λ zs. AllZip P (take i xs ++ item ∷ []) zs) (sym c.in_ok-push.ensures.items) more);
      asks = omega (arith, sum, here, so_far);
      rises = omega (arith, rises, rose);
    }
