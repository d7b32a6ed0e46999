use Rattle.std.proofs.Common.{rules, ◌≡◌, ◌∙◌, arith, length, subst}
use Rattle.poets_expr.specs.Env.{declared_of}
use Rattle.poets_live.specs.Watching.{IsSeen}
use Rattle.poets_live.proofs.Places.{UpTo, set_alike, kept_up_to, place_more, all_places}
use Rattle.poets_live.proofs.watches.see_all.Goals as goal

pub returns-in_err-step-clause-same : goal.returns-in_err-step-clause-same
returns-in_err-step-clause-same g c =
    set_alike (λ s. s.watch) c.loop-place.place c.loop-place.watches.items c.index_mut.result.now c.see.new.self (search rules) c.index_mut.ensures.value c.see.ensures.same
    ∙ kept_up_to (IsSeen (declared_of c.args.decls.now.names) c.args.event.now) (λ s. s.watch) (λ x y z h. h.same) c.loop-place.place c.args.watches.now.items c.loop-place.watches.items c.loop-place.moves.items c.loop-place.invariant.seen

pub returns-in_err-push-clause-same : goal.returns-in_err-push-clause-same
returns-in_err-push-clause-same g c =
    set_alike (λ s. s.watch) c.loop-place.place c.loop-place.watches.items c.index_mut.result.now c.see.new.self (search rules) c.index_mut.ensures.value c.see.ensures.same
    ∙ kept_up_to (IsSeen (declared_of c.args.decls.now.names) c.args.event.now) (λ s. s.watch) (λ x y z h. h.same) c.loop-place.place c.args.watches.now.items c.loop-place.watches.items c.loop-place.moves.items c.loop-place.invariant.seen

pub loop-place-preserved : goal.loop-place-preserved
loop-place-preserved g c = record {
  seen = place_more (IsSeen (declared_of c.args.decls.now.names) c.args.event.now) c.loop-place.place c.args.watches.now.items c.loop-place.watches.items c.loop-place.moves.items
      c.loop-place.invariant.seen (search rules) c.push.new.list.items c.index_mut.result.now c.see.new.self c.in_ok-step.step c.index_mut.ensures.value
      (record { same = c.see.ensures.same; brought = c.in_ok-step.ensures.brings; room = c.in_ok-step.ensures.room }) c.in_ok-push.ensures.items;
  asks = let h = c.loop-place.invariant.asks in let k = c.see.ensures.asks in omega (arith, h, k);
  rises = let h = c.loop-place.invariant.rises in let k = c.see.ensures.rises in omega (arith, h, k);
}

pub returns-clause-same : goal.returns-clause-same
returns-clause-same g c =
    kept_up_to (IsSeen (declared_of c.args.decls.now.names) c.args.event.now) (λ s. s.watch) (λ x y z h. h.same) c.loop-place.place c.args.watches.now.items c.loop-place.watches.items c.loop-place.moves.items c.loop-place.invariant.seen

pub returns-clause-seen : goal.returns-clause-seen
returns-clause-seen g c =
    let all : c.loop-place.place ≡ length c.args.watches.now.items = search rules in
    let P = IsSeen (declared_of c.args.decls.now.names) c.args.event.now in
    all_places P c.args.watches.now.items c.loop-place.watches.items c.loop-place.moves.items
    (subst (λ n. UpTo P n c.args.watches.now.items c.loop-place.watches.items c.loop-place.moves.items) all c.loop-place.invariant.seen)
