use Rattle.std.proofs.Common.{rules, ◌≡◌, ◌+◌, ◌++◌, ◌∷◌, [], slice_index_or, slice_set, refl, sym, ◌∙◌, length, arith, subst}
use Rattle.std.proofs.lemmas.Iterator.Adapters.{YieldsList-from_vec}
use Rattle.std.proofs.lemmas.Iterator.Consumers.{YieldsList-turn, YieldsList-end}
use Rattle.std.proofs.lemmas.List.{map-id, length-append}
use Rattle.poets_live.specs.Watching.{HasRoomIn}
use Rattle.poets_live.proofs.Following.{Took}
use Rattle.poets_live.proofs.Places.{UpTo, at_place, at_three, next_place, one_length, below, place_more, all_places}
use Rattle.poets_live.proofs.watches.take_all.Goals as goal

pub index_mut-requires : goal.index_mut-requires
index_mut-requires c =
    let turn = YieldsList-turn (YieldsList-from_vec c.args.moves.items (cc) (cc)) c.loop-step.yielded _ c.loop-step.yielded_by _ c.next.new.self c.in-Some.step c.in-Some.is c.next.ensures.steps in
    let lt = below Took HasRoomIn (λ s. s.watch) (λ s. s.room) (length c.loop-step.yielded) c.args.watches.now.items c.loop-step.watches.items
    c.args.moves.items c.loop-step.yielded c.loop-step.invariant.took c.requires turn.0 in
    let n = c.loop-step.invariant.count in
    search rules

pub take-requires : goal.take-requires
take-requires c =
    let turn = YieldsList-turn (YieldsList-from_vec c.args.moves.items (cc) (cc)) c.loop-step.yielded _ c.loop-step.yielded_by _ c.next.new.self c.in-Some.step c.in-Some.is c.next.ensures.steps in
    let i = length c.loop-step.yielded in
    let lt = below Took HasRoomIn (λ s. s.watch) (λ s. s.room) i c.args.watches.now.items c.loop-step.watches.items
    c.args.moves.items c.loop-step.yielded c.loop-step.invariant.took c.requires turn.0 in
    let same = next_place Took i c.args.watches.now.items c.loop-step.watches.items c.loop-step.yielded c.loop-step.invariant.took in
    let there = subst (λ n. c.index_mut.result.now ≡ slice_index_or c.loop-step.watches.items n c.index_mut.result.now) c.loop-step.invariant.count c.index_mut.ensures.value in
    at_three HasRoomIn (λ s. s.watch) (λ s. s.room) i c.args.watches.now.items c.args.moves.items c.index_mut.result.now c.in-Some.step c.requires
    (sym same ∙ at_place i c.loop-step.watches.items c.index_mut.result.now lt there)
    (at_place i c.args.moves.items c.in-Some.step turn.0 turn.1)

pub loop-step-preserved : goal.loop-step-preserved
loop-step-preserved c =
    let turn = YieldsList-turn (YieldsList-from_vec c.args.moves.items (cc) (cc)) c.loop-step.yielded _ c.loop-step.yielded_by _ c.next.new.self c.in-Some.step c.in-Some.is c.next.ensures.steps in
    let i = length c.loop-step.yielded in
    let xs = c.args.watches.now.items in
    let ys = c.loop-step.watches.items in
    let zs = c.loop-step.yielded ++ c.in-Some.step ∷ [] in
    let lt = below Took HasRoomIn (λ s. s.watch) (λ s. s.room) i xs ys c.args.moves.items c.loop-step.yielded c.loop-step.invariant.took c.requires turn.0 in
    let there = subst (λ n. c.index_mut.result.now ≡ slice_index_or ys n c.index_mut.result.now) c.loop-step.invariant.count c.index_mut.ensures.value in
    let next : length zs ≡ i + 1 = length-append c.loop-step.yielded (c.in-Some.step ∷ []) in
    let more : UpTo Took (i + 1) xs (slice_set ys i c.take.new.self) zs =
    place_more Took i xs ys c.loop-step.yielded c.loop-step.invariant.took lt zs c.index_mut.result.now c.take.new.self c.in-Some.step there c.take.ensures refl in
    let n = c.loop-step.invariant.count in
    record {
      count = omega (arith, next, n);
      took = subst (λ k. UpTo Took k xs (slice_set ys c.loop-step.place c.take.new.self) zs) (sym next)
          (subst (λ k. UpTo Took (i + 1) xs (slice_set ys k c.take.new.self) zs) (sym n) more);
    }

pub returns : goal.returns
returns c =
    let done = YieldsList-end (YieldsList-from_vec c.args.moves.items (cc) (cc)) c.loop-step.yielded _ c.loop-step.yielded_by _ c.next.new.self c.in-None.is c.next.ensures.steps in
    let xs = c.args.watches.now.items in
    let ys = c.loop-step.watches.items in
    let all = sym (map-id c.loop-step.yielded) ∙ done.0 in
    let many = done.1 ∙ sym (one_length HasRoomIn (λ s. s.watch) (λ s. s.room) xs c.args.moves.items c.requires) in
    all_places Took xs ys c.args.moves.items
    (subst (λ n. UpTo Took n xs ys c.args.moves.items) many (subst (λ zs. UpTo Took (length c.loop-step.yielded) xs ys zs) all c.loop-step.invariant.took))
