use Rattle.std.proofs.Common.{length, ◌∙◌, arith}
use Rattle.std.proofs.lemmas.Iterator.Adapters.{YieldsList-from_vec}
use Rattle.std.proofs.lemmas.Iterator.Consumers.{YieldsList-turn}
use Rattle.poets_clerks.proofs.Slots.{answer_held, none_held, place_inside}
use Rattle.poets_clerks.proofs.history.filled_slots.Goals as goal

pub loop-place-init : goal.loop-place-init
loop-place-init g c = let slots = c.in_ok-slots.ensures in none_held _ _ (slots.count ∙ (c.len.ensures ∙ c.args.answers.ok.0)) slots.empty

pub put-requires : goal.put-requires
put-requires g c =
    let at = YieldsList-turn (YieldsList-from_vec c.args.answers.items (cc) (cc)) c.loop-place.yielded _ c.loop-place.yielded_by _ c.next.new.self c.in-Some.field-0 c.in-Some.is c.next.ensures.steps in
    let inside = place_inside c.args.answers.items (length c.loop-place.yielded) c.in-Some.field-0 at c.requires in
    let long = c.loop-place.invariant.count_is in omega arith

pub loop-place-preserved : goal.loop-place-preserved
loop-place-preserved g c =
    let at = YieldsList-turn (YieldsList-from_vec c.args.answers.items (cc) (cc)) c.loop-place.yielded _ c.loop-place.yielded_by _ c.next.new.self c.in-Some.field-0 c.in-Some.is c.next.ensures.steps in
    answer_held _ c.loop-place.yielded c.loop-place.slots.items c.put.new.self.items c.in-Some.field-0 c.loop-place.invariant (place_inside c.args.answers.items (length c.loop-place.yielded) c.in-Some.field-0 at c.requires) c.put.ensures.items
