use Rattle.std.proofs.Common.{Some, length, ap, sym, ◌∙◌}
use Rattle.std.proofs.lemmas.Iterator.Adapters.{YieldsList-from_vec}
use Rattle.std.proofs.lemmas.Iterator.Consumers.{YieldsList-turn, YieldsList-end}
use Rattle.std.proofs.lemmas.List.{map-id}
use Rattle.std.proofs.lemmas.Option.{slice_get_read}
use Rattle.poets_clerks.specs.Scripts.{pairs_of}
use Rattle.poets_clerks.proofs.Slots.{all_filled, in_order, length-pairs}
use Rattle.poets_clerks.proofs.history.in_order.Goals as goal

pub unreachable-requires : goal.unreachable-requires
unreachable-requires g c =
    let slots = c.in_ok-slots.slots.items in
    let at = YieldsList-turn (YieldsList-from_vec slots (cc) (cc)) c.loop-slot.yielded _ c.loop-slot.yielded_by _ c.next.new.self c.in-Some.slot c.in-Some.is c.next.ensures.steps in
    all_filled (length c.args.answers.items) (pairs_of c.args.answers.items) slots c.requires (length-pairs c.args.answers.items) c.in_ok-slots.ensures (length c.loop-slot.yielded)
    (slice_get_read slots (length slots) (length c.loop-slot.yielded) c.in-Some.slot (cc) at.0 at.1 ∙ ap (λ s. Some s) c.in_default.is)

pub returns : goal.returns
returns g c =
    let slots = c.in_ok-slots.slots.items in
    let done = YieldsList-end (YieldsList-from_vec slots (cc) (cc)) c.loop-slot.yielded _ c.loop-slot.yielded_by _ c.next.new.self c.in-None.is c.next.ensures.steps in
    in_order (length c.args.answers.items) (pairs_of c.args.answers.items) slots c.loop-slot.replies.items (length-pairs c.args.answers.items) c.in_ok-slots.ensures (c.loop-slot.invariant ∙ (sym (map-id c.loop-slot.yielded) ∙ done.0))
