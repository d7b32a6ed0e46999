use Rattle.std.proofs.Common.{refl, sym, ◌∙◌, ap}
use Rattle.std.specs.List.{zip}
use Rattle.std.proofs.lemmas.Iterator.{YieldsList-from_slice, YieldsList-from_zip}
use Rattle.std.proofs.lemmas.Iterator.Adapters.{YieldsList-from_vec}
use Rattle.std.proofs.lemmas.Iterator.Consumers.{YieldsList-end}
use Rattle.poets_command.specs.Calls.{history_of}
use Rattle.poets_making.proofs.Entries.{noted_more, noted_all}
use Rattle.poets_making.proofs.sharing.entries_of.Goals as goal

pub loop-clerk-init : goal.loop-clerk-init
loop-clerk-init c = ap history_of c.new-entries.ensures

pub loop-clerk-preserved : goal.loop-clerk-preserved
loop-clerk-preserved c =
    noted_more c.loop-clerk.entries.items c.push.new.list.items _ c.loop-clerk.yielded (c.in-Some.field-0-0, c.in-Some.reply) c.in_ok-push.ensures.items c.loop-clerk.invariant refl c.in_ok-try_clone.ensures refl

pub returns : goal.returns
returns c =
    let calls = YieldsList-from_slice c.args.calls.now (cc) in
    let replies = YieldsList-from_vec c.into_vec.result.items (cc) (cc) in
    let done = YieldsList-end (YieldsList-from_zip calls replies) c.loop-clerk.yielded _ c.loop-clerk.yielded_by _ c.next.new.self c.in-None.is c.next.ensures.steps in
    c.loop-clerk.invariant ∙ noted_all c.loop-clerk.yielded c.args.calls.now c.args.replies.items (done.0 ∙ ap (zip c.args.calls.now) c.into_vec.ensures)
