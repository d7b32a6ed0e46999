use Rattle.std.proofs.Common.{◌∙◌, ap, arith}
use Rattle.poets_making.specs.Noted.{entries_of}
use Rattle.poets_keeping.proofs.Made.{entries_few}
use Rattle.poets_keeping.proofs.work.entries_with.Goals as goal

pub returns-in-Ok-clause-entries : goal.returns-in-Ok-clause-entries
returns-in-Ok-clause-entries c =
    (c.in_ok-replies.replies, c.in_ok-replies.was, c.in-Ok.ensures ∙ ap (λ cs. entries_of cs c.in_ok-replies.replies.items) c.later_calls-calls.ensures.calls)

pub returns-in-Ok-clause-numbered : goal.returns-in-Ok-clause-numbered
returns-in-Ok-clause-numbered c =
    let few = entries_few c.later_calls-calls.result.now c.in_ok-replies.replies.items c.in-Ok.entries.items c.in-Ok.ensures in
    omega (arith, few, c.later_calls-calls.ensures.numbered)
