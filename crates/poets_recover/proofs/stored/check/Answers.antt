use Rattle.std.proofs.Common.{refl}
use Rattle.poets_recover.proofs.Judging.{mistyped_at}
use Rattle.poets_recover.proofs.stored.check.Goals as goal

pub returns-clause-fault : goal.returns-clause-fault
returns-clause-fault c =
    let fault = c.in-Err.fault in let told = rw (c.book.ensures.book, c.as_slice.ensures) at c.in-Err.ensures.fault in
    (fault.place, refl, mistyped_at c.args.rules.now c.args.calls.now fault.place fault.cause c.in_default-cause.not-Memory told)
