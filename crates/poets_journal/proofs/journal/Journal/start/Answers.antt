use Rattle.poets_journal.proofs.Starting.{damaged_bytes}
use Rattle.poets_journal.proofs.journal.Journal.start.Goals as goal

pub returns-in-Err-Damaged-clause-nothing : goal.returns-in-Err-Damaged-clause-nothing
returns-in-Err-Damaged-clause-nothing g c =
    let damaged = rw c.in-Err-Damaged.field-0-is at c.in-Err-Damaged.ensures.damaged in damaged_bytes (g.D.Disk.seen c.args.disk).bytes c.in-Err-Damaged.number damaged
