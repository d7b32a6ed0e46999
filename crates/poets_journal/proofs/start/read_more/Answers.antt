use Rattle.std.proofs.Common.{◌<◌, length, subst, IfSome, arith}
use Rattle.poets_disk.specs.Disks.{Gives}
use Rattle.poets_journal.proofs.Parts.{more_read}
use Rattle.poets_journal.proofs.start.read_more.Goals as goal

pub returns-clause-more : goal.returns-clause-more
returns-clause-more g c =
    let bytes = (g.D.Disk.seen c.args.disk.now).bytes in
    let gives = subst (λ n. IfSome bytes (Gives n c.in_ok-count.count c.read.new.buf)) c.len.ensures c.in_ok-count.ensures.bytes in
    let room : 0 < length c.read.new.buf = omega (arith, c.read.auto.buf, c.requires) in
    more_read bytes c.args.bytes.now.items c.append.new.list.items c.read.new.buf c.in_ok-count.count gives c.in_ok-append.ensures c.in_ok-count.ensures.bound.0 room
