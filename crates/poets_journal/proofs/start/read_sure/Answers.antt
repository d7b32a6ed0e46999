use Rattle.poets_disk.proofs.Moments.{rests_both, sure_rests}
use Rattle.poets_journal.proofs.start.read_sure.Goals as goal

pub returns-in_err-bytes-clause-rests : goal.returns-in_err-bytes-clause-rests
returns-in_err-bytes-clause-rests g c = rests_both _ _ _ c.sync.ensures.rests c.read_file.ensures.rests

pub returns-clause-rests : goal.returns-clause-rests
returns-clause-rests g c = rests_both _ _ _ c.sync.ensures.rests c.read_file.ensures.rests

pub returns-clause-sure : goal.returns-clause-sure
returns-clause-sure g c = sure_rests _ _ c.in_ok-sync.ensures.sure c.read_file.ensures.rests
