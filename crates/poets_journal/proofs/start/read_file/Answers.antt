use Rattle.poets_disk.proofs.Moments.{rests_both}
use Rattle.poets_journal.proofs.start.read_file.Goals as goal

pub returns-in_err-bytes-clause-rests : goal.returns-in_err-bytes-clause-rests
returns-in_err-bytes-clause-rests g c = rests_both _ _ _ c.length.ensures.rests c.read_blocks.ensures.rests

pub returns-clause-rests : goal.returns-clause-rests
returns-clause-rests g c = rests_both _ _ _ c.length.ensures.rests c.read_blocks.ensures.rests
