use Rattle.std.proofs.Common.{◌∙◌}
use Rattle.poets_disk.proofs.Moments.{goes_on, during_rests}
use Rattle.poets_journal.proofs.Crash.{behind_gate, stage_during, staged_bytes}
use Rattle.poets_journal.proofs.journal.stage.Goals as goal

pub write-requires : goal.write-requires
write-requires g c = behind_gate c.args.at (g.D.Disk.seen c.args.disk.now).bytes c.requires.ready.file

pub returns-in_err-write-clause-during : goal.returns-in_err-write-clause-during
returns-in_err-write-clause-during g c = λ texts held. stage_during _ _ c.args.at c.args.frame.now texts c.requires.ready c.write.ensures.writes held

pub returns-in_err-sync-clause-time : goal.returns-in_err-sync-clause-time
returns-in_err-sync-clause-time g c = goes_on _ _ _ c.write.ensures.writes.time c.sync.ensures.rests.time

pub returns-in_err-sync-clause-during : goal.returns-in_err-sync-clause-during
returns-in_err-sync-clause-during g c = λ texts held.
    during_rests _ _ _ _ c.write.ensures.writes.time (stage_during _ _ c.args.at c.args.frame.now texts c.requires.ready c.write.ensures.writes held) c.sync.ensures.rests

pub returns-clause-time : goal.returns-clause-time
returns-clause-time g c = goes_on _ _ _ c.write.ensures.writes.time c.sync.ensures.rests.time

pub returns-clause-during : goal.returns-clause-during
returns-clause-during g c = λ texts held.
    during_rests _ _ _ _ c.write.ensures.writes.time (stage_during _ _ c.args.at c.args.frame.now texts c.requires.ready c.write.ensures.writes held) c.sync.ensures.rests

pub returns-clause-staged : goal.returns-clause-staged
returns-clause-staged g c = λ text framed. record {
  file = staged_bytes c.args.at text c.args.frame.now _ _ framed c.requires.ready.file (c.sync.ensures.rests.same ∙ c.in_ok-write.ensures.written);
  sure = c.in_ok-sync.ensures.sure;
}

pub returns-clause-file : goal.returns-clause-file
returns-clause-file g c = c.sync.ensures.rests.same ∙ c.in_ok-write.ensures.written
