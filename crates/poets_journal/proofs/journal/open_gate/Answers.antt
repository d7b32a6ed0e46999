use Rattle.std.proofs.Common.{◌∙◌}
use Rattle.poets_disk.proofs.Moments.{goes_on, during_rests}
use Rattle.poets_journal.proofs.Crash.{at_gate, open_during, opened_bytes, opened_all}
use Rattle.poets_journal.proofs.journal.open_gate.Goals as goal

pub write-requires : goal.write-requires
write-requires g c = at_gate c.args.at c.requires.staged.0 (g.D.Disk.seen c.args.disk.now).bytes c.requires.staged.1.file

pub returns-in_err-write-clause-during : goal.returns-in_err-write-clause-during
returns-in_err-write-clause-during g c = λ texts text held staged. open_during _ _ c.args.at text texts staged c.write.ensures.writes held

pub returns-in_err-sync-clause-time : goal.returns-in_err-sync-clause-time
returns-in_err-sync-clause-time g c = goes_on _ _ _ c.write.ensures.writes.time c.sync.ensures.rests.time

pub returns-in_err-sync-clause-during : goal.returns-in_err-sync-clause-during
returns-in_err-sync-clause-during g c = λ texts text held staged.
    during_rests _ _ _ _ c.write.ensures.writes.time (open_during _ _ c.args.at text texts staged c.write.ensures.writes held) c.sync.ensures.rests

pub returns-clause-time : goal.returns-clause-time
returns-clause-time g c = goes_on _ _ _ c.write.ensures.writes.time c.sync.ensures.rests.time

pub returns-clause-during : goal.returns-clause-during
returns-clause-during g c = λ texts text held staged.
    during_rests _ _ _ _ c.write.ensures.writes.time (open_during _ _ c.args.at text texts staged c.write.ensures.writes held) c.sync.ensures.rests

pub returns-clause-ok : goal.returns-clause-ok
returns-clause-ok g c = λ texts text held staged.
    opened_all (g.D.Disk.seen c.args.disk.now) (g.D.Disk.seen c.sync.new.self) c.args.at text texts staged held (g.met.D.Disk.reads_image c.args.disk.now)
    (c.sync.ensures.rests.same ∙ c.in_ok-write.ensures.written) c.in_ok-sync.ensures.sure

pub returns-clause-ready : goal.returns-clause-ready
returns-clause-ready g c = λ text staged within. record {
  within = within;
  file = opened_bytes c.args.at text _ _ staged.file (c.sync.ensures.rests.same ∙ c.in_ok-write.ensures.written);
  sure = c.in_ok-sync.ensures.sure;
}

pub returns-clause-file : goal.returns-clause-file
returns-clause-file g c = c.sync.ensures.rests.same ∙ c.in_ok-write.ensures.written
