use Rattle.std.proofs.Common.{◌∙◌, arith}
use Rattle.poets_disk.proofs.Moments.{goes_on, during_rests}
use Rattle.poets_journal.proofs.Starting.{zero_in, gate_during, zero_gates, zero_bytes, zero_file}
use Rattle.poets_journal.proofs.start.close_gate.Goals as goal

pub write-requires : goal.write-requires
write-requires g c = zero_in (g.D.Disk.seen c.args.disk.now).bytes

pub returns-in_err-write-clause-during : goal.returns-in_err-write-clause-during
returns-in_err-write-clause-during g c = gate_during _ _ c.requires.short c.requires.sure c.write.ensures.writes

pub returns-in_err-sync-clause-time : goal.returns-in_err-sync-clause-time
returns-in_err-sync-clause-time g c = goes_on _ _ _ c.write.ensures.writes.time c.sync.ensures.rests.time

pub returns-in_err-sync-clause-during : goal.returns-in_err-sync-clause-during
returns-in_err-sync-clause-during g c = during_rests _ _ _ _ c.write.ensures.writes.time (gate_during _ _ c.requires.short c.requires.sure c.write.ensures.writes) c.sync.ensures.rests

pub returns-clause-time : goal.returns-clause-time
returns-clause-time g c = goes_on _ _ _ c.write.ensures.writes.time c.sync.ensures.rests.time

pub returns-clause-during : goal.returns-clause-during
returns-clause-during g c = during_rests _ _ _ _ c.write.ensures.writes.time (gate_during _ _ c.requires.short c.requires.sure c.write.ensures.writes) c.sync.ensures.rests

pub returns-clause-ready : goal.returns-clause-ready
returns-clause-ready g c = record {
  within = omega arith;
  file = zero_gates (g.D.Disk.seen c.sync.new.self).bytes (zero_bytes (g.D.Disk.seen c.args.disk.now).bytes _ c.requires.short (c.sync.ensures.rests.same ∙ c.in_ok-write.ensures.written));
  sure = c.in_ok-sync.ensures.sure;
}

pub returns-clause-file : goal.returns-clause-file
returns-clause-file g c = zero_file (g.D.Disk.seen c.args.disk.now).bytes _ c.requires.short (c.sync.ensures.rests.same ∙ c.in_ok-write.ensures.written)
