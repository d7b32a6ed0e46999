use Rattle.std.proofs.Common.{sym, subst, le_refl}
use Rattle.poets_io.specs.Causes.{Rose, counted}
use Rattle.poets_disk.specs.Disks.{Rests, IsSure}
use Rattle.poets_disk.specs.Memory.{seen_of, NextFails}
use Rattle.poets_disk.proofs.Recorded.{synced_rests, synced_sure, refused_rests}
use Rattle.poets_disk.proofs.Rooms.{answers_no}
use Rattle.poets_disk.proofs.memory.MemoryDiskDisk.sync.Goals as goal

pub apply_sync-requires : goal.apply_sync-requires
apply_sync-requires c = answers_no c.refuses_call.result (NextFails c.args.self.now) c.refuses_call.ensures c.if-refuses_call.false

pub returns-then-refuses_call-clause-rests : goal.returns-then-refuses_call-clause-rests
returns-then-refuses_call-clause-rests c = subst (λ m. Rests (seen_of c.args.self.now) (seen_of m)) (sym c.refuse_sync.ensures.state) (refused_rests c.args.self.now)

pub returns-then-refuses_call-clause-cause : goal.returns-then-refuses_call-clause-cause
returns-then-refuses_call-clause-cause c = record {
  later = c.refuse_sync.ensures.later;
  kept = tt;
  failed = subst (λ m. Rose c.args.self.now.faults m.faults) (sym c.refuse_sync.ensures.state) (le_refl (counted c.args.self.now.faults));
}

pub returns-clause-sure : goal.returns-clause-sure
returns-clause-sure c = subst (λ m. IsSure (seen_of m)) (sym c.apply_sync.ensures) (synced_sure c.args.self.now)

pub returns-clause-rests : goal.returns-clause-rests
returns-clause-rests c = subst (λ m. Rests (seen_of c.args.self.now) (seen_of m)) (sym c.apply_sync.ensures) (synced_rests c.args.self.now)
