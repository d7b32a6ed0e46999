use Rattle.std.proofs.Common.{◌∙◌, Some, length, refl, sym, ap, subst, arith, le_refl}
use Rattle.poets_io.specs.Causes.{Rose, counted}
use Rattle.poets_disk.specs.Disks.{Writes}
use Rattle.poets_disk.specs.Memory.{wrote, failed_write, seen_of, held_now, WriteFails}
use Rattle.poets_disk.proofs.Recorded.{wrote_writes, refused_writes, refused_held, held_push}
use Rattle.poets_disk.proofs.Rooms.{accepted_write, answers_no}
use Rattle.poets_disk.proofs.memory.MemoryDiskDisk.write.Goals as goal

pub apply_write-requires-clause-accepted : goal.apply_write-requires-clause-accepted
apply_write-requires-clause-accepted c =
    answers_no c.refuses_write.result (WriteFails c.args.self.now c.args.at (length c.args.piece.now)) c.refuses_write.ensures c.if-refuses_write.false

pub returns-then-refuses_write-clause-kept : goal.returns-then-refuses_write-clause-kept
returns-then-refuses_write-clause-kept c = ap held_now c.refuse_write.ensures.state ∙ refused_held c.args.self.now (failed_write c.args.at (length c.args.piece.now)) refl

pub returns-then-refuses_write-clause-writes : goal.returns-then-refuses_write-clause-writes
returns-then-refuses_write-clause-writes c =
    subst (λ m. Writes c.args.at c.args.piece.now (seen_of c.args.self.now) (seen_of m)) (sym c.refuse_write.ensures.state) (refused_writes c.args.self.now c.args.at c.args.piece.now)

pub returns-then-refuses_write-clause-cause : goal.returns-then-refuses_write-clause-cause
returns-then-refuses_write-clause-cause c = record {
  later = c.refuse_write.ensures.later;
  kept = tt;
  failed = subst (λ m. Rose c.args.self.now.faults m.faults) (sym c.refuse_write.ensures.state) (le_refl (counted c.args.self.now.faults));
}

pub returns-clause-written : goal.returns-clause-written
returns-clause-written c = ap Some (ap held_now c.apply_write.ensures ∙ held_push c.args.self.now.first c.args.self.now.calls (wrote c.args.at c.args.piece.now))

pub returns-clause-fits : goal.returns-clause-fits
returns-clause-fits c =
    let no = answers_no c.refuses_write.result (WriteFails c.args.self.now c.args.at (length c.args.piece.now)) c.refuses_write.ensures c.if-refuses_write.false in
    let t = accepted_write c.args.self.now c.args.at (length c.args.piece.now) no in
    omega (arith, t.1)

pub returns-clause-writes : goal.returns-clause-writes
returns-clause-writes c =
    subst (λ m. Writes c.args.at c.args.piece.now (seen_of c.args.self.now) (seen_of m)) (sym c.apply_write.ensures) (wrote_writes c.args.self.now c.args.at c.args.piece.now c.requires)
