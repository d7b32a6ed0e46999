use Rattle.std.proofs.Common.{zero-le, sym, subst}
use Rattle.poets_journal.specs.Keeping.{IsKept, texts_by}
use Rattle.poets_journal.proofs.Keeps.{kept_new}
use Rattle.poets_journal.proofs.journaled.Journaled.new.Goals as goal

pub invariant_of-result : goal.invariant_of-result
invariant_of-result g c =
    let journal = c.args.journal in
    let disk = g.D.Disk.seen journal.disk in
    let faults = g.D.Disk.faults journal.disk in
    let text = g.P.Put.text (g.P.Put.table c.args.put) in
    let kept = kept_new disk faults journal.failed c.requires.works in
    let here = subst (λ h. IsKept disk disk faults faults journal.failed 0 (texts_by text h)) (sym c.requires.new) kept in (
      zero-le,
      subst (λ m. IsKept (g.D.Disk.seen m.disk) disk (g.D.Disk.faults m.disk) faults journal.failed 0 (texts_by text (g.M.Machine.history c.args.machine))) (sym c.of-made.ensures) here,
    )
