use Rattle.std.proofs.Common.{◌≡◌, ◌+◌, ◌∙◌, [], ◌∷◌, ◌++◌, true, false, sym, subst}
use Rattle.poets_journal.specs.Keeping.{IsKept}
use Rattle.poets_journal.proofs.Keeps.{all_held, kept_skipped, kept_stored, kept_failed}
use Rattle.poets_journal.proofs.journaled.store.Goals as goal

pub returns-then-failed-clause-kept : goal.returns-then-failed-clause-kept
returns-then-failed-clause-kept g c = λ made stored texts text framed kept.
    let first = g.D.Disk.seen made in
    let disk = g.D.Disk.seen c.args.journal.now.disk in
    let before = g.D.Disk.faults made in
    let now = g.D.Disk.faults c.args.journal.now.disk in
    let failed : c.args.journal.now.failed ≡ true = sym c.failed.ensures.failed ∙ c.if-failed.true in
    subst (λ b. IsKept first disk before now b stored (texts ++ text ∷ [])) (sym failed)
    (kept_skipped first disk before now stored texts text (subst (λ b. IsKept first disk before now b stored texts) failed kept))

pub returns-in-Ok-clause-kept : goal.returns-in-Ok-clause-kept
returns-in-Ok-clause-kept g c = λ made stored texts text framed kept.
    let first = g.D.Disk.seen made in
    let old = g.D.Disk.seen c.args.journal.now.disk in
    let new = g.D.Disk.seen c.append.new.self.disk in
    let before = g.D.Disk.faults made in
    let now = g.D.Disk.faults c.args.journal.now.disk in
    let next = g.D.Disk.faults c.append.new.self.disk in
    let works : c.args.journal.now.failed ≡ false = sym c.failed.ensures.failed ∙ c.if-failed.false in
    let k : IsKept first old before now false stored texts = subst (λ b. IsKept first old before now b stored texts) works kept in
    let all = all_held first old before now stored texts k in
    subst (λ b. IsKept first new before next b (stored + 1) (texts ++ text ∷ [])) (sym c.in-Ok.ensures.works)
    (kept_stored first old new before now next stored texts text k c.append.ensures.time
    (λ earlier held. c.append.ensures.during (earlier ++ texts) text (all earlier held) framed)
    (λ earlier held. c.in-Ok.ensures.ok (earlier ++ texts) text (all earlier held) framed) c.in-Ok.ensures.cause.kept)

pub returns-in-Err-clause-kept : goal.returns-in-Err-clause-kept
returns-in-Err-clause-kept g c = λ made stored texts text framed kept.
    let first = g.D.Disk.seen made in
    let old = g.D.Disk.seen c.args.journal.now.disk in
    let new = g.D.Disk.seen c.append.new.self.disk in
    let before = g.D.Disk.faults made in
    let now = g.D.Disk.faults c.args.journal.now.disk in
    let next = g.D.Disk.faults c.append.new.self.disk in
    let works : c.args.journal.now.failed ≡ false = sym c.failed.ensures.failed ∙ c.if-failed.false in
    let k : IsKept first old before now false stored texts = subst (λ b. IsKept first old before now b stored texts) works kept in
    let all = all_held first old before now stored texts k in
    subst (λ b. IsKept first new before next b stored (texts ++ text ∷ [])) (sym c.in-Err.ensures.failed)
    (kept_failed first old new before now next stored texts text k c.append.ensures.time
    (λ earlier held. c.append.ensures.during (earlier ++ texts) text (all earlier held) framed) c.append.ensures.cause.later c.in-Err.ensures.cause.failed)
