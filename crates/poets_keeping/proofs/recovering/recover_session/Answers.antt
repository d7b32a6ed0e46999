use Rattle.std.proofs.Common.{◌≤◌, Err, refl, sym, ◌∙◌, ap, subst}
use Rattle.poets_io.specs.Causes.{Rose}
use Rattle.poets_command.specs.Calls.{history_of}
use Rattle.poets_journal.specs.Journals.{texts_of}
use Rattle.poets_journal.specs.Starts.{disk_of}
use Rattle.poets_writing.specs.Writing.{stream}
use Rattle.poets_keeping.specs.Journals.{HeldTexts, FoundDamage, OnlyStarted, damaged_line}
use Rattle.poets_keeping.proofs.Kept.{only_started}
use Rattle.poets_keeping.proofs.Recovered.{book_damaged, book_recovered, book_unread, book_unstarted, damage_found, disk_failed, line_told}
use Rattle.poets_keeping.proofs.recovering.recover_session.Goals as goal

pub returns-in-Ok-clause-recovers : goal.returns-in-Ok-clause-recovers
returns-in-Ok-clause-recovers g c = λ statements read.
    let seen = g.D.Disk.seen in
    let faults = g.D.Disk.faults in
    let disk = c.args.disk in
    let s = c.in-Ok.field-0 in
    let told = c.recover_texts.ensures.recovers in
    let same = sym (c.recover_texts.ensures.disk ∙ c.end.ensures) in
    let held : HeldTexts (seen disk) (seen s.journal.disk) (faults disk) (faults s.journal.disk) (texts_of s.texts) =
    record { held = c.in-Ok.ensures.texts; all = c.in-Ok.ensures.started; bytes = c.in-Ok.ensures.file; faultless = c.in-Ok.ensures.cause; still = c.in-Ok.ensures.still } in
    let sink = stream (g.K.Sink.held c.args.sink.now) (g.K.Sink.faults c.args.sink.now) in
    let after = stream (g.K.Sink.held c.recover_texts.new.sink) (g.K.Sink.faults c.recover_texts.new.sink) in
    book_recovered seen faults c.args.session.names statements sink after disk c.recover_texts.result.disk (texts_of s.texts) c.recover_texts.result.stored
    (subst (λ d. HeldTexts (seen disk) (seen d) (faults disk) (faults d) (texts_of s.texts)) same held)
    told.0 (told.1 statements read)

pub returns-in-Ok-clause-started : goal.returns-in-Ok-clause-started
returns-in-Ok-clause-started g c =
    let same = sym (c.recover_texts.ensures.disk ∙ c.end.ensures) in
    subst (λ d. OnlyStarted (g.D.Disk.seen c.args.disk) (g.D.Disk.seen d)) same (record { time = c.in-Ok.ensures.time; during = c.in-Ok.ensures.during })

pub returns-in-Ok-clause-disk_later : goal.returns-in-Ok-clause-disk_later
returns-in-Ok-clause-disk_later g c =
    let faults = g.D.Disk.faults in
    let same = sym (c.recover_texts.ensures.disk ∙ c.end.ensures) in
    subst (λ d. faults c.args.disk ≤ faults d) same c.in-Ok.ensures.later

pub returns-in-Err-Damaged-clause-recovers : goal.returns-in-Err-Damaged-clause-recovers
returns-in-Err-Damaged-clause-recovers g c = λ statements read.
    let seen = g.D.Disk.seen in
    let faults = g.D.Disk.faults in
    let number = c.in-Err-Damaged.number in
    book_damaged g.D.Disk.seen g.D.Disk.faults c.args.session.names statements _ _ c.args.disk c.tell.result.disk number c.tell.result.status c.tell.result.stored _
    (subst (λ d. FoundDamage (seen c.args.disk) (seen d) (faults c.args.disk) (faults d) number) (sym c.tell.ensures.disk)
    (damage_found seen faults c.args.disk c.start.result c.in-Err-Damaged.disk number (c.in-Err-Damaged.is ∙ ap (λ e. Err e) c.in-Err-Damaged.field-0-is) c.start.ensures.damaged c.start.ensures.kept c.start.ensures.cause))
    (ap history_of c.tell.ensures.history) c.tell.ensures.stored
    (line_told g.K.Sink.held g.K.Sink.faults c.args.sink.now c.tell.new.sink c.damaged_line-line.result (damaged_line number) 9 c.tell.result.status c.damaged_line-line.ensures c.tell.ensures.told c.tell.ensures.untold)

pub returns-in-Err-Damaged-clause-started : goal.returns-in-Err-Damaged-clause-started
returns-in-Err-Damaged-clause-started g c =
    only_started g.D.Disk.seen g.D.Disk.faults c.args.disk c.start.result c.tell.result.disk (ap disk_of (c.in-Err-Damaged.is ∙ ap (λ e. Err e) c.in-Err-Damaged.field-0-is) ∙ sym c.tell.ensures.disk) c.start.ensures.time c.start.ensures.during

pub returns-in-Err-Damaged-clause-disk_later : goal.returns-in-Err-Damaged-clause-disk_later
returns-in-Err-Damaged-clause-disk_later g c =
    let faults = g.D.Disk.faults in
    subst (λ d. faults c.args.disk ≤ faults d) (ap disk_of (c.in-Err-Damaged.is ∙ ap (λ e. Err e) c.in-Err-Damaged.field-0-is) ∙ sym c.tell.ensures.disk) c.start.ensures.later

pub returns-in-Err-Disk-clause-recovers : goal.returns-in-Err-Disk-clause-recovers
returns-in-Err-Disk-clause-recovers g c = λ statements read.
    let seen = g.D.Disk.seen in
    let faults = g.D.Disk.faults in
    book_unstarted g.D.Disk.seen g.D.Disk.faults c.args.session.names statements _ _ c.args.disk c.stopped.result.disk c.stopped.result.status c.stopped.result.stored _
    (subst (λ d. Rose (faults c.args.disk) (faults d)) (sym c.stopped.ensures.disk) (disk_failed seen faults c.args.disk c.start.result c.in-Err-Disk.disk (c.in-Err-Disk.is ∙ ap (λ e. Err e) c.in-Err-Disk.field-0-is) c.start.ensures.cause))
    refl c.stopped.ensures.status (ap history_of c.stopped.ensures.history) c.stopped.ensures.stored

pub returns-in-Err-Disk-clause-started : goal.returns-in-Err-Disk-clause-started
returns-in-Err-Disk-clause-started g c =
    only_started g.D.Disk.seen g.D.Disk.faults c.args.disk c.start.result c.stopped.result.disk (ap disk_of (c.in-Err-Disk.is ∙ ap (λ e. Err e) c.in-Err-Disk.field-0-is) ∙ sym c.stopped.ensures.disk) c.start.ensures.time c.start.ensures.during

pub returns-in-Err-Disk-clause-disk_later : goal.returns-in-Err-Disk-clause-disk_later
returns-in-Err-Disk-clause-disk_later g c =
    let faults = g.D.Disk.faults in
    subst (λ d. faults c.args.disk ≤ faults d) (ap disk_of (c.in-Err-Disk.is ∙ ap (λ e. Err e) c.in-Err-Disk.field-0-is) ∙ sym c.stopped.ensures.disk) c.start.ensures.later

pub returns-clause-recovers : goal.returns-clause-recovers
returns-clause-recovers g c = λ statements read.
    book_unread g.D.Disk.seen g.D.Disk.faults c.args.session.names statements _ _ c.args.disk c.stopped-in-Err-Memory.result.disk c.stopped-in-Err-Memory.result.status c.stopped-in-Err-Memory.result.stored _ refl c.stopped-in-Err-Memory.ensures.status (ap history_of c.stopped-in-Err-Memory.ensures.history) c.stopped-in-Err-Memory.ensures.stored

pub returns-clause-started : goal.returns-clause-started
returns-clause-started g c =
    only_started g.D.Disk.seen g.D.Disk.faults c.args.disk c.start.result c.stopped-in-Err-Memory.result.disk (ap disk_of (c.in-Err-Memory.is ∙ ap (λ e. Err e) c.in-Err-Memory.field-0-is) ∙ sym c.stopped-in-Err-Memory.ensures.disk) c.start.ensures.time c.start.ensures.during

pub returns-clause-disk_later : goal.returns-clause-disk_later
returns-clause-disk_later g c =
    let faults = g.D.Disk.faults in
    subst (λ d. faults c.args.disk ≤ faults d) (ap disk_of (c.in-Err-Memory.is ∙ ap (λ e. Err e) c.in-Err-Memory.field-0-is) ∙ sym c.stopped-in-Err-Memory.ensures.disk) c.start.ensures.later
