use Rattle.std.proofs.Common.{◌≤◌, Err, [], arith, refl, sym, ◌∙◌, ap, subst}
use Rattle.poets_command.specs.Calls.{history_of}
use Rattle.poets_disk.specs.Disks.{GoesOn}
use Rattle.poets_disk.proofs.Moments.{goes_on}
use Rattle.poets_journal.specs.Starts.{disk_of}
use Rattle.poets_writing.specs.Writing.{stream}
use Rattle.poets_keeping.specs.Journals.{OnlyStarted, damaged_line}
use Rattle.poets_keeping.proofs.Carried.{carried}
use Rattle.poets_keeping.proofs.Kept.{only_started}
use Rattle.poets_keeping.proofs.Recovered.{damage_found, disk_failed, line_told}
use Rattle.poets_resuming.specs.Resuming.{IsResumedAs, ResumesSession}
use Rattle.poets_resuming.proofs.Resumed.{resumes_none, resumes_told, resumes_unstarted}
use Rattle.poets_resuming.proofs.resuming.resume_session.Goals as goal

pub returns-in-Ok-clause-resumes : goal.returns-in-Ok-clause-resumes
returns-in-Ok-clause-resumes g c =
    c.resume_texts.ensures.resumes c.args.disk (record { time = c.in-Ok.ensures.time; during = c.in-Ok.ensures.during })
    (record { held = c.in-Ok.ensures.texts; all = c.in-Ok.ensures.started; bytes = c.in-Ok.ensures.file; faultless = c.in-Ok.ensures.cause; still = c.in-Ok.ensures.still })

pub returns-in-Ok-clause-disk_later : goal.returns-in-Ok-clause-disk_later
returns-in-Ok-clause-disk_later g c = omega (arith, c.in-Ok.ensures.later, c.resume_texts.ensures.disk_later)

pub returns-in-Ok-clause-time : goal.returns-in-Ok-clause-time
returns-in-Ok-clause-time g c =
    let seen = g.D.Disk.seen in goes_on (seen c.args.disk) (seen c.in-Ok.field-0.journal.disk) (seen c.resume_texts.result.disk) c.in-Ok.ensures.time c.resume_texts.ensures.time

pub returns-in-Err-Damaged-clause-resumes : goal.returns-in-Err-Damaged-clause-resumes
returns-in-Err-Damaged-clause-resumes g c = λ statements read.
    let seen = g.D.Disk.seen in
    let faults = g.D.Disk.faults in
    let held = g.K.Sink.held in
    let count = g.K.Sink.faults in
    let old = c.args.sink.now in
    let new = c.tell.new.sink in
    let names = c.args.session.names in
    let disk = c.args.disk in
    let made = c.in-Err-Damaged.disk in
    let number = c.in-Err-Damaged.number in
    let result = c.tell.result in
    let is = c.in-Err-Damaged.is ∙ ap (λ e. Err e) c.in-Err-Damaged.field-0-is in
    let started : OnlyStarted (seen disk) (seen made) = only_started seen faults disk c.start.result made (ap disk_of is) c.start.ensures.time c.start.ensures.during in
    carried (λ d h n. ResumesSession seen faults names statements (stream (held old) (count old)) (stream (held new) (count new)) disk d result.status h n)
    made result.disk [] (history_of result.history.items) 0 result.stored c.tell.ensures.disk (ap history_of c.tell.ensures.history) c.tell.ensures.stored
    (resumes_told seen faults names statements (stream (held old) (count old)) (stream (held new) (count new)) disk made 9 result.status (damaged_line number) started
    (IsResumedAs.Damaged number started (damage_found seen faults disk c.start.result made number is c.start.ensures.damaged c.start.ensures.kept c.start.ensures.cause))
    (line_told held count old new c.damaged_line-line.result (damaged_line number) 9 result.status c.damaged_line-line.ensures c.tell.ensures.told c.tell.ensures.untold))

pub returns-in-Err-Damaged-clause-disk_later : goal.returns-in-Err-Damaged-clause-disk_later
returns-in-Err-Damaged-clause-disk_later g c =
    let is = c.in-Err-Damaged.is ∙ ap (λ e. Err e) c.in-Err-Damaged.field-0-is in
    subst (λ d. g.D.Disk.faults c.args.disk ≤ g.D.Disk.faults d) (ap disk_of is ∙ sym c.tell.ensures.disk) c.start.ensures.later

pub returns-in-Err-Damaged-clause-time : goal.returns-in-Err-Damaged-clause-time
returns-in-Err-Damaged-clause-time g c =
    let is = c.in-Err-Damaged.is ∙ ap (λ e. Err e) c.in-Err-Damaged.field-0-is in
    subst (λ d. GoesOn (g.D.Disk.seen c.args.disk) (g.D.Disk.seen d)) (ap disk_of is ∙ sym c.tell.ensures.disk) c.start.ensures.time

pub returns-in-Err-Disk-clause-resumes : goal.returns-in-Err-Disk-clause-resumes
returns-in-Err-Disk-clause-resumes g c = λ statements read.
    let seen = g.D.Disk.seen in
    let faults = g.D.Disk.faults in
    let sink = stream (g.K.Sink.held c.args.sink.now) (g.K.Sink.faults c.args.sink.now) in
    let names = c.args.session.names in
    let disk = c.args.disk in
    let made = c.in-Err-Disk.disk in
    let result = c.stopped.result in
    let is = c.in-Err-Disk.is ∙ ap (λ e. Err e) c.in-Err-Disk.field-0-is in
    carried (λ d h n. ResumesSession seen faults names statements sink sink disk d result.status h n)
    made result.disk [] (history_of result.history.items) 0 result.stored c.stopped.ensures.disk (ap history_of c.stopped.ensures.history) c.stopped.ensures.stored
    (resumes_unstarted seen faults names statements sink sink disk made result.status (only_started seen faults disk c.start.result made (ap disk_of is) c.start.ensures.time c.start.ensures.during)
    (disk_failed seen faults disk c.start.result made is c.start.ensures.cause) c.stopped.ensures.status refl)

pub returns-in-Err-Disk-clause-disk_later : goal.returns-in-Err-Disk-clause-disk_later
returns-in-Err-Disk-clause-disk_later g c =
    let is = c.in-Err-Disk.is ∙ ap (λ e. Err e) c.in-Err-Disk.field-0-is in
    subst (λ d. g.D.Disk.faults c.args.disk ≤ g.D.Disk.faults d) (ap disk_of is ∙ sym c.stopped.ensures.disk) c.start.ensures.later

pub returns-in-Err-Disk-clause-time : goal.returns-in-Err-Disk-clause-time
returns-in-Err-Disk-clause-time g c =
    let is = c.in-Err-Disk.is ∙ ap (λ e. Err e) c.in-Err-Disk.field-0-is in
    subst (λ d. GoesOn (g.D.Disk.seen c.args.disk) (g.D.Disk.seen d)) (ap disk_of is ∙ sym c.stopped.ensures.disk) c.start.ensures.time

pub returns-clause-resumes : goal.returns-clause-resumes
returns-clause-resumes g c = λ statements read.
    let seen = g.D.Disk.seen in
    let faults = g.D.Disk.faults in
    let sink = stream (g.K.Sink.held c.args.sink.now) (g.K.Sink.faults c.args.sink.now) in
    let names = c.args.session.names in
    let disk = c.args.disk in
    let made = c.in-Err-Memory.disk in
    let result = c.stopped-in-Err-Memory.result in
    let is = c.in-Err-Memory.is ∙ ap (λ e. Err e) c.in-Err-Memory.field-0-is in
    carried (λ d h n. ResumesSession seen faults names statements sink sink disk d result.status h n)
    made result.disk [] (history_of result.history.items) 0 result.stored c.stopped-in-Err-Memory.ensures.disk (ap history_of c.stopped-in-Err-Memory.ensures.history) c.stopped-in-Err-Memory.ensures.stored
    (resumes_none seen faults names statements sink sink disk made result.status (only_started seen faults disk c.start.result made (ap disk_of is) c.start.ensures.time c.start.ensures.during) c.stopped-in-Err-Memory.ensures.status refl)

pub returns-clause-disk_later : goal.returns-clause-disk_later
returns-clause-disk_later g c =
    let is = c.in-Err-Memory.is ∙ ap (λ e. Err e) c.in-Err-Memory.field-0-is in
    subst (λ d. g.D.Disk.faults c.args.disk ≤ g.D.Disk.faults d) (ap disk_of is ∙ sym c.stopped-in-Err-Memory.ensures.disk) c.start.ensures.later

pub returns-clause-time : goal.returns-clause-time
returns-clause-time g c =
    let is = c.in-Err-Memory.is ∙ ap (λ e. Err e) c.in-Err-Memory.field-0-is in
    subst (λ d. GoesOn (g.D.Disk.seen c.args.disk) (g.D.Disk.seen d)) (ap disk_of is ∙ sym c.stopped-in-Err-Memory.ensures.disk) c.start.ensures.time
