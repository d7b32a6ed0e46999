use Rattle.std.proofs.Common.{◌≡◌, ◌≤◌, Err, [], arith, refl, sym, ◌∙◌, ap, subst}
use Rattle.poets_command.specs.Calls.{history_of}
use Rattle.poets_disk.specs.Disks.{GoesOn}
use Rattle.poets_disk.proofs.Moments.{goes_on}
use Rattle.poets_journal.specs.Journals.{texts_of}
use Rattle.poets_journal.specs.Starts.{HasStartCause, OnDamaged, disk_of}
use Rattle.poets_keeping.specs.Journals.{FileIsDamaged, FoundDamage, HeldTexts, OnlyStarted, damaged_line}
use Rattle.poets_keeping.specs.Keeping.{IsKeptAs}
use Rattle.poets_keeping.proofs.Kept.{held_none, holds_line_of, keeps_as, keeps_none, keeps_told, keeps_unstarted, only_started, some_held}
use Rattle.poets_keeping.proofs.keeping.keep_session.Goals as goal

pub returns-then-is_empty-clause-keeps : goal.returns-then-is_empty-clause-keeps
returns-then-is_empty-clause-keeps g c = λ statements read.
    let seen = g.D.Disk.seen in
    let faults = g.D.Disk.faults in
    let disk = c.args.disk in
    let made = c.in-Ok.field-0.journal.disk in
    let texts = c.in-Ok.field-0.texts in
    let held : HeldTexts (seen disk) (seen made) (faults disk) (faults made) (texts_of texts) = record {
      held = c.in-Ok.ensures.texts;
      all = c.in-Ok.ensures.started;
      bytes = c.in-Ok.ensures.file;
      faultless = c.in-Ok.ensures.cause;
      still = c.in-Ok.ensures.still;
    } in
    c.keep_first.ensures.keeps disk (record { time = c.in-Ok.ensures.time; during = c.in-Ok.ensures.during })
    (held_none (seen disk) (seen made) (faults disk) (faults made) texts (c.is_empty.ensures.0 c.if-is_empty.true) held) statements read

pub returns-then-is_empty-clause-disk_later : goal.returns-then-is_empty-clause-disk_later
returns-then-is_empty-clause-disk_later g c = omega (arith, c.in-Ok.ensures.later, c.keep_first.ensures.disk_later)

pub returns-then-is_empty-clause-time : goal.returns-then-is_empty-clause-time
returns-then-is_empty-clause-time g c = let seen = g.D.Disk.seen in goes_on (seen c.args.disk) (seen c.in-Ok.field-0.journal.disk) (seen c.keep_first.result.disk) c.in-Ok.ensures.time c.keep_first.ensures.time

pub returns-in-Ok-clause-keeps : goal.returns-in-Ok-clause-keeps
returns-in-Ok-clause-keeps g c = λ statements read.
    let seen = g.D.Disk.seen in
    let faults = g.D.Disk.faults in
    let held = g.K.Sink.held in
    let count = g.K.Sink.faults in
    let old = c.args.sink.now in
    let new = c.tell.new.sink in
    let names = c.args.session.names in
    let disk = c.args.disk in
    let made = c.in-Ok.field-0.journal.disk in
    let texts = c.in-Ok.field-0.texts in
    let line = c.holds_line-line.result in
    let result = c.tell.result in
    let started : OnlyStarted (seen disk) (seen made) = record { time = c.in-Ok.ensures.time; during = c.in-Ok.ensures.during } in
    let texts_held : HeldTexts (seen disk) (seen made) (faults disk) (faults made) (texts_of texts) =
    record { held = c.in-Ok.ensures.texts; all = c.in-Ok.ensures.started; bytes = c.in-Ok.ensures.file; faultless = c.in-Ok.ensures.cause; still = c.in-Ok.ensures.still } in
    keeps_as seen faults held count old new names statements disk made result.disk result.status [] (history_of result.history.items) 0 result.stored
    (c.tell.ensures.disk ∙ c.end.ensures) (ap history_of c.tell.ensures.history) c.tell.ensures.stored
    (keeps_told seen faults held count old new names statements disk made line 8 result.status _ started
    (IsKeptAs.HeldCalls (texts_of texts) started texts_held (some_held c.is_empty.result texts c.is_empty.ensures.1 c.if-is_empty.false))
    (holds_line_of line c.len.result texts c.len.ensures c.holds_line-line.ensures) c.tell.ensures.told c.tell.ensures.untold)

pub returns-in-Ok-clause-disk_later : goal.returns-in-Ok-clause-disk_later
returns-in-Ok-clause-disk_later g c = subst (λ d. g.D.Disk.faults c.args.disk ≤ g.D.Disk.faults d) (sym (c.tell.ensures.disk ∙ c.end.ensures)) c.in-Ok.ensures.later

pub returns-in-Ok-clause-time : goal.returns-in-Ok-clause-time
returns-in-Ok-clause-time g c = subst (λ d. GoesOn (g.D.Disk.seen c.args.disk) (g.D.Disk.seen d)) (sym (c.tell.ensures.disk ∙ c.end.ensures)) c.in-Ok.ensures.time

pub returns-in-Err-Damaged-clause-keeps : goal.returns-in-Err-Damaged-clause-keeps
returns-in-Err-Damaged-clause-keeps g c = λ statements read.
    let seen = g.D.Disk.seen in
    let faults = g.D.Disk.faults in
    let held = g.K.Sink.held in
    let count = g.K.Sink.faults in
    let old = c.args.sink.now in
    let new = c.tell-in-Err-Damaged.new.sink in
    let names = c.args.session.names in
    let disk = c.args.disk in
    let made = c.in-Err-Damaged.disk in
    let number = c.in-Err-Damaged.number in
    let result = c.tell-in-Err-Damaged.result in
    let is = c.in-Err-Damaged.is ∙ ap (λ e. Err e) c.in-Err-Damaged.field-0-is in
    let started = only_started seen faults disk c.start.result made (ap disk_of is) c.start.ensures.time c.start.ensures.during in
    let damage : FoundDamage (seen disk) (seen made) (faults disk) (faults made) number = record {
      damaged = subst (λ r. OnDamaged r (λ n. FileIsDamaged (seen disk) n)) is c.start.ensures.damaged;
      bytes = subst (λ r. OnDamaged r (λ _. (seen (disk_of r)).bytes ≡ (seen disk).bytes)) is c.start.ensures.kept;
      faultless = subst (λ r. HasStartCause (faults disk) (faults (disk_of r)) r) is c.start.ensures.cause;
    } in
    keeps_as seen faults held count old new names statements disk made result.disk result.status [] (history_of result.history.items) 0 result.stored
    c.tell-in-Err-Damaged.ensures.disk (ap history_of c.tell-in-Err-Damaged.ensures.history) c.tell-in-Err-Damaged.ensures.stored
    (keeps_told seen faults held count old new names statements disk made c.damaged_line-line.result 9 result.status (damaged_line number) started
    (IsKeptAs.Damaged number started damage) c.damaged_line-line.ensures c.tell-in-Err-Damaged.ensures.told c.tell-in-Err-Damaged.ensures.untold)

pub returns-in-Err-Damaged-clause-disk_later : goal.returns-in-Err-Damaged-clause-disk_later
returns-in-Err-Damaged-clause-disk_later g c =
    let is = c.in-Err-Damaged.is ∙ ap (λ e. Err e) c.in-Err-Damaged.field-0-is in
    subst (λ d. g.D.Disk.faults c.args.disk ≤ g.D.Disk.faults d) (ap disk_of is ∙ sym c.tell-in-Err-Damaged.ensures.disk) c.start.ensures.later

pub returns-in-Err-Damaged-clause-time : goal.returns-in-Err-Damaged-clause-time
returns-in-Err-Damaged-clause-time g c =
    let is = c.in-Err-Damaged.is ∙ ap (λ e. Err e) c.in-Err-Damaged.field-0-is in
    subst (λ d. GoesOn (g.D.Disk.seen c.args.disk) (g.D.Disk.seen d)) (ap disk_of is ∙ sym c.tell-in-Err-Damaged.ensures.disk) c.start.ensures.time

pub returns-in-Err-Disk-clause-keeps : goal.returns-in-Err-Disk-clause-keeps
returns-in-Err-Disk-clause-keeps g c = λ statements read.
    let seen = g.D.Disk.seen in
    let faults = g.D.Disk.faults in
    let held = g.K.Sink.held in
    let count = g.K.Sink.faults in
    let sink = c.args.sink.now in
    let names = c.args.session.names in
    let disk = c.args.disk in
    let made = c.in-Err-Disk.disk in
    let result = c.stopped.result in
    let is = c.in-Err-Disk.is ∙ ap (λ e. Err e) c.in-Err-Disk.field-0-is in
    keeps_as seen faults held count sink sink names statements disk made result.disk result.status [] (history_of result.history.items) 0 result.stored
    c.stopped.ensures.disk (ap history_of c.stopped.ensures.history) c.stopped.ensures.stored
    (keeps_unstarted seen faults held count sink sink names statements disk made result.status (only_started seen faults disk c.start.result made (ap disk_of is) c.start.ensures.time c.start.ensures.during)
    (subst (λ r. HasStartCause (faults disk) (faults (disk_of r)) r) is c.start.ensures.cause) c.stopped.ensures.status refl)

pub returns-in-Err-Disk-clause-disk_later : goal.returns-in-Err-Disk-clause-disk_later
returns-in-Err-Disk-clause-disk_later g c =
    let is = c.in-Err-Disk.is ∙ ap (λ e. Err e) c.in-Err-Disk.field-0-is in
    subst (λ d. g.D.Disk.faults c.args.disk ≤ g.D.Disk.faults d) (ap disk_of is ∙ sym c.stopped.ensures.disk) c.start.ensures.later

pub returns-in-Err-Disk-clause-time : goal.returns-in-Err-Disk-clause-time
returns-in-Err-Disk-clause-time g c =
    let is = c.in-Err-Disk.is ∙ ap (λ e. Err e) c.in-Err-Disk.field-0-is in
    subst (λ d. GoesOn (g.D.Disk.seen c.args.disk) (g.D.Disk.seen d)) (ap disk_of is ∙ sym c.stopped.ensures.disk) c.start.ensures.time

pub returns-clause-keeps : goal.returns-clause-keeps
returns-clause-keeps g c = λ statements read.
    let seen = g.D.Disk.seen in
    let faults = g.D.Disk.faults in
    let held = g.K.Sink.held in
    let count = g.K.Sink.faults in
    let sink = c.args.sink.now in
    let names = c.args.session.names in
    let disk = c.args.disk in
    let made = c.in-Err-Memory.disk in
    let result = c.stopped-in-Err-Memory.result in
    let is = c.in-Err-Memory.is ∙ ap (λ e. Err e) c.in-Err-Memory.field-0-is in
    keeps_as seen faults held count sink sink names statements disk made result.disk result.status [] (history_of result.history.items) 0 result.stored
    c.stopped-in-Err-Memory.ensures.disk (ap history_of c.stopped-in-Err-Memory.ensures.history) c.stopped-in-Err-Memory.ensures.stored
    (keeps_none seen faults held count sink sink names statements disk made result.status (only_started seen faults disk c.start.result made (ap disk_of is) c.start.ensures.time c.start.ensures.during)
    c.stopped-in-Err-Memory.ensures.status refl)

pub returns-clause-disk_later : goal.returns-clause-disk_later
returns-clause-disk_later g c =
    let is = c.in-Err-Memory.is ∙ ap (λ e. Err e) c.in-Err-Memory.field-0-is in
    subst (λ d. g.D.Disk.faults c.args.disk ≤ g.D.Disk.faults d) (ap disk_of is ∙ sym c.stopped-in-Err-Memory.ensures.disk) c.start.ensures.later

pub returns-clause-time : goal.returns-clause-time
returns-clause-time g c =
    let is = c.in-Err-Memory.is ∙ ap (λ e. Err e) c.in-Err-Memory.field-0-is in
    subst (λ d. GoesOn (g.D.Disk.seen c.args.disk) (g.D.Disk.seen d)) (ap disk_of is ∙ sym c.stopped-in-Err-Memory.ensures.disk) c.start.ensures.time
