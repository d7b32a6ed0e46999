use Rattle.std.proofs.Common.{[], All, arith, refl, sym, ◌∙◌, ap, subst}
use Rattle.poets_lex.proofs.Readings.{reading-length}
use Rattle.poets_command.specs.Calls.{Call, calls_of, history_of}
use Rattle.poets_command.specs.Typing.{IsTypedCommand}
use Rattle.poets_rules.specs.Rules.{book_of_rules, reports_of_rules}
use Rattle.poets_journal.specs.Journals.{texts_of}
use Rattle.poets_making.specs.Noted.{AreScriptsTaken}
use Rattle.poets_making.proofs.Fewness.{scripts_few-held}
use Rattle.poets_making.proofs.Taking.{session_taken, session_whole}
use Rattle.poets_recover.proofs.Carrying.{stored_extends, stored_typed}
use Rattle.poets_reread.proofs.Widened.{storable_wide}
use Rattle.poets_session.specs.declared.form.Form.TheVariants as F
use Rattle.poets_stored.proofs.Storing.{sessions_storable}
use Rattle.poets_writing.specs.Writing.{change, stream}
use Rattle.poets_keeping.specs.Journals.{damaged_line}
use Rattle.poets_keeping.specs.Made.{HasTaken}
use Rattle.poets_keeping.proofs.Carried.{carried}
use Rattle.poets_keeping.proofs.Recovered.{history_of_texts, line_told, refused_for}
use Rattle.poets_keeping.proofs.Untouched.{time_stands}
use Rattle.poets_resuming.specs.Resuming.{IsResumedAs, ResumesSession}
use Rattle.poets_resuming.proofs.Resumed.{resumes_none, resumes_session, resumes_told}
use Rattle.poets_resuming.proofs.resuming.resume_texts.Goals as goal

pub recover-requires-clause-few : goal.recover-requires-clause-few
recover-requires-clause-few g c = λ _ _. let read = c.requires.read in let short = read.short in let few = reading-length read.holds.1.read.lexed in omega (arith, short, few)

pub recover-requires-clause-whole : goal.recover-requires-clause-whole
recover-requires-clause-whole g c = λ _ _. let read = c.requires.read in session_whole read.text read.holds.0 c.args.session read.holds.1 read.holds.2

pub keep_scripts-requires-clause-taken : goal.keep_scripts-requires-clause-taken
keep_scripts-requires-clause-taken g c = λ _ _.
    let read = c.requires.read in
    subst (λ rules. AreScriptsTaken rules c.args.session.scripts.items) (sym c.in-Ok.ensures.rules) (session_taken read.text read.holds.0 c.args.session read.holds.1 read.holds.2)

pub keep_scripts-requires-clause-few : goal.keep_scripts-requires-clause-few
keep_scripts-requires-clause-few g c = λ _ _.
    let read = c.requires.read in scripts_few-held F.Clerks read.holds.0 c.args.session.scripts.items read.holds.1.valid.placed read.holds.2.scripts

pub keep_scripts-requires-clause-storable : goal.keep_scripts-requires-clause-storable
keep_scripts-requires-clause-storable g c = λ _ _.
    let read = c.requires.read in
    let session = c.args.session in
    storable_wide session.names c.in-Ok.field-0.names (stored_extends (book_of_rules session.rules) (reports_of_rules session.rules) c.in-Ok.ensures.calls) session.scripts.items
    (sessions_storable read.text F.Clerks session read.short read.holds)

pub returns-in-Ok-clause-resumes : goal.returns-in-Ok-clause-resumes
returns-in-Ok-clause-resumes g c = λ disk started held statements read.
    let session = c.args.session in
    let made = c.in-Ok.field-0 in
    let texts = texts_of c.args.texts.now in
    let p = history_of made.history.items in
    let sink = change g.K.Sink.held g.K.Sink.faults c.args.sink.now c.keep_scripts.new.sink in
    let typed : All (λ (call : Call). IsTypedCommand (book_of_rules made.engine.rules) (reports_of_rules made.engine.rules) call.1) (calls_of p) =
    subst (λ rules. All (λ (call : Call). IsTypedCommand (book_of_rules rules) (reports_of_rules rules) call.1) (calls_of p)) (sym c.in-Ok.ensures.rules)
    (stored_typed (book_of_rules session.rules) (reports_of_rules session.rules) c.in-Ok.ensures.calls) in
    let taken : HasTaken made.engine p = record { noted = c.in-Ok.ensures.noted; typed = typed } in
    resumes_session g.D.Disk.seen g.D.Disk.faults statements session read.holds disk c.args.journal.disk c.keep_scripts.result.disk texts started held sink made.engine.rules made.names p c.in-Ok.ensures.rules
    (history_of_texts statements session texts made.names p read.holds c.in-Ok.ensures.calls c.in-Ok.ensures.within c.in-Ok.ensures.right)
    (c.keep_scripts.ensures.keeps p taken)

pub returns-in-Err-Text-clause-resumes : goal.returns-in-Err-Text-clause-resumes
returns-in-Err-Text-clause-resumes g c = λ disk started held statements read.
    let seen = g.D.Disk.seen in
    let faults = g.D.Disk.faults in
    let bytes = g.K.Sink.held in
    let count = g.K.Sink.faults in
    let old = c.args.sink.now in
    let new = c.tell.new.sink in
    let names = c.args.session.names in
    let made = c.args.journal.disk in
    let texts = texts_of c.args.texts.now in
    let number = c.in-Err-Text.number in
    let result = c.tell.result in
    carried (λ d h n. ResumesSession seen faults names statements (stream (bytes old) (count old)) (stream (bytes new) (count new)) disk d result.status h n)
    made result.disk [] (history_of result.history.items) 0 result.stored (c.tell.ensures.disk ∙ c.end.ensures) (ap history_of c.tell.ensures.history) c.tell.ensures.stored
    (resumes_told seen faults names statements (stream (bytes old) (count old)) (stream (bytes new) (count new)) disk made 9 result.status (damaged_line number) started
    (IsResumedAs.NoCall texts started held (refused_for statements c.args.session texts number read.holds (rw c.in-Err-Text.field-0-is at c.in-Err-Text.ensures.refused)))
    (line_told bytes count old new c.damaged_line-line.result (damaged_line number) 9 result.status c.damaged_line-line.ensures c.tell.ensures.told c.tell.ensures.untold))

pub returns-in-Err-Text-clause-disk_later : goal.returns-in-Err-Text-clause-disk_later
returns-in-Err-Text-clause-disk_later g c = let same = ap g.D.Disk.faults (c.tell.ensures.disk ∙ c.end.ensures) in omega (arith, same)

pub returns-in-Err-Text-clause-time : goal.returns-in-Err-Text-clause-time
returns-in-Err-Text-clause-time g c = time_stands g.D.Disk.seen c.args.journal.disk c.tell.result.disk (c.tell.ensures.disk ∙ c.end.ensures)

pub returns-clause-resumes : goal.returns-clause-resumes
returns-clause-resumes g c = λ disk started held statements read.
    let seen = g.D.Disk.seen in
    let faults = g.D.Disk.faults in
    let sink = stream (g.K.Sink.held c.args.sink.now) (g.K.Sink.faults c.args.sink.now) in
    let names = c.args.session.names in
    let made = c.args.journal.disk in
    let result = c.stopped.result in
    carried (λ d h n. ResumesSession seen faults names statements sink sink disk d result.status h n)
    made result.disk [] (history_of result.history.items) 0 result.stored (c.stopped.ensures.disk ∙ c.end-in-Err-Memory.ensures) (ap history_of c.stopped.ensures.history) c.stopped.ensures.stored
    (resumes_none seen faults names statements sink sink disk made result.status started c.stopped.ensures.status refl)

pub returns-clause-disk_later : goal.returns-clause-disk_later
returns-clause-disk_later g c = let same = ap g.D.Disk.faults (c.stopped.ensures.disk ∙ c.end-in-Err-Memory.ensures) in omega (arith, same)

pub returns-clause-time : goal.returns-clause-time
returns-clause-time g c = time_stands g.D.Disk.seen c.args.journal.disk c.stopped.result.disk (c.stopped.ensures.disk ∙ c.end-in-Err-Memory.ensures)
