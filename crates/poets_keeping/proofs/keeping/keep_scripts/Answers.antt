use Rattle.std.proofs.Common.{◌≡◌, ◌+◌, ◌^◌, ◌<◌, ◌≤◌, [], Some, None, length, take, refl, sym, ◌∙◌, ap, subst}
use Rattle.std.specs.Prelude.{IfSome}
use Rattle.poets_command.specs.Calls.{history_of}
use Rattle.poets_disk.specs.Disks.{GoesOn}
use Rattle.poets_session.specs.Sessions.{commands_in}
use Rattle.poets_writing.specs.Outcomes.{lines_after}
use Rattle.poets_writing.specs.Writing.{change}
use Rattle.poets_keeping.specs.Made.{AreMade, KeepsScripts, kept_status}
use Rattle.poets_keeping.specs.Writing.{WritesAs}
use Rattle.poets_keeping.proofs.Carried.{carried}
use Rattle.poets_keeping.proofs.Made.{calls_counted, taken_long}
use Rattle.poets_keeping.proofs.keeping.keep_scripts.Goals as goal

pub keep_calls-history-requires-clause-earlier : goal.keep_calls-history-requires-clause-earlier
keep_calls-history-requires-clause-earlier g c = λ _ _. calls_counted c.args.engine c.history.result.now.items c.len-earlier.result c.history.ensures.calls c.len-earlier.ensures

pub write_kept-requires : goal.write_kept-requires
write_kept-requires g c = record {
  within = subst (λ w. IfSome w (λ h. c.keep_calls-history.result.stored ≤ length h.items)) c.in-Some.is c.keep_calls-history.ensures.within;
  numbered = subst (λ w. IfSome w (λ h. c.len-earlier.result + length h.items < 2 ^ 64)) c.in-Some.is c.keep_calls-history.ensures.numbered;
}

pub returns-in-Some-clause-keeps : goal.returns-in-Some-clause-keeps
returns-in-Some-clause-keeps g c = λ p taken.
    let seen = g.D.Disk.seen in
    let faults = g.D.Disk.faults in
    let engine = c.args.engine in
    let names = c.args.names.now in
    let scripts = commands_in c.args.scripts.now.items in
    let disk = c.args.journal.disk in
    let calls = c.keep_calls-history.result in
    let history = c.in-Some.history in
    let result = c.write_kept.result in
    let sink = change g.K.Sink.held g.K.Sink.faults c.args.sink.now c.write_kept.new.sink in
    let made : AreMade engine.rules names p scripts (seen disk) (seen calls.disk) (faults disk) (faults calls.disk) calls.stored (Some history) =
    subst (AreMade engine.rules names p scripts (seen disk) (seen calls.disk) (faults disk) (faults calls.disk) calls.stored) c.in-Some.is (c.keep_calls-history.ensures.made p taken) in
    let counted : c.len-earlier.result ≡ length p = sym (calls_counted engine c.history.result.now.items c.len-earlier.result c.history.ensures.calls c.len-earlier.ensures) ∙ taken_long engine p taken in
    let written : WritesAs (kept_status calls.stored history) (lines_after names (length p) (take calls.stored history.items)) sink result.status =
    subst (λ n. WritesAs (kept_status calls.stored history) (lines_after names n (take calls.stored history.items)) sink result.status) counted c.write_kept.ensures.written in
    carried (λ d h n. KeepsScripts seen faults engine.rules names p scripts disk d sink result.status h n) calls.disk result.disk (history_of history.items) (history_of result.history.items) calls.stored result.stored
    c.write_kept.ensures.disk (ap (λ l. history_of l.items) c.write_kept.ensures.history) c.write_kept.ensures.stored (KeepsScripts.Made history made written)

pub returns-in-Some-clause-disk_later : goal.returns-in-Some-clause-disk_later
returns-in-Some-clause-disk_later g c = subst (λ d. g.D.Disk.faults c.args.journal.disk ≤ g.D.Disk.faults d) (sym c.write_kept.ensures.disk) c.keep_calls-history.ensures.later

pub returns-in-Some-clause-time : goal.returns-in-Some-clause-time
returns-in-Some-clause-time g c = subst (λ d. GoesOn (g.D.Disk.seen c.args.journal.disk) (g.D.Disk.seen d)) (sym c.write_kept.ensures.disk) c.keep_calls-history.ensures.time

pub returns-in-None-clause-keeps : goal.returns-in-None-clause-keeps
returns-in-None-clause-keeps g c = λ p taken.
    let seen = g.D.Disk.seen in
    let faults = g.D.Disk.faults in
    let engine = c.args.engine in
    let names = c.args.names.now in
    let scripts = commands_in c.args.scripts.now.items in
    let disk = c.args.journal.disk in
    let calls = c.keep_calls-history.result in
    let result = c.stopped.result in
    let sink = change g.K.Sink.held g.K.Sink.faults c.args.sink.now c.args.sink.now in
    let made : AreMade engine.rules names p scripts (seen disk) (seen calls.disk) (faults disk) (faults calls.disk) calls.stored None =
    subst (AreMade engine.rules names p scripts (seen disk) (seen calls.disk) (faults disk) (faults calls.disk) calls.stored) c.in-None.is (c.keep_calls-history.ensures.made p taken) in
    carried (λ d h n. KeepsScripts seen faults engine.rules names p scripts disk d sink result.status h n) calls.disk result.disk [] (history_of result.history.items) calls.stored result.stored
    c.stopped.ensures.disk (ap history_of c.stopped.ensures.history) c.stopped.ensures.stored
    (subst (λ s. KeepsScripts seen faults engine.rules names p scripts disk calls.disk sink s [] calls.stored) (sym c.stopped.ensures.status) (KeepsScripts.PartMade made refl))

pub returns-in-None-clause-disk_later : goal.returns-in-None-clause-disk_later
returns-in-None-clause-disk_later g c = subst (λ d. g.D.Disk.faults c.args.journal.disk ≤ g.D.Disk.faults d) (sym c.stopped.ensures.disk) c.keep_calls-history.ensures.later

pub returns-in-None-clause-time : goal.returns-in-None-clause-time
returns-in-None-clause-time g c = subst (λ d. GoesOn (g.D.Disk.seen c.args.journal.disk) (g.D.Disk.seen d)) (sym c.stopped.ensures.disk) c.keep_calls-history.ensures.time
