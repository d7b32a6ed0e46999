use Rattle.std.proofs.Common.{[], sym, subst}
use Rattle.poets_making.specs.Noted.{AreScriptsTaken}
use Rattle.poets_making.proofs.Fewness.{scripts_few-held}
use Rattle.poets_making.proofs.Taking.{session_taken, session_whole}
use Rattle.poets_session.specs.declared.form.Form.TheVariants as F
use Rattle.poets_stored.proofs.Storing.{sessions_storable}
use Rattle.poets_writing.specs.Writing.{change}
use Rattle.poets_keeping.proofs.Ended.{keeps_session}
use Rattle.poets_keeping.proofs.Made.{none_taken}
use Rattle.poets_keeping.proofs.keeping.keep_first.Goals as goal

pub new-engine-requires : goal.new-engine-requires
new-engine-requires g c = let read = c.requires.read in session_whole read.text read.holds.0 c.args.session read.holds.1 read.holds.2

pub keep_scripts-requires-clause-taken : goal.keep_scripts-requires-clause-taken
keep_scripts-requires-clause-taken g c = λ _ _.
    let read = c.requires.read in
    subst (λ rules. AreScriptsTaken rules c.args.session.scripts.items) (sym c.new-engine.ensures.rules) (session_taken read.text read.holds.0 c.args.session read.holds.1 read.holds.2)

pub keep_scripts-requires-clause-few : goal.keep_scripts-requires-clause-few
keep_scripts-requires-clause-few g c = λ _ _.
    let read = c.requires.read in scripts_few-held F.Clerks read.holds.0 c.args.session.scripts.items read.holds.1.valid.placed read.holds.2.scripts

pub keep_scripts-requires-clause-storable : goal.keep_scripts-requires-clause-storable
keep_scripts-requires-clause-storable g c = λ _ _. let read = c.requires.read in sessions_storable read.text F.Clerks c.args.session read.short read.holds

pub returns-clause-keeps : goal.returns-clause-keeps
returns-clause-keeps g c = λ disk started held statements read.
    let session = c.args.session in
    let engine = c.new-engine.result in
    let sink = change g.K.Sink.held g.K.Sink.faults c.args.sink.now c.keep_scripts.new.sink in
    keeps_session g.D.Disk.seen g.D.Disk.faults statements session read.holds disk c.args.journal.disk c.keep_scripts.result.disk started held sink engine.rules c.new-engine.ensures.rules
    (c.keep_scripts.ensures.keeps [] (none_taken engine session.rules c.new-engine.ensures.rules c.new-engine.ensures.calls c.new-engine.ensures.legal))
