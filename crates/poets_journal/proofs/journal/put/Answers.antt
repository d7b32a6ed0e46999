use Rattle.std.proofs.Common.{◌+◌, ◌≡◌, inl, subst, arith, length}
use Rattle.poets_journal.specs.Journals.{HoldsOrMore}
use Rattle.poets_journal.specs.code.Gates.{IsReady}
use Rattle.poets_disk.proofs.Moments.{goes_on, during_both, left_now}
use Rattle.poets_journal.proofs.Crash.{frame_long, recorded}
use Rattle.poets_journal.proofs.journal.put.Goals as goal

pub returns-in_err-stage-clause-during : goal.returns-in_err-stage-clause-during
returns-in_err-stage-clause-during g c = λ texts text held framed image since. inl (c.stage.ensures.during texts held image since)

pub open_gate-requires : goal.open_gate-requires
open_gate-requires g c = record { staged = (c.requires.frame.0, c.in_ok-stage.ensures.staged c.requires.frame.0 c.requires.frame.1) }

pub returns-in_err-open_gate-clause-time : goal.returns-in_err-open_gate-clause-time
returns-in_err-open_gate-clause-time g c = goes_on _ _ _ c.stage.ensures.time c.open_gate.ensures.time

pub returns-in_err-open_gate-clause-during : goal.returns-in_err-open_gate-clause-during
returns-in_err-open_gate-clause-during g c = λ texts text held framed.
    during_both (g.D.Disk.seen c.args.disk.now) (g.D.Disk.seen c.stage.new.disk) (g.D.Disk.seen c.open_gate.new.disk) (HoldsOrMore texts text) c.open_gate.ensures.time (λ image since. inl (c.stage.ensures.during texts held image since))
    (c.open_gate.ensures.during texts text (λ image left. c.stage.ensures.during texts held image (left_now _ _ c.stage.ensures.time image left)) (c.in_ok-stage.ensures.staged text framed))

pub returns-clause-time : goal.returns-clause-time
returns-clause-time g c = goes_on _ _ _ c.stage.ensures.time c.open_gate.ensures.time

pub returns-clause-during : goal.returns-clause-during
returns-clause-during g c = λ texts text held framed.
    during_both (g.D.Disk.seen c.args.disk.now) (g.D.Disk.seen c.stage.new.disk) (g.D.Disk.seen c.open_gate.new.disk) (HoldsOrMore texts text) c.open_gate.ensures.time (λ image since. inl (c.stage.ensures.during texts held image since))
    (c.open_gate.ensures.during texts text (λ image left. c.stage.ensures.during texts held image (left_now _ _ c.stage.ensures.time image left)) (c.in_ok-stage.ensures.staged text framed))

pub returns-clause-ok : goal.returns-clause-ok
returns-clause-ok g c = λ texts text held framed.
    c.in_ok-open_gate.ensures.ok texts text (λ image left. c.stage.ensures.during texts held image (left_now _ _ c.stage.ensures.time image left)) (c.in_ok-stage.ensures.staged text framed)

pub returns-clause-ready : goal.returns-clause-ready
returns-clause-ready g c =
    let text = c.requires.frame.0 in
    let framed = c.requires.frame.1 in
    let long = frame_long text c.args.frame.now framed in
    let ready = c.in_ok-open_gate.ensures.ready text (c.in_ok-stage.ensures.staged text framed) (omega (arith, long, c.in_ok-stage.ensures.fits)) in
    let place : c.args.at + 5 + length text ≡ c.args.at + length c.args.frame.now = omega (arith, long) in
    subst (λ n. IsReady (g.D.Disk.seen c.open_gate.new.disk) n) place ready

pub returns-clause-file : goal.returns-clause-file
returns-clause-file g c =
    recorded c.args.at c.args.frame.now (g.D.Disk.seen c.args.disk.now).bytes (g.D.Disk.seen c.stage.new.disk).bytes (g.D.Disk.seen c.open_gate.new.disk).bytes c.in_ok-stage.ensures.file c.in_ok-open_gate.ensures.file
