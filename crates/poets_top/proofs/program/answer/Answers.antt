use Rattle.std.proofs.Common.{sym, subst}
use Rattle.poets_writing.specs.Writing.{change}
use Rattle.poets_top.specs.code.Answering.{AnswersSession}
use Rattle.poets_top.proofs.program.answer.Goals as goal

pub returns-in-Check : goal.returns-in-Check
returns-in-Check g c =
    subst (λ t. AnswersSession t c.args.session (change g.K.Sink.held g.K.Sink.faults c.args.sink.now c.check.new.sink) c.check.result) (sym c.in-Check.is) c.check.ensures

pub returns-in-Run : goal.returns-in-Run
returns-in-Run g c =
    subst (λ t. AnswersSession t c.args.session (change g.K.Sink.held g.K.Sink.faults c.args.sink.now c.run_scripts.new.sink) c.run_scripts.result) (sym c.in-Run.is) c.run_scripts.ensures

pub returns-in-Replay : goal.returns-in-Replay
returns-in-Replay g c =
    subst (λ t. AnswersSession t c.args.session (change g.K.Sink.held g.K.Sink.faults c.args.sink.now c.replay.new.sink) c.replay.result) (sym c.in-Replay.is) c.replay.ensures

pub returns-in-Explain : goal.returns-in-Explain
returns-in-Explain g c =
    subst (λ t. AnswersSession t c.args.session (change g.K.Sink.held g.K.Sink.faults c.args.sink.now c.explain.new.sink) c.explain.result) (sym c.in-Explain.is) c.explain.ensures

pub returns-in-Export : goal.returns-in-Export
returns-in-Export g c =
    subst (λ t. AnswersSession t c.args.session (change g.K.Sink.held g.K.Sink.faults c.args.sink.now c.export.new.sink) c.export.result) (sym c.in-Export.is) c.export.ensures
