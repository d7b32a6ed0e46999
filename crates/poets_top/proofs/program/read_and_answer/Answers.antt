use Rattle.std.proofs.Common.{subst}
use Rattle.poets_command.specs.Calls.{history_of}
use Rattle.poets_writing.specs.Writing.{IsWritten, change, stream}
use Rattle.poets_top.specs.Runs.{IsAnswerTo}
use Rattle.poets_top.proofs.Endings.{IsEnding-answered, IsEnding-not_two, IsEnding-unread, IsSessionOf-opened}
use Rattle.poets_top.proofs.program.read_and_answer.Goals as goal

pub returns-in-Ok : goal.returns-in-Ok
returns-in-Ok g c =
    let source = change g.S.Source.left g.S.Source.faults c.args.source.now c.open_session.new.source in
    let opened = c.in-Ok.ensures.session in
    let session = IsSessionOf-opened c.args.task.now c.form_of.result source c.in-Ok.session c.form_of.ensures opened in
    let ends =
    IsEnding-answered c.args.task.now source.before source.after (stream (g.K.Sink.held c.args.sink.now) (g.K.Sink.faults c.args.sink.now))
    (stream (g.K.Sink.held c.answer.new.sink) (g.K.Sink.faults c.answer.new.sink)) opened.1.text opened.1.gave
    (subst (λ s. IsWritten (IsAnswerTo opened.1.text c.args.task.now) (stream (g.K.Sink.held s) (g.K.Sink.faults s))
    (stream (g.K.Sink.held c.answer.new.sink) (g.K.Sink.faults c.answer.new.sink)) c.answer.result.status (history_of c.answer.result.history.items))
    c.in-Ok.ensures.unwritten (c.answer.ensures opened.1.text opened.0 session))
    in
    record { status = IsEnding-not_two _ _ _ _ _ ends; ends = ends }

pub returns-in-Err : goal.returns-in-Err
returns-in-Err g c =
    let ends = IsEnding-unread c.args.task.now c.form_of.result _ _ _ _ c.form_of.ensures c.in-Err.ensures.without in
    record { status = IsEnding-not_two _ _ _ _ _ ends; ends = ends }
