use Rattle.std.proofs.Common.{◌≡◌, refl, sym, ◌∙◌, ap, Err}
use Rattle.std.proofs.lemmas.Result.{IfErr-weaker}
use Rattle.poets_command.specs.Calls.{history_of}
use Rattle.poets_writing.specs.Writing.{change}
use Rattle.poets_writing.proofs.Written.{IsWritten-line, IsWritten-nothing}
use Rattle.poets_opening.specs.Limits.{too_long_text}
use Rattle.poets_opening.specs.Unread.{EndsUnread, RefusesSource}
use Rattle.poets_opening.specs.Opening.{EndsWithout}
use Rattle.poets_opening.specs.code.Opened.{RefusesEach}
use Rattle.poets_opening.proofs.Refusing.{ends_unread, gave_text}
use Rattle.poets_opening.proofs.opening.open_session.Goals as goal

pub returns-in-Ok-clause-without : goal.returns-in-Ok-clause-without
returns-in-Ok-clause-without g c =
    let source = change g.S.Source.left g.S.Source.faults c.args.source.now c.read_up_to.new.source in
    let sink = change g.K.Sink.held g.K.Sink.faults c.args.sink.now c.session_in.new.sink in
    let text = c.as_slice.result.now in
    let kept = c.in-Ok.ensures.kept (λ e. absurd cc) in
    let gave = gave_text source.before source.after c.in-Ok.text.items text (sym c.as_slice.ensures) c.in-Ok.ensures.whole c.in-Ok.ensures.short kept in
    IfErr-weaker _ (RefusesEach (λ given. given ≡ text) c.args.form sink) (EndsWithout c.args.form source sink)
    (λ outcome refuses. EndsUnread.Told (refuses source text gave refl) kept) c.session_in.ensures.refused

pub returns-in-Err-TooLong-clause-without : goal.returns-in-Err-TooLong-clause-without
returns-in-Err-TooLong-clause-without g c =
    let kept = c.in-Err-TooLong.ensures.kept (λ e. absurd (let z = c.in-Err-TooLong.field-0-is in cc)) in
    EndsUnread.Told
    (IsWritten-line (RefusesSource c.args.form _ _) _ _ 6 c.write_line.result.status _ too_long_text (ap history_of c.write_line.ensures.history)
    (RefusesSource.TooLong (c.read_up_to.ensures.too_long (c.in-Err-TooLong.is ∙ ap (λ e. Err e) c.in-Err-TooLong.field-0-is)) kept) c.write_line.ensures.line)
    kept

pub returns-in-Err-Failed-clause-without : goal.returns-in-Err-Failed-clause-without
returns-in-Err-Failed-clause-without g c =
    let failed = c.in-Err-Failed.is ∙ ap (λ e. Err e) c.in-Err-Failed.field-0-is in
    ends_unread c.args.form _ _ _ _ c.without_history.result.status _ c.without_history.ensures.status (ap history_of c.without_history.ensures.history)
    (record { rose = c.read_up_to.ensures.failed failed; later = c.read_up_to.ensures.later }) (c.read_up_to.ensures.stopped failed) refl

pub returns-in-Err-Memory-clause-without : goal.returns-in-Err-Memory-clause-without
returns-in-Err-Memory-clause-without g c =
    let kept = c.in-Err-Memory.ensures.kept (λ e. absurd (let z = c.in-Err-Memory.field-0-is in cc)) in
    EndsUnread.Told
    (IsWritten-nothing (RefusesSource c.args.form _ _) _ _ c.without_history-in-Err-Memory.result.status _ refl c.without_history-in-Err-Memory.ensures.status
    (ap history_of c.without_history-in-Err-Memory.ensures.history))
    kept
