use Rattle.std.proofs.Common.{Err, refl, inl, inr, ap, subst}
use Rattle.std.specs.Io.KnownBytes.{Appends}
use Rattle.poets_io.specs.Streams.{AppendsPart}
use Rattle.poets_command.specs.Calls.{history_of}
use Rattle.poets_print.specs.Lines.{history_text}
use Rattle.poets_writing.proofs.Lines.{AppendsPart-some}
use Rattle.poets_writing.proofs.writing.write.Goals as goal

pub returns-in-Ok-clause-lines : goal.returns-in-Ok-clause-lines
returns-in-Ok-clause-lines g c =
    inl (
      refl,
      subst (λ es. Appends (g.K.Sink.held c.args.sink.now) (g.K.Sink.held c.write_history.new.sink) (history_text c.args.names.now (history_of es))) c.as_slice.ensures c.in-Ok.ensures.ok,
      c.in-Ok.ensures.kept (λ e. absurd cc),
    )

pub returns-in-Err-Failed-clause-lines : goal.returns-in-Err-Failed-clause-lines
returns-in-Err-Failed-clause-lines g c =
    inr (inl (
      refl,
      subst (λ es. AppendsPart (g.K.Sink.held c.args.sink.now) (g.K.Sink.held c.write_history.new.sink) (history_text c.args.names.now (history_of es))) c.as_slice.ensures c.in-Err-Failed.ensures.stopped,
      record { rose = c.in-Err-Failed.ensures.failed (ap (λ e. Err e) c.in-Err-Failed.field-0-is); later = c.in-Err-Failed.ensures.later },
    ))

pub returns-in-Err-Memory-clause-lines : goal.returns-in-Err-Memory-clause-lines
returns-in-Err-Memory-clause-lines g c =
    let part : AppendsPart (g.K.Sink.held c.args.sink.now) (g.K.Sink.held c.write_history.new.sink) (history_text c.args.names.now (history_of c.args.history.items)) =
    subst (λ es. AppendsPart (g.K.Sink.held c.args.sink.now) (g.K.Sink.held c.write_history.new.sink) (history_text c.args.names.now (history_of es))) c.as_slice.ensures c.in-Err-Memory.ensures.stopped in
    inr (inr (refl, AppendsPart-some c.args.names.now (history_of c.args.history.items) _ _ part, part, c.in-Err-Memory.ensures.kept (λ e. absurd (let z = c.in-Err-Memory.field-0-is in cc))))
