use Rattle.std.proofs.Common.{◌+◌, Err, refl, ap}
use Rattle.poets_command.specs.Calls.{history_of}
use Rattle.poets_keeping.specs.Writing.{EndsWriting}
use Rattle.poets_keeping.proofs.writing.write_entries.Goals as goal

pub returns-in-Ok-clause-written : goal.returns-in-Ok-clause-written
returns-in-Ok-clause-written g c = EndsWriting.Whole c.in-Ok.ensures.ok (c.in-Ok.ensures.kept (λ e. absurd cc))

pub returns-in-Err-Failed-clause-written : goal.returns-in-Err-Failed-clause-written
returns-in-Err-Failed-clause-written g c =
    EndsWriting.Failed c.in-Err-Failed.ensures.stopped
    (record { rose = c.in-Err-Failed.ensures.failed (ap (λ e. Err e) c.in-Err-Failed.field-0-is); later = c.in-Err-Failed.ensures.later })

pub returns-in-Err-Memory-clause-written : goal.returns-in-Err-Memory-clause-written
returns-in-Err-Memory-clause-written g c =
    EndsWriting.Memory c.args.names.now (c.args.earlier + 1) (history_of c.args.entries.now) refl c.in-Err-Memory.ensures.stopped
    (c.in-Err-Memory.ensures.kept (λ e. absurd (let z = c.in-Err-Memory.field-0-is in cc)))
