use Rattle.poets_writing.specs.Writing.{change}
use Rattle.poets_keeping.proofs.Told.{told}
use Rattle.poets_keeping.proofs.writing.tell.Goals as goal

pub returns-clause-told : goal.returns-clause-told
returns-clause-told g c =
    told c.args.line c.in-Ok.line c.as_str.result.now (change g.K.Sink.held g.K.Sink.faults c.args.sink.now c.write_line-outcome.new.sink) c.args.status c.write_line-outcome.result
    c.in-Ok.is c.as_str.ensures.value c.write_line-outcome.ensures.line
