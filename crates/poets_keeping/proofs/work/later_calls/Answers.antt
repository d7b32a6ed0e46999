use Rattle.poets_keeping.proofs.Made.{later_are}
use Rattle.poets_keeping.proofs.work.later_calls.Goals as goal

pub returns-clause-calls : goal.returns-clause-calls
returns-clause-calls c = later_are c.history-calls.result.now.items c.as_slice.result.now c.args.engine.now.calls c.args.earlier c.len.result c.as_slice.ensures c.len.ensures c.history-calls.ensures.calls
