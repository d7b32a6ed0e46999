use Rattle.std.proofs.Common.{List, take, subst}
use Rattle.poets_command.specs.declared.call.Entry.{Entry}
use Rattle.poets_writing.specs.Outcomes.{lines_after}
use Rattle.poets_writing.specs.Writing.{change}
use Rattle.poets_keeping.specs.Writing.{WritesAs}
use Rattle.poets_keeping.proofs.keeping.write_kept.Goals as goal

pub returns-clause-written : goal.returns-clause-written
returns-clause-written g c =
    let sink = change g.K.Sink.held g.K.Sink.faults c.args.sink.now c.write_entries-status.new.sink in
    let names = c.args.names.now in
    let earlier = c.args.earlier in
    let status = c.write_entries-status.result in
    subst (λ answer. WritesAs answer (lines_after names earlier (take c.args.stored c.args.history.items)) sink status) c.kept_status-answer.ensures
    (subst (λ (es : List Entry). WritesAs c.kept_status-answer.result (lines_after names earlier (take c.args.stored es)) sink status) c.as_slice.ensures c.write_entries-status.ensures.written)
