use Rattle.std.proofs.Common.{◌+◌, sym, ◌∙◌, ap, subst}
use Rattle.poets_expr.specs.Env.{declared_of}
use Rattle.poets_table.specs.TableView.{row_view}
use Rattle.std.proofs.Common.{[]}
use Rattle.std.specs.Arc.{arc_value}
use Rattle.std.specs.Prelude.{IsTrue, ◌↔◌}
use Rattle.poets_meaning.specs.Perf.{Perf}
use Rattle.poets_cons.specs.Table.{contract_of_rows}
use Rattle.poets_command.specs.Plain.{Command, Reply}
use Rattle.poets_command.specs.Calls.{reply_of}
use Rattle.poets_rules.specs.Rules.{book_of_rules}
use Rattle.poets_engine.specs.code.Judgements.{judgement_of}
use Rattle.poets_engine.specs.code.Makes.{Makes}
use Rattle.poets_engine.specs.code.Changes.{RecordsEvent}
use Rattle.poets_engine.proofs.Transmitting.{transmit_refused, transmit_kept}
use Rattle.poets_engine.proofs.transmission.transmit.Goals as goal

pub returns-in-Refused-clause-ok : goal.returns-in-Refused-clause-ok
returns-in-Refused-clause-ok g c =
    transmit_refused c.args.rules.now c.args.name c.args.event.now c.args.store.now c.requires.taken c.in-Some.number
    (row_view c.row-row.result.now) (sym c.in-Some.ensures) c.row-row.ensures (reply_of c.in-Refused.reply)
    (sym (ap judgement_of c.in-Refused.is) ∙ c.in_ok-reply.ensures.choice)

pub returns-in_ok-record-in-Owed-clause-ok : goal.returns-in_ok-record-in-Owed-clause-ok
returns-in_ok-record-in-Owed-clause-ok g c =
    let rules = c.args.rules.now in
    let old = c.args.store.now in
    let e = c.args.event.now in
    let n = c.in-Some.number in
    subst (λ n. Makes rules (Command.Transmit c.args.name e) old c.record.new.self (Reply.Recorded (n + 1) c.may_end_rows-may_end.result)) (sym c.len.ensures.count)
    (transmit_kept rules c.args.name e old c.requires.taken n (row_view c.row-row.result.now) (sym c.in-Some.ensures) c.row-row.ensures
    (arc_value c.in-Owed.next) c.may_end_rows-may_end.result (subst (λ t. IsTrue c.may_end_rows-may_end.result ↔ Perf (book_of_rules rules) [] (contract_of_rows t) []) c.deref.ensures c.may_end_rows-may_end.ensures) c.record.new.self
    (subst (λ book. RecordsEvent (declared_of book.decls.names) n e (arc_value c.in-Owed.next) old c.record.new.self) c.book.ensures.book c.in_ok-record-in-Owed.ensures.ok)
    (sym (ap judgement_of c.in-Owed.is) ∙ c.in_ok-reply.ensures.choice))
