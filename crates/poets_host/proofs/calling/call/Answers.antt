use Rattle.std.proofs.Common.{inr, refl}
use Rattle.std.proofs.lemmas.Result.{IfOk-weaker}
use Rattle.std.specs.Arc.{arc_value}
use Rattle.poets_command.specs.Calls.{command_of, reply_of}
use Rattle.poets_rules.specs.Rules.{book_of_rules, reports_of_rules}
use Rattle.poets_engine.specs.State.{Fulfils, plain_calls}
use Rattle.poets_host.proofs.Following.{call_more, in_ok, keeps_all, on_err, unchanged}
use Rattle.poets_host.proofs.calling.call.Goals as goal

pub returns-clause-calls : goal.returns-clause-calls
returns-clause-calls g c =
    in_ok c.finish.result
    (call_more c.args.clerk c.args.command.now (arc_value c.args.command.now) c.args.engine.now c.apply.new.self c.in_ok-kept.ensures.calls refl)

pub returns-clause-right : goal.returns-clause-right
returns-clause-right g c =
    let e = c.args.engine.now in
    IfOk-weaker c.finish.result (λ r. Fulfils c.in_ok-kept.kept (reply_of r)) _
    (λ r fulfils. fulfils (book_of_rules e.rules) (reports_of_rules e.rules) (plain_calls e.calls) (command_of (arc_value c.args.command.now)) c.in_ok-kept.ensures.owes)
    c.finish.ensures

pub returns-clause-refused : goal.returns-clause-refused
returns-clause-refused g c =
    let e = c.args.engine.now in
    let book = book_of_rules e.rules in
    let reports = reports_of_rules e.rules in
    let calls = plain_calls e.calls in
    let command = command_of (arc_value c.args.command.now) in
    let more = call_more c.args.clerk c.args.command.now (arc_value c.args.command.now) e c.apply.new.self c.in_ok-kept.ensures.calls refl in
    IfOk-weaker c.finish.result (λ r. Fulfils c.in_ok-kept.kept (reply_of r)) _
    (λ r fulfils no.
    let answers = fulfils book reports calls command c.in_ok-kept.ensures.owes in
    let same = unchanged book reports calls command c.in_ok-kept.kept.body (reply_of r) c.in_ok-kept.ensures.owes.reply answers no in
    keeps_all c.args.clerk command (reply_of r) e c.apply.new.self answers more c.apply.ensures.frame (c.in_ok-kept.ensures.refused same) no)
    c.finish.ensures

pub returns-clause-memory : goal.returns-clause-memory
returns-clause-memory g c =
    on_err c.finish.result
    (inr (call_more c.args.clerk c.args.command.now (arc_value c.args.command.now) c.args.engine.now c.apply.new.self c.in_ok-kept.ensures.calls refl))
