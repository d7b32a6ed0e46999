use Rattle.std.proofs.Common.{inr}
use Rattle.std.proofs.lemmas.Result.{IfOk-weaker}
use Rattle.std.specs.Arc.{arc_value}
use Rattle.poets_command.specs.Calls.{command_of, reply_of}
use Rattle.poets_rules.specs.Rules.{book_of_rules, reports_of_rules}
use Rattle.poets_engine.specs.State.{Fulfils, plain_calls}
use Rattle.poets_turn.specs.Clerks.{turn_frame}
use Rattle.poets_host.specs.code.Sharing.{rules_of}
use Rattle.poets_host.proofs.Following.{on_err}
use Rattle.poets_host.proofs.sharing.ask.Goals as goal

pub returns-clause-made : goal.returns-clause-made
returns-clause-made g c =
    let k = c.in_ok-kept.ensures.call in
    let rules = turn_frame rules_of c.args.turn.now in
    IfOk-weaker c.finish.result (λ r. Fulfils c.in_ok-kept.kept (reply_of r)) _
    (λ r fulfils. (
      record { before = k.before; longer = k.longer; last = k.last; calls = k.calls },
      fulfils (book_of_rules rules) (reports_of_rules rules) (plain_calls k.before) (command_of (arc_value c.args.command.now)) k.owed,
    ))
    c.finish.ensures

pub returns-clause-memory : goal.returns-clause-memory
returns-clause-memory g c =
    let k = c.in_ok-kept.ensures.call in
    on_err c.finish.result (inr (record { before = k.before; longer = k.longer; last = k.last; calls = k.calls }))
