use Rattle.std.proofs.lemmas.Result.{IfOk-weaker}
use Rattle.poets_command.specs.Calls.{command_of, reply_of}
use Rattle.poets_rules.specs.Rules.{book_of_rules, reports_of_rules}
use Rattle.poets_engine.specs.State.{Fulfils, plain_calls}
use Rattle.poets_engine.proofs.machine.EngineMachine.finish.Goals as goal

pub returns : goal.returns
returns g c =
    IfOk-weaker c.finish.result (λ r. Fulfils c.args.kept (reply_of r)) _
    (λ r fulfils. λ rules before clerk command owes. fulfils (book_of_rules rules) (reports_of_rules rules) (plain_calls before) (command_of command) owes) c.finish.ensures
