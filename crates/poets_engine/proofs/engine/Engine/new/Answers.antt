use Rattle.std.proofs.Common.{ap}
use Rattle.poets_engine.specs.State.{plain_calls, commands_of}
use Rattle.poets_history.specs.Replies.{Legal}
use Rattle.poets_engine.proofs.Histories.{empty_stands}
use Rattle.poets_engine.proofs.engine.Engine.new.Goals as goal

pub invariant_of-result : goal.invariant_of-result
invariant_of-result c = (
  empty_stands c.args.rules (plain_calls (commands_of c.new-2.result.items)) c.new.result c.recall.ensures c.requires
      (ap (λ h. plain_calls (commands_of h)) c.new-2.ensures) c.new.ensures.rows c.new.ensures.log c.new.ensures.watches,
  c.new-3.ensures c.args.rules,
)

pub returns-clause-legal : goal.returns-clause-legal
returns-clause-legal c = Legal.Empty
