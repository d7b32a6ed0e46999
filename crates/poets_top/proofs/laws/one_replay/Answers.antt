use Rattle.poets_top.proofs.Repeating.{one_replay, one_replayed}
use Rattle.poets_top.proofs.laws.one_replay.Goals as goal

pub returns-clause-history : goal.returns-clause-history
returns-clause-history c = one_replay

pub returns-clause-replayed : goal.returns-clause-replayed
returns-clause-replayed c = one_replayed
