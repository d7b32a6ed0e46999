use Rattle.std.proofs.Common.{length}
use Rattle.std.proofs.lemmas.Iterator.Adapters.{YieldsList-from_vec}
use Rattle.std.proofs.lemmas.Iterator.Consumers.{YieldsList-turn}
use Rattle.poets_session.proofs.Scripting.{number_at}
use Rattle.poets_session.proofs.scripts.calls_in.Goals as goal

pub add-requires : goal.add-requires
add-requires c =
    let all = YieldsList-from_vec c.args.statements.items (cc) (cc) in
    let turn = YieldsList-turn all c.loop-statement.yielded _ c.loop-statement.yielded_by _ c.next.new.self c.in-Some.statement c.in-Some.is c.next.ensures.steps in
    number_at c.args.statements.items (length c.loop-statement.yielded) c.in-Some.statement turn c.requires.clerks
