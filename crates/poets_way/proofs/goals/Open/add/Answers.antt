use Rattle.std.proofs.Common.{refl}
use Rattle.poets_way.proofs.Opened.{adds-one}
use Rattle.poets_way.proofs.goals.Open.add.Goals as goal

pub returns : goal.returns
returns c =
    adds-one (record { term = c.args.term; pairs = c.args.pairs; count = c.args.count }) c.args.self.now
    (record { goals = c.push.new.list; events = c.args.self.now.events }) c.in_ok-push.ensures.items refl
