use Rattle.poets_turn.specs.Clerks.{number}
use Rattle.poets_turn.proofs.Numbered.{numbered_are_all, two_numbered}
use Rattle.poets_host.proofs.Pairing.{two_closed}
use Rattle.poets_host.proofs.sharing.closed.Goals as goal

pub close-requires-clause-all : goal.close-requires-clause-all
close-requires-clause-all c =
    let all = two_numbered (λ y. number y) c.args.clerks.items c.push.new.self.items c.push-2.new.self.items c.requires.room.0 c.in-Ok.ensures.ok c.in-Ok-push.ensures.ok
    c.requires.one.1 c.requires.two.1 _ c.requires.count in
    numbered_are_all _ c.push-2.new.self.items all.0 all.1

pub returns-clause-clerks : goal.returns-clause-clerks
returns-clause-clerks c =
    two_closed c.args.one c.args.two c.close.result.calls c.args.clerks.items c.push.new.self.items c.push-2.new.self.items c.requires.room.0 c.in-Ok.ensures.ok c.in-Ok-push.ensures.ok
    c.requires.one.1 c.requires.two.1 _ c.requires.count c.close.ensures.clerks c.close.ensures.numbers
