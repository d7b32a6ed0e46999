use Rattle.poets_turn.specs.Clerks.{number}
use Rattle.poets_turn.proofs.Numbered.{two_numbered}
use Rattle.poets_test_turnstile.proofs.turn.closed_pair.Goals as goal

pub closed-requires-clause-numbers : goal.closed-requires-clause-numbers
closed-requires-clause-numbers c = two_numbered (λ y. number y) c.args.list.items c.push.new.self.items c.push-2.new.self.items c.requires.room.0 c.in-Ok.ensures.ok c.in-Ok-push.ensures.ok c.requires.one.0 c.requires.two.0 _ c.requires.count
