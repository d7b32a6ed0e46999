use Rattle.poets_turn.specs.Clerks.{clerk_count}
use Rattle.poets_turn.proofs.Numbered.{numbered_are_all}
use Rattle.poets_bench_turnstile.proofs.closed.Goals as goal

pub close-requires-clause-all : goal.close-requires-clause-all
close-requires-clause-all c = numbered_are_all (clerk_count c.args.turn) c.args.clerks.items c.requires.numbers.0 c.requires.numbers.1
