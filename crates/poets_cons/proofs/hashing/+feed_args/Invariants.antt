use Rattle.std.proofs.Common.{length}
use Rattle.poets_cons.proofs.hashing.+feed_args.Given as goal

abbrev pub decreases-feed_args : goal.decreases-feed_args
decreases-feed_args g l = length l.args.now
