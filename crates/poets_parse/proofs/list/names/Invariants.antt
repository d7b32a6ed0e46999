use Rattle.std.proofs.Common.{length}
use Rattle.poets_grammar.specs.Reading.{name}
use Rattle.poets_parse.proofs.Lists.{Listing}
use Rattle.poets_parse.proofs.list.names.Given as goal

abbrev pub invariant-loop-names : goal.invariant-loop-names
invariant-loop-names l = Listing name l.tokens l.names.items l.rest

abbrev pub decreases-loop-names : goal.decreases-loop-names
decreases-loop-names l = length l.rest
