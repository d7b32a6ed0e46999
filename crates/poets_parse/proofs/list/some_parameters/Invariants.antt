use Rattle.std.proofs.Common.{length}
use Rattle.poets_grammar.specs.StatementReading.{parameter}
use Rattle.poets_parse.proofs.Lists.{Listing}
use Rattle.poets_parse.proofs.list.some_parameters.Given as goal

abbrev pub invariant-loop-params : goal.invariant-loop-params
invariant-loop-params l = Listing parameter l.tokens l.params.items l.rest

abbrev pub decreases-loop-params : goal.decreases-loop-params
decreases-loop-params l = length l.rest
