use Rattle.std.proofs.Common.{length, map}
use Rattle.poets_expr.specs.Expression.{expression_of}
use Rattle.poets_grammar.specs.Reading.{expression}
use Rattle.poets_parse.proofs.Lists.{Listing}
use Rattle.poets_parse.proofs.list.some_arguments.Given as goal

abbrev pub invariant-loop-args : goal.invariant-loop-args
invariant-loop-args l = Listing expression l.tokens (map expression_of l.args.items) l.rest

abbrev pub decreases-loop-args : goal.decreases-loop-args
decreases-loop-args l = length l.rest
