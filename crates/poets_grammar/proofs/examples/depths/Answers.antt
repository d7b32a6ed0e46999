use Rattle.std.proofs.Common.{arith}
use Rattle.poets_grammar.specs.TooDeep.{IsDeeper}
use Rattle.poets_grammar.specs.Examples.{nested, added}
use Rattle.poets_grammar.proofs.Depths.{shallow}
use Rattle.poets_grammar.proofs.examples.depths.Goals as goal

pub returns-clause-deep : goal.returns-clause-deep
returns-clause-deep c = IsDeeper.Nested 201 (omega arith)

pub returns-clause-behind_closing : goal.returns-clause-behind_closing
returns-clause-behind_closing c = IsDeeper.Nested 202 (omega arith)

pub returns-clause-not_deep : goal.returns-clause-not_deep
returns-clause-not_deep c = shallow (nested 200) (omega arith) (omega arith)

pub returns-clause-long : goal.returns-clause-long
returns-clause-long c = IsDeeper.Long (omega arith)

pub returns-clause-not_long : goal.returns-clause-not_long
returns-clause-not_long c = shallow (added 1000) (omega arith) (omega arith)
