use Rattle.std.proofs.Common.{rules}
use Rattle.poets_grammar.specs.Tokens.{toks}
use Rattle.poets_parse.proofs.Depths.{deep}
use Rattle.poets_parse.proofs.depth.is_deeper.Goals as goal

pub returns-then-deepest-most : goal.returns-then-deepest-most
returns-then-deepest-most c = (λ t. deep c.args.most (toks c.args.tokens.now) c.deepest.result c.deepest.ensures.reached c.if-deepest-most.true, λ d. search rules)
