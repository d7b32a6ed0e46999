use Rattle.poets_grammar.specs.Tokens.{toks}
use Rattle.poets_parse.proofs.Depths.{Measured}
use Rattle.poets_parse.proofs.depth.deepest.Given as goal

abbrev pub invariant-loop-token : goal.invariant-loop-token
invariant-loop-token l = Measured (toks l.tokens) l.token-index l.here l.deepest
