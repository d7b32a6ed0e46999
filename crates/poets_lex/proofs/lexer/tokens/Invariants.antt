use Rattle.std.proofs.Common.{◌≡◌, ◌+◌, length}
use Rattle.poets_lex.specs.Lexes.{Reads}
use Rattle.poets_lex.proofs.lexer.tokens.Given as goal

abbrev pub invariant-loop-rest : goal.invariant-loop-rest
invariant-loop-rest l = record {
  read : Reads l.fn.names l.text 0 l.tokens.items l.names l.rest;
  here : l.place + length l.rest ≡ length l.text;
}

abbrev pub decreases-loop-rest : goal.decreases-loop-rest
decreases-loop-rest l = length l.rest
