use Rattle.std.proofs.Common.{◌+◌, ◌≤◌, length}
use Rattle.poets_grammar.specs.Tokens.{toks, AreNatural}
use Rattle.poets_command.specs.Statements.{statements_of}
use Rattle.poets_session.specs.Pieces.{pieces_of}
use Rattle.poets_session.proofs.Saying.{Standing}
use Rattle.poets_session.proofs.splitting.statements.Given as goal

-- the statements so far are read
abbrev pub invariant-loop-rest : goal.invariant-loop-rest
invariant-loop-rest l =
    Standing (pieces_of (toks l.tokens)) (pieces_of (toks l.rest)) (statements_of l.found.items) × AreNatural l.rest × (length l.found.items + length l.rest ≤ length l.tokens)

abbrev pub decreases-loop-rest : goal.decreases-loop-rest
decreases-loop-rest l = length l.rest
