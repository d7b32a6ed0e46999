use Rattle.std.proofs.Common.{take}
use Rattle.poets_session.proofs.Cutting.{NoEnd}
use Rattle.poets_session.proofs.pieces.tokens_ahead.Given as goal

-- no token so far ends a statement
abbrev pub invariant-loop-place : goal.invariant-loop-place
invariant-loop-place l = NoEnd (take l.place l.tokens)
