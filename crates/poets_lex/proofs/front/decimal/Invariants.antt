use Rattle.std.proofs.Common.{◌≡◌, pos, take}
use Rattle.poets_lex.specs.Bytes.{decimal}
use Rattle.poets_lex.proofs.front.decimal.Given as goal

abbrev pub invariant-loop-digit : goal.invariant-loop-digit
invariant-loop-digit l = l.number ≡ pos (decimal (take l.digit-index l.digits))
