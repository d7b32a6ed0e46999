use Rattle.std.proofs.Common.{take}
use Rattle.poets_mark.specs.Naming.{LacksName}
use Rattle.poets_mark.proofs.naming.first_of.Given as goal

-- no token so far is the name
abbrev pub invariant-loop-place : goal.invariant-loop-place
invariant-loop-place l = LacksName (take l.place l.tokens) l.name
