use Rattle.std.proofs.Common.{◌≡◌, take}
use Rattle.poets_syntax.proofs.build.copy_params.Given as goal

abbrev pub invariant-loop-param : goal.invariant-loop-param
invariant-loop-param l = l.copies.items ≡ take l.param-index l.param-items
