use Rattle.std.proofs.Common.{◌≡◌, ◌++◌, length, drop, reverse}
use Rattle.poets_syntax.specs.Book.{parameter_env}
use Rattle.poets_report.proofs.scope.Scope.new.Given as goal

-- the pairs of the rest stand before those of the arguments so far
abbrev pub invariant-loop-param : goal.invariant-loop-param
invariant-loop-param l = parameter_env l.params l.args ≡ parameter_env (drop (length l.yielded) l.params) (drop (length l.yielded) l.args) ++ reverse l.pairs.items
