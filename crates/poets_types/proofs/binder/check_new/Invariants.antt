use Rattle.std.proofs.Common.{◌≡◌, [], take, drop, reverse}
use Rattle.poets_syntax.specs.Typed.{in_use, check_new}
use Rattle.poets_types.specs.code.Indices.{book_in, reports_in}
use Rattle.poets_types.proofs.binder.check_new.Given as goal

-- the rest gives the answer
abbrev pub invariant-loop-place : goal.invariant-loop-place
invariant-loop-place l =
    check_new (in_use (book_in l.index) (reports_in l.index)) [] l.names ≡ check_new (in_use (book_in l.index) (reports_in l.index)) (reverse (take l.place l.names)) (drop l.place l.names)
