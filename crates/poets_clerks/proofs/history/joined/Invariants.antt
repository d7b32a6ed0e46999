use Rattle.std.proofs.Common.{◌≡◌, map}
use Rattle.std.specs.List.{flat_map}
use Rattle.poets_clerks.specs.Scripts.{answers_of, pairs_of}
use Rattle.poets_clerks.proofs.history.joined.Given as goal

abbrev pub invariant-loop-done : goal.invariant-loop-done
invariant-loop-done g l = pairs_of l.all.items ≡ flat_map (λ done. done) (map answers_of l.yielded)
