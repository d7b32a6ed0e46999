use Rattle.std.proofs.Common.{◌≡◌, ◌-◌, take}
use Rattle.poets_residue.specs.code.Limits.{body_widths_at}
use Rattle.poets_residue.proofs.limits.less_bodies.Given as goal

abbrev pub invariant-loop-place : goal.invariant-loop-place
invariant-loop-place l = l.left ≡ l.initial.left - body_widths_at l.studied l.nodes (take l.place-index l.places)
