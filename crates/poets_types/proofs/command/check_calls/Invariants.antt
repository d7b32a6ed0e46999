use Rattle.std.proofs.Common.{take}
use Rattle.poets_types.specs.Calls.{AreTypedCalls}
use Rattle.poets_types.proofs.command.check_calls.Given as goal

-- the calls so far are typed
abbrev pub invariant-loop-place : goal.invariant-loop-place
invariant-loop-place l = AreTypedCalls l.book l.reports (take l.place l.calls)
