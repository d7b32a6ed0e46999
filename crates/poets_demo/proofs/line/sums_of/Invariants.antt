use Rattle.std.proofs.Common.{◌≡◌, ◌*◌, ◌^◌, ◌≤ℤ◌, pos, take}
use Rattle.std.specs.Prelude.{neg_ℤ}
use Rattle.poets_command.specs.Calls.{history_of}
use Rattle.poets_demo.specs.Line.{count_replies, is_ended, is_recorded, is_refused, is_registered, paid}
use Rattle.poets_demo.proofs.line.sums_of.Given as goal

abbrev pub invariant-loop-entry : goal.invariant-loop-entry
invariant-loop-entry l =
    let h = history_of (take l.entry-index l.entries) in
    record {
      registered : l.sums.registered ≡ count_replies is_registered h;
      recorded : l.sums.recorded ≡ count_replies is_recorded h;
      ended : l.sums.ended ≡ count_replies is_ended h;
      refused : l.sums.refused ≡ count_replies is_refused h;
      paid : l.sums.paid ≡ paid h;
      least : neg_ℤ (pos (l.entry-index * 2 ^ 63)) ≤ℤ l.sums.paid;
      greatest : l.sums.paid ≤ℤ pos (l.entry-index * 2 ^ 63);
    }
