use Rattle.std.proofs.Common.{◌≡◌, ◌*◌, ◌^◌, take, map, fold, Some, pos, ◌≤ℤ◌}
use Rattle.std.specs.Prelude.{neg_ℤ}
use Rattle.poets_command.specs.Calls.{folio_row_of}
use Rattle.poets_command.specs.Totals.{added}
use Rattle.poets_folio.proofs.total.sum.Given as goal

abbrev pub invariant-loop-row : goal.invariant-loop-row
invariant-loop-row l = record {
  so_far : fold (λ z row. added z row.1) (Some (pos 0)) (map folio_row_of (take l.row-index l.rows)) ≡ Some l.sum;
  least : neg_ℤ (pos (l.row-index * 2 ^ 63)) ≤ℤ l.sum;
  greatest : l.sum ≤ℤ pos (l.row-index * 2 ^ 63);
}
