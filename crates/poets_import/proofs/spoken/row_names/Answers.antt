use Rattle.std.proofs.Common.{Err, ap}
use Rattle.std.proofs.lemmas.Result.{err_from_is_err_and}
use Rattle.poets_lex.proofs.Readings.{Extends-then}
use Rattle.poets_import.specs.code.Spoken.{IsRowOf}
use Rattle.poets_import.proofs.OneWay.{next_row, next_no_row, nothing_read}
use Rattle.poets_import.proofs.SaidReplies.{extends_itself}
use Rattle.poets_import.proofs.Unsaid.{handed_on}
use Rattle.poets_import.proofs.spoken.row_names.Goals as goal

pub loop-row-init : goal.loop-row-init
loop-row-init c = record {
  said = nothing_read IsRowOf c.args.names.now c.new-found.result.items c.new-found.ensures;
  names = extends_itself c.args.names.now;
}

pub returns-in_err-name-clause-none : goal.returns-in_err-name-clause-none
returns-in_err-name-clause-none c = λ e.
    let told = err_from_is_err_and c.from_residual.result c.from_residual.ensures.1 in
    next_no_row c.args.rows.now c.loop-row.row-index c.row-item.result c.loop-row-test.true c.row-item.is
    c.loop-row.invariant.said (c.in_err-name.ensures.none (ap Err (handed_on told.1 told.2 e)))

pub loop-row-preserved : goal.loop-row-preserved
loop-row-preserved c = record {
  said =
      next_row c.args.rows.now c.loop-row.row-index c.row-item.result c.loop-row-test.true c.row-item.is
      c.loop-row.invariant.said c.in_ok-name.ensures.said c.in_ok-push.ensures.items;
  names = Extends-then c.args.names.now c.loop-row.names c.row_name.new.names c.loop-row.invariant.names c.row_name.ensures.names;
}
