use Rattle.std.proofs.Common.{Err, ap, map}
use Rattle.std.proofs.lemmas.Result.{err_from_is_err_and}
use Rattle.poets_lex.proofs.Readings.{Extends-then}
use Rattle.poets_import.specs.code.Parts.{said_of}
use Rattle.poets_import.specs.code.Spoken.{EntrySaid}
use Rattle.poets_import.proofs.Lists.{pushed_values}
use Rattle.poets_import.proofs.OneWay.{next_read, next_unread, nothing_read, one_entry_said}
use Rattle.poets_import.proofs.SaidReplies.{extends_itself}
use Rattle.poets_import.proofs.Unsaid.{handed_on}
use Rattle.poets_import.proofs.spoken.all_spoken.Goals as goal

pub loop-value-init : goal.loop-value-init
loop-value-init c = record {
  said = nothing_read EntrySaid c.args.names.now (map said_of c.new-all.result.items) (ap (map said_of) c.new-all.ensures);
  values = ap (map (λ s. s.value.now)) c.new-all.ensures;
  names = extends_itself c.args.names.now;
}

pub returns-in_err-spoken-clause-none : goal.returns-in_err-spoken-clause-none
returns-in_err-spoken-clause-none c = λ e.
    let told = err_from_is_err_and c.from_residual.result c.from_residual.ensures.1 in
    next_unread EntrySaid said_of one_entry_said c.args.values.now c.loop-value.all.items c.loop-value.value-index c.value-item.result c.loop-value-test.true c.value-item.is
    c.loop-value.invariant.said (c.in_err-spoken.ensures.none (ap Err (handed_on told.1 told.2 e)))

pub loop-value-preserved : goal.loop-value-preserved
loop-value-preserved c = record {
  said =
      next_read EntrySaid said_of c.args.values.now c.loop-value.all.items c.loop-value.value-index c.value-item.result c.loop-value-test.true c.value-item.is
      c.loop-value.invariant.said c.in_ok-spoken.ensures.said c.in_ok-push.ensures.items;
  values =
      pushed_values (λ s. s.value.now) c.args.values.now c.loop-value.all.items c.loop-value.value-index c.value-item.result c.loop-value-test.true c.value-item.is
      c.loop-value.invariant.values c.in_ok-spoken.ensures.value c.in_ok-push.ensures.items;
  names = Extends-then c.args.names.now c.loop-value.names c.spoken_in.new.names c.loop-value.invariant.names c.spoken_in.ensures.names;
}
