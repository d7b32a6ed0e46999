use Rattle.std.proofs.Common.{Err, ap}
use Rattle.std.proofs.lemmas.Result.{err_from_is_err_and}
use Rattle.poets_lex.proofs.Readings.{Extends-then}
use Rattle.poets_command.specs.Statements.{statement_of, statements_of}
use Rattle.poets_import.specs.code.Spoken.{IsSentence}
use Rattle.poets_import.proofs.OneWay.{next_read, next_unread, nothing_read, one_sentence_read}
use Rattle.poets_import.proofs.SaidReplies.{extends_itself}
use Rattle.poets_import.proofs.Unsaid.{handed_on}
use Rattle.poets_import.proofs.book.statements_in.Goals as goal

pub loop-value-init : goal.loop-value-init
loop-value-init c = record {
  said = nothing_read IsSentence c.args.names.now (statements_of c.new-statements.result.items) (ap statements_of c.new-statements.ensures);
  names = extends_itself c.args.names.now;
}

pub returns-in_err-statement-clause-none : goal.returns-in_err-statement-clause-none
returns-in_err-statement-clause-none c = λ e.
    let told = err_from_is_err_and c.from_residual.result c.from_residual.ensures.1 in
    next_unread IsSentence statement_of one_sentence_read c.args.values.now c.loop-value.statements.items c.loop-value.value-index c.value-item.result c.loop-value-test.true c.value-item.is
    c.loop-value.invariant.said (c.in_err-statement.ensures.none (ap Err (handed_on told.1 told.2 e)))

pub loop-value-preserved : goal.loop-value-preserved
loop-value-preserved c = record {
  said =
      next_read IsSentence statement_of c.args.values.now c.loop-value.statements.items c.loop-value.value-index c.value-item.result c.loop-value-test.true c.value-item.is
      c.loop-value.invariant.said c.in_ok-statement.ensures.said c.in_ok-push.ensures.items;
  names = Extends-then c.args.names.now c.loop-value.names c.sentence_in.new.names c.loop-value.invariant.names c.sentence_in.ensures.names;
}
