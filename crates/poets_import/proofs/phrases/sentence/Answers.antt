use Rattle.std.proofs.Common.{Err, ap}
use Rattle.std.proofs.lemmas.Result.{err_from_is_err_and}
use Rattle.poets_grammar.specs.Tokens.{toks}
use Rattle.poets_import.proofs.Unsaid.{handed_on, no_sentence}
use Rattle.poets_import.proofs.phrases.sentence.Goals as goal

pub returns-in_err-statement_stored-clause-none : goal.returns-in_err-statement_stored-clause-none
returns-in_err-statement_stored-clause-none c = λ e.
    let told = err_from_is_err_and c.from_residual.result c.from_residual.ensures.1 in
    let found = c.in_err-statement_stored.ensures in
    no_sentence (toks c.args.tokens.now) c.in_err-statement_stored.field-0.0 (handed_on told.1 told.2 e)
    (λ f. found.none (ap Err f)) (λ f. found.deep (ap Err f))
