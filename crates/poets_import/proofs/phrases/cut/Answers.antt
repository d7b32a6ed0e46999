use Rattle.std.proofs.Common.{ℕ, List, subst}
use Rattle.std.proofs.lemmas.Result.{err_from_is_err_and}
use Rattle.poets_lex.specs.Lexes.{FirstFault, UnlessMemory}
use Rattle.poets_import.proofs.Unsaid.{handed_on, uncut}
use Rattle.poets_import.proofs.phrases.cut.Goals as goal

pub returns-in_err-tokens-clause-none : goal.returns-in_err-tokens-clause-none
returns-in_err-tokens-clause-none c = λ e.
    let told = err_from_is_err_and c.from_residual.result c.from_residual.ensures.1 in
    let fault = c.in_err-tokens.field-0.0 in
    uncut c.args.names.now c.args.text.now fault (handed_on told.1 told.2 e)
    (subst (λ (t : List ℕ). UnlessMemory (FirstFault c.args.names.now t) fault) c.as_bytes.ensures.value c.in_err-tokens.ensures.fault)
