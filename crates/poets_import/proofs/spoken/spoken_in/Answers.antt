use Rattle.std.proofs.Common.{ℕ, List, Err, ap, sym, subst}
use Rattle.std.proofs.lemmas.Result.{err_from_is_err_and}
use Rattle.serde_json.specs.Data.{Data}
use Rattle.poets_command.specs.Said.{Command}
use Rattle.poets_lex.specs.Table.{Table}
use Rattle.serde_json.specs.View.{view}
use Rattle.poets_import.specs.Phrases.{Says, Sentence}
use Rattle.poets_import.specs.code.Spoken.{ReplySaid}
use Rattle.poets_import.proofs.OneWay.{one_command_said}
use Rattle.poets_import.proofs.Texts.{same_found}
use Rattle.poets_import.proofs.Unsaid.{handed_on}
use Rattle.poets_import.proofs.spoken.spoken_in.Goals as goal

pub returns-in_err-command-clause-none : goal.returns-in_err-command-clause-none
returns-in_err-command-clause-none c = λ e x after h.
    let told = err_from_is_err_and c.from_residual.result c.from_residual.ensures.1 in
    c.in_err-command.ensures.none (ap Err (handed_on told.1 told.2 e)) x.0 h.between
    (subst (λ (t : List ℕ). Says c.args.names.now t (Sentence (Command x.0)) h.between) (same_found c.in-Some.ensures h.has_text) h.command)

pub returns-in_err-owed-clause-none : goal.returns-in_err-owed-clause-none
returns-in_err-owed-clause-none c = λ e x after h.
    let told = err_from_is_err_and c.from_residual-in_err-owed.result c.from_residual-in_err-owed.ensures.1 in
    let says = subst (λ (t : List ℕ). Says c.args.names.now t (Sentence (Command x.0)) h.between) (same_found c.in-Some.ensures h.has_text) h.command in
    let same = one_command_said c.in_ok-command.ensures.said says in
    let replied = subst (λ (d : Data). ReplySaid h.between d x.1 after) (same_found c.in-Some-get.ensures h.has_reply) h.replied in
    c.in_err-owed.ensures.none (ap Err (handed_on told.1 told.2 e)) x.1 after
    (subst (λ (t : Table). ReplySaid t (view c.in-Some-get.reply.now) x.1 after) (sym same.1) replied)
