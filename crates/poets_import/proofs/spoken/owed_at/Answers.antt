use Rattle.std.proofs.Common.{ℕ, List, Option, Err, ap, sym, subst}
use Rattle.std.proofs.lemmas.Result.{err_from_is_err_and}
use Rattle.poets_import.specs.code.Spoken.{OwedSaid}
use Rattle.poets_import.proofs.Unsaid.{handed_on}
use Rattle.poets_import.proofs.spoken.owed_at.Goals as goal

pub returns-in_err-owed_in-in-Some-clause-none : goal.returns-in_err-owed_in-in-Some-clause-none
returns-in_err-owed_in-in-Some-clause-none c = λ e owed after h.
    let told = err_from_is_err_and c.from_residual.result c.from_residual.ensures.1 in
    let said = subst (λ (o : Option (List ℕ)). OwedSaid c.args.names.now o owed after) (sym c.in-Some.ensures) h in
    c.in_err-owed_in-in-Some.ensures.none (ap Err (handed_on told.1 told.2 e)) said.0 after said.2
