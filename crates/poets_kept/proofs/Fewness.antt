-- The texts of a session's calls are few.
use Rattle.std.proofs.Common.{ℕ, ◌+◌, List, length, arith}
use Rattle.std.proofs.lemmas.List.Elements.{All-map}
use Rattle.std.proofs.lemmas.List.Folds.{fold-map}
use Rattle.poets_command.specs.Calls.{Call, calls_of}
use Rattle.poets_command.specs.Plain.{Entry}
use Rattle.poets_printed.specs.Numbered.{numbered_text}
use Rattle.poets_session.specs.declared.form.Form.TheVariants as F
use Rattle.poets_session.specs.Sessions.{scripts_of}
use Rattle.poets_stored.proofs.Sharing.{IsOfClerk}
use Rattle.poets_stored.proofs.Together.{calls_few}
use Rattle.poets_kept.specs.Laws.{KeptTextsAreFew}

pub kept_texts_few : KeptTextsAreFew
kept_texts_few text names statements h small is part =
    let calls = calls_of h in
    let clerks = All-map (IsOfClerk (length (scripts_of statements))) (λ (e : Entry). (e.clerk, e.command)) h part.clerks in
    let few = calls_few text F.Clerks names statements calls small is clerks part.own in
    omega (arith, few, fold-map (λ (sum : ℕ) (t : List ℕ). sum + length t) (λ (call : Call). numbered_text names call.0 call.1) 0 calls)
