-- The texts of the calls that clerks make of a session's scripts, together.
use Rattle.std.proofs.Common.{◌≡◌, ℕ, suc, ◌^◌, ◌<◌, ◌≤◌, List, [], ◌∷◌, All, length, map, Some, slice_get, arith}
use Rattle.std.specs.Prelude.{sum_by}
use Rattle.std.proofs.lemmas.List.{length-map}
use Rattle.std.proofs.lemmas.List.Elements.{All-weaker}
use Rattle.std.proofs.lemmas.List.Sums.{sum_by-cons}
use mathlib.Core.List.{IsPrefix}
use Rattle.poets_value.specs.Limits.{longest_text}
use Rattle.poets_lex.specs.Table.{Table}
use Rattle.poets_command.specs.Calls.{Call, own_calls}
use Rattle.poets_command.specs.Plain.{Command}
use Rattle.poets_command.specs.Said.{Statement}
use Rattle.poets_printed.specs.Numbered.{numbered_text}
use Rattle.poets_session.specs.declared.form.Form.{Form}
use Rattle.poets_session.specs.Sessions.{Text, IsSession, scripts_of}
use Rattle.poets_session.proofs.Scripting.{scripts_few}
use Rattle.poets_stored.proofs.Fewness.{commands_few}
use Rattle.poets_stored.proofs.Sharing.{IsOfClerk, shares_within}
use Rattle.poets_stored.proofs.Sources.{printed_length, session_printed}
use Rattle.poets_stored.proofs.Storing.{calls_within}

-- a list is as long as its elements, counted one by one
counted : {X : Type 0} (xs : List X) → sum_by (λ (x : X). 1) xs ≡ length xs
counted [] = omega arith
counted {X} (x ∷ xs) = omega (arith, counted xs, sum_by-cons (λ (y : X). 1) x xs)

-- where each clerk's calls are a prefix of his script, and no other clerk's stand there
pub calls_few :
    (text : Text) (form : Form) (names : Table) (statements : List Statement) (calls : List Call) →
    length text ≤ longest_text → IsSession text form names statements → All (IsOfClerk (length (scripts_of statements))) calls →
    ((place : ℕ) (script : List Command) → slice_get (scripts_of statements) place ≡ Some script → IsPrefix (own_calls (suc place) calls) script) →
    sum_by (λ (call : Call). length (numbered_text names call.0 call.1)) calls < 1_400_000_000
calls_few text form names statements calls small is clerks own =
    let scripts = scripts_of statements in
    let commands = map (λ (call : Call). call.1) calls in
    let few = scripts_few form statements is.valid.placed in
    let low = All-weaker (IsOfClerk (length scripts)) (λ (call : Call). call.0 < 2 ^ 32) (λ call of. omega (arith, of.1, few)) calls clerks in
    omega (
      arith,
      small,
      calls_within names calls low,
      shares_within (printed_length names) scripts calls clerks own,
      session_printed text names statements is.read,
      shares_within (λ (c : Command). 1) scripts calls clerks own,
      commands_few form statements is.valid.placed,
      counted commands,
      length-map calls (λ (call : Call). call.1),
    )
