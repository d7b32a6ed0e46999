-- Parts of a session's history.
use Rattle.std.proofs.Common.{suc, ◌+◌, ◌≤◌, List, ◌++◌, length, ◌∙◌, ap, subst, arith}
use Rattle.poets_command.specs.Calls.{Call, calls_of}
use Rattle.poets_command.specs.Plain.{Entry}
use Rattle.poets_command.specs.Said.{Statement}
use Rattle.poets_rules.specs.Rules as R
use Rattle.poets_history.specs.Histories.{IsRightHistory}
use Rattle.poets_clerks.specs.Histories.{HasScriptParts}
use Rattle.poets_machine.specs.Histories.{calls_by as machine_calls}
use Rattle.poets_making.proofs.Taking.{All-of_map}
use Rattle.poets_session.specs.Sessions.{Represents, commands_in, scripts_of}
use Rattle.poets_session.specs.declared.session.Session.{Session}
use Rattle.poets_top.proofs.Owning.{own_same, right_for}
use Rattle.poets_keeping.specs.Keeping.{IsPartOf}

-- a right history of a part of the scripts of a session
pub IsPartOf-read : (statements : List Statement) (session : Session) (h : List Entry) → Represents statements session → IsRightHistory (R.book_of_rules session.rules) (R.reports_of_rules session.rules) h →
    HasScriptParts (commands_in session.scripts.items) (calls_of h) → IsPartOf statements h
IsPartOf-read statements session h holds right made =
    let parts = subst (λ ss. HasScriptParts ss (calls_of h)) holds.scripts made in
    let n = length (scripts_of statements) in
    record {
      right = right_for session.rules statements h holds.book holds.reports right;
      own = λ place script at.
          let part = parts.own place script at in
          let own = own_same (suc place) (calls_of h) ∙ ap (λ k. machine_calls k (calls_of h)) (omega arith) in
          (part.0, ap (λ l. l ++ part.0) own ∙ part.1);
      clerks = All-of_map (λ (call : Call). (1 ≤ call.0) × (call.0 ≤ n)) (λ (e : Entry). (e.clerk, e.command)) h parts.clerks;
    }
