-- The history of scripts: each clerk has made his own.
use Rattle.std.proofs.Common.{◌≡◌, ℕ, suc, ◌≤◌, List, [], ◌∷◌, length, refl, ◌∙◌, ap, ap₂, subst, arith}
use Rattle.std.specs.Prelude.{slice_get}
use Rattle.std.specs.List.{All}
use Rattle.std.proofs.lemmas.Bool.{eq-eqb, ne_eqb}
use Rattle.std.proofs.lemmas.List.Elements.{All-head, All-tail, All-map, All-weaker}
use Rattle.poets_command.specs.Plain.{Command, Entry}
use Rattle.poets_command.specs.Calls.{Call, calls_of, own_calls}
use Rattle.poets_command.specs.Declarations.{book_from, reports_of}
use Rattle.poets_command.specs.Said.{Statement}
use Rattle.poets_rules.specs.declared.rules.Rules.{Rules}
use Rattle.poets_rules.specs.Rules as R
use Rattle.poets_history.specs.Histories.{IsRightHistory}
use Rattle.poets_session.specs.Sessions.{Represents, scripts_of, commands_in, journal_of}
use Rattle.poets_session.specs.declared.session.Session.{Session}
use Rattle.poets_machine.specs.Histories.{calls_by as machine_calls}
use Rattle.poets_clerks.specs.Histories.{HasScripts}
use mathlib.Core.Logic.{dite}
use native.Mathlib.Decide.{ℕ_discrete}
use Rattle.poets_top.specs.Scripts.{under_clerk}
use Rattle.poets_top.specs.Running.{IsHistoryOf}
use Rattle.poets_top.specs.Replaying.{IsReplayOf}
use Rattle.poets_making.proofs.Taking.{All-of_map}

-- ---- the commands of each clerk

-- a clerk's calls in a history, as it is told of machines
pub own_same : (clerk : ℕ) (calls : List Call) → own_calls clerk calls ≡ machine_calls clerk calls
own_same clerk [] = refl
own_same clerk (c ∷ calls) = dite (ℕ_discrete c.0 clerk)
    (λ same. rw (eq-eqb c.0 clerk same) (ap (λ rs. c.1 ∷ rs) (own_same clerk calls)))
    (λ ne. rw (ne_eqb c.0 clerk ne) (own_same clerk calls))

-- ---- histories

-- a right history for rules is one for what they say
pub right_for : (rules : Rules) (statements : List Statement) (h : List Entry) → R.book_of_rules rules ≡ book_from statements → R.reports_of_rules rules ≡ reports_of statements →
    IsRightHistory (R.book_of_rules rules) (R.reports_of_rules rules) h → IsRightHistory (book_from statements) (reports_of statements) h
right_for rules statements h book reports right =
    subst (λ q. IsRightHistory (book_from statements) q h) reports (subst (λ b. IsRightHistory b (R.reports_of_rules rules) h) book right)

module _ (rules : Rules) (statements : List Statement) (h : List Entry) (book : R.book_of_rules rules ≡ book_from statements)
    (reports : R.reports_of_rules rules ≡ reports_of statements) (right : IsRightHistory (R.book_of_rules rules) (R.reports_of_rules rules) h) where
  -- a right history of the journal's calls
  pub IsReplayOf-made : calls_of h ≡ journal_of statements → IsReplayOf statements h
  IsReplayOf-made calls = record { right = right_for rules statements h book reports right; calls = calls }

  -- a right history of the scripts is one of the session
  pub IsHistoryOf-made : HasScripts (scripts_of statements) (calls_of h) → IsHistoryOf statements h
  IsHistoryOf-made made =
      let n = length (scripts_of statements) in
      record {
        right = right_for rules statements h book reports right;
        own = λ place script at. own_same (suc place) (calls_of h) ∙ (ap (λ k. machine_calls k (calls_of h)) (omega arith) ∙ made.own place script at);
        clerks = All-of_map (λ (call : Call). (1 ≤ call.0) × (call.0 ≤ n)) (λ (e : Entry). (e.clerk, e.command)) h made.clerks;
      }

-- the same of a session that holds what the statements say
pub IsHistoryOf-read : (statements : List Statement) (session : Session) (h : List Entry) → Represents statements session → IsRightHistory (R.book_of_rules session.rules) (R.reports_of_rules session.rules) h →
    HasScripts (commands_in session.scripts.items) (calls_of h) → IsHistoryOf statements h
IsHistoryOf-read statements session h holds right made =
    IsHistoryOf-made session.rules statements h holds.book holds.reports right (subst (λ ss. HasScripts ss (calls_of h)) holds.scripts made)

-- ---- one clerk

own_calls-all : (clerk : ℕ) (calls : List Call) → All (λ call. call.0 ≡ clerk) calls → calls ≡ under_clerk clerk (own_calls clerk calls)
own_calls-all clerk [] all = refl
own_calls-all clerk (call ∷ calls) all =
    let own : call.0 ≡ clerk = All-head (λ call. call.0 ≡ clerk) call calls all in
    rw (eq-eqb call.0 clerk own) (ap₂ (λ k others. (k, call.1) ∷ others) own (own_calls-all clerk calls (All-tail (λ call. call.0 ≡ clerk) call calls all)))

-- where there is one script, its clerk makes each call
pub one_clerk : (statements : List Statement) (script : List Command) (h : List Entry) → scripts_of statements ≡ script ∷ [] → IsHistoryOf statements h →
    calls_of h ≡ under_clerk 1 script
one_clerk statements script h one made =
    let mine : own_calls 1 (calls_of h) ≡ script = made.own 0 script (ap (λ scripts. slice_get scripts 0) one) in
    let many : length (scripts_of statements) ≡ 1 = ap length one in
    let all : All (λ call. call.0 ≡ 1) (calls_of h) =
    All-map (λ (call : Call). call.0 ≡ 1) (λ (e : Entry). (e.clerk, e.command)) h
    (All-weaker (λ (e : Entry). (1 ≤ e.clerk) × (e.clerk ≤ length (scripts_of statements))) (λ e. e.clerk ≡ 1) (λ e here. omega (arith, here.0, here.1, many)) h made.clerks) in
    own_calls-all 1 (calls_of h) all ∙ ap (under_clerk 1) mine
