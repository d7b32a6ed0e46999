-- What follows from a right reply to one call more.
use Rattle.std.proofs.Common.{◌≡◌, ℕ, false, List, [], ◌∷◌, ◌++◌, Result, Ok, Err, IfOk, OnErr, refl, sym, ◌∙◌, ap, subst}
use Rattle.std.specs.declared.alloc.Global.{Global}
use Rattle.std.specs.declared.sync.Arc.{Arc}
use Rattle.std.specs.Arc.{arc_value}
use Rattle.poets_syntax.specs.Plain.{Book}
use Rattle.poets_report.specs.Plain.{Report}
use Rattle.poets_command.specs.declared.call.Command as code
use Rattle.poets_command.specs.Calls.{Call, calls_of, command_of, reply_of}
use Rattle.poets_command.specs.Plain.{Command, Entry, Reply}
use Rattle.poets_rules.specs.Rules.{book_of_rules, reports_of_rules}
use Rattle.poets_history.specs.Frame.{frame_of}
use Rattle.poets_history.specs.Histories.{AnswersIn, IsLegal}
use Rattle.poets_history.specs.Ledger.{ledger_of, is_accepted, with_entry}
use Rattle.poets_history.specs.Replies.{Legal}
use Rattle.poets_history.proofs.Accepting.{only_accepted_change}
use Rattle.poets_history.proofs.Histories.{calls_last, ledger_last, one_history, one_answer as after_calls}
use Rattle.poets_engine.specs.Accounts.{Accounts}
use Rattle.poets_engine.specs.Accepted.{has_changed}
use Rattle.poets_engine.specs.State.{State, AddsCall, plain_calls}
use Rattle.poets_engine.specs.Works.{OwesReply}
use Rattle.poets_engine.specs.declared.kept.Body.{Body}
use Rattle.poets_engine.specs.declared.kept.Body.TheVariants.{Done, Folio}
use Rattle.poets_engine.proofs.Histories.{plain_last}
use Rattle.poets_host.specs.Calls.{HasCallMore, IsReplyAfter, KeepsAll}

-- there is one legal history of the same calls
pub one_legal : (book : Book) (reports : List Report) (h h' : List Entry) → IsLegal book reports h → IsLegal book reports h' → calls_of h ≡ calls_of h' → h ≡ h'
one_legal book reports h h' legal legal' same =
    one_history (frame_of book reports) h h' legal legal' same

module _ (book : Book) (reports : List Report) (calls : List Call) (command : Command) (reply : Reply) (answers : AnswersIn book reports calls command reply) where
  -- the legal history of the calls before
  abbrev pub before : List Entry
  before = answers.history

  pub before_legal : IsLegal book reports before
  before_legal = answers.legal

  -- a legal history of these calls is that one
  pub before_is : (h : List Entry) → IsLegal book reports h → calls_of h ≡ calls → h ≡ before
  before_is h legal same = one_legal book reports h before legal before_legal (same ∙ sym answers.same)

  -- a legal history with the call at its end has the reply there
  pub ledger_after : (clerk : ℕ) (h : List Entry) → IsLegal book reports h → calls_of h ≡ calls ++ (clerk, command) ∷ [] → ledger_of h ≡ with_entry (ledger_of before) command reply
  ledger_after clerk h legal same =
      let e : Entry = record { clerk = clerk; command = command; reply = reply } in
      let more : IsLegal book reports (before ++ e ∷ []) = Legal.More e answers.legal answers.reply in
      let calls_are = same ∙ ap (λ cs. cs ++ (clerk, command) ∷ []) (sym answers.same) ∙ sym (calls_last before e) in
      ap ledger_of (one_legal book reports h (before ++ e ∷ []) legal more calls_are) ∙ ledger_last before e

-- there is one right reply
pub one_answer : (book : Book) (reports : List Report) (calls : List Call) (command : Command) (r r' : Reply) → AnswersIn book reports calls command r → AnswersIn book reports calls command r' → r ≡ r'
one_answer book reports calls command r r' a b = after_calls (frame_of book reports) calls command r r' a b

-- after a call that is not accepted all is as before
pub keeps_all : (clerk : ℕ) (command : Command) (reply : Reply) (old new : State) → IsReplyAfter old command reply → HasCallMore clerk command old new → new.rules ≡ old.rules →
    new.store ≡ old.store → is_accepted reply ≡ false → KeepsAll old new
keeps_all clerk command reply old new answers more rules store declined = record {
  store = store;
  accounts = λ x found right h legal same.
      let book = book_of_rules old.rules in
      let reports = reports_of_rules old.rules in
      let calls = plain_calls old.calls in
      let here = subst (λ r. IsLegal (book_of_rules r) (reports_of_rules r) h) rules legal in
      let ledger = ledger_after book reports calls command reply answers clerk h here (same ∙ more)
      ∙ only_accepted_change (ledger_of (before book reports calls command reply answers)) command reply declined in
      let was = right (before book reports calls command reply answers) (before_legal book reports calls command reply answers) answers.same in
      subst (λ r. Accounts r.studied (ledger_of h) x found) (sym rules) (subst (λ l. Accounts old.rules.studied l x found) (sym ledger) was);
}

-- a call more of the code is one of the history
pub call_more : (clerk : ℕ) (a : Arc code.Command Global) (command : code.Command) (old new : State) → AddsCall clerk a old new → arc_value a ≡ command → HasCallMore clerk (command_of command) old new
call_more clerk a command old new adds is =
    ap plain_calls adds ∙ plain_last old.calls clerk (arc_value a) ∙ ap (λ c. plain_calls old.calls ++ (clerk, command_of c) ∷ []) is

-- where the reply is not accepted nothing changed
pub unchanged : (book : Book) (reports : List Report) (calls : List Call) (command : Command) (body : Body) (reply : Reply) → OwesReply book reports calls command body →
    AnswersIn book reports calls command reply → is_accepted reply ≡ false → has_changed body ≡ false
unchanged book reports calls command (Done r) reply owes answers declined = ap is_accepted (one_answer book reports calls command (reply_of r) reply owes answers) ∙ declined
unchanged book reports calls command (Folio work) reply owes answers declined = refl

module _ {X E P : Type 0} where
  pub in_ok : (r : Result X E) → P → IfOk r (λ _. P)
  in_ok (Ok x) p = p
  in_ok (Err e) p = tt

  pub on_err : (r : Result X E) → P → OnErr r P
  on_err (Ok x) p = tt
  on_err (Err e) p = p
