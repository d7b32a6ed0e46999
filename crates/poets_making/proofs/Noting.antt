-- Entries that are noted one by one are a legal history.
use Rattle.std.proofs.Common.{◌≡◌, ℕ, Result, Ok, Err, IfOk, OnOk, List, [], ◌∷◌, ◌++◌, sym, ◌∙◌, ap, subst}
use Rattle.std.specs.Arc.{arc_value}
use Rattle.std.proofs.lemmas.List.{map-append}
use Rattle.poets_syntax.specs.Plain.{Book}
use Rattle.poets_report.specs.Plain.{Report}
use Rattle.poets_command.specs.declared.call.Command.{Command}
use Rattle.poets_command.specs.declared.call.Entry.{Entry}
use Rattle.poets_command.specs.Calls.{calls_of, entry_of, history_of, command_of, reply_of}
use Rattle.poets_command.specs.Plain as plain
use Rattle.poets_rules.specs.Rules.{book_of_rules, reports_of_rules}
use Rattle.poets_history.specs.Frame.{frame_of}
use Rattle.poets_history.specs.Histories.{IsLegal, AnswersIn}
use Rattle.poets_history.specs.Ledger.{ledger_of}
use Rattle.poets_history.specs.Replies.{Legal, Replies}
use Rattle.poets_history.proofs.Histories.{calls_last, one_history}
use Rattle.poets_engine.specs.declared.kept.Kept.{Kept}
use Rattle.poets_engine.specs.State.{State, plain_calls, OwesNext, Fulfils}
use Rattle.poets_making.specs.Noted.{AreNoted}

-- a legal history with one more entry, whose reply answers after its calls
pub IsLegal-more : (book : Book) (reports : List Report) (h : List plain.Entry) (entry : plain.Entry) → IsLegal book reports h →
    AnswersIn book reports (calls_of h) entry.command entry.reply → IsLegal book reports (h ++ entry ∷ [])
IsLegal-more book reports h entry legal answers =
    let f = frame_of book reports in
    let same : answers.history ≡ h = one_history f answers.history h answers.legal legal answers.same in
    Legal.More entry legal (subst (λ g. Replies f (ledger_of g) entry.command entry.reply) same answers.reply)

-- an engine without calls
pub AreNoted-none : (e : State) → IsLegal (book_of_rules e.rules) (reports_of_rules e.rules) [] → e.calls ≡ [] → AreNoted e []
AreNoted-none e legal calls = record { legal = legal; calls = sym (ap plain_calls calls) }

-- one entry more among the entries of the code, where the engine owes this
module _ (e : State) (entries : List Entry) (noted : AreNoted e (history_of entries)) (command : Command) (kept : Kept) (owes : OwesNext e command kept) where
  pub AreNoted-entry : (e' : State) (clerk : ℕ) (new : List Entry) (entry : Entry) → Fulfils kept (reply_of entry.reply) → entry.clerk ≡ clerk →
      arc_value entry.command ≡ command → e'.calls ≡ e.calls ++ (clerk, command) ∷ [] → e'.rules ≡ e.rules → new ≡ entries ++ entry ∷ [] →
      AreNoted e' (history_of new)
  AreNoted-entry e' clerk new entry reply own same calls frame pushed =
      let h = history_of entries in
      let answers = reply (book_of_rules e.rules) (reports_of_rules e.rules) (plain_calls e.calls) (command_of command) owes in
      let after = subst (λ cs. AnswersIn (book_of_rules e.rules) (reports_of_rules e.rules) cs (command_of command) (reply_of entry.reply)) (sym noted.calls) answers in
      let asked = subst (λ c. AnswersIn (book_of_rules e.rules) (reports_of_rules e.rules) (calls_of h) (command_of c) (reply_of entry.reply)) (sym same) after in
      let legal = IsLegal-more (book_of_rules e.rules) (reports_of_rules e.rules) h (entry_of entry) noted.legal asked in
      subst (AreNoted e') (sym (ap history_of pushed ∙ map-append entry_of entries (entry ∷ []))) (record {
        legal = subst (λ r. IsLegal (book_of_rules r) (reports_of_rules r) (h ++ entry_of entry ∷ [])) (sym frame) legal;
        calls =
            calls_last h (entry_of entry) ∙ ap (λ cs. cs ++ (entry.clerk, command_of (arc_value entry.command)) ∷ []) noted.calls
            ∙ ap (λ k. plain_calls e.calls ++ (k, command_of (arc_value entry.command)) ∷ []) own
            ∙ ap (λ c. plain_calls e.calls ++ (clerk, command_of c) ∷ []) same
            ∙ sym (map-append (λ p. (p.0, command_of p.1)) e.calls ((clerk, command) ∷ []))
            ∙ sym (ap plain_calls calls);
      })

-- where a result is good, what follows
pub if_ok : {X E P Q : Type 0} (r : Result X E) → (P → Q) → OnOk r P → IfOk r (λ _. Q)
if_ok (Ok x) f p = f p
if_ok (Err e) f p = tt
