-- Calls with their replies, as the entries of a right history.
use Rattle.std.proofs.Common.{◌≡◌, ℕ, zero, suc, ◌+◌, ◌<◌, ◌≤◌, List, [], ◌∷◌, ◌++◌, length, map, take, drop, get_or, Some, refl, sym, ◌∙◌, ap, ap₂, subst, arith, append_assoc, append-nil}
use Rattle.std.specs.Prelude.{slice_get}
use Rattle.std.specs.List.{All, zip}
use Rattle.std.specs.Borrow.{Bor}
use Rattle.std.specs.Arc.{arc_value}
use Rattle.std.specs.declared.alloc.Global.{Global}
use Rattle.std.specs.declared.sync.Arc.{Arc}
use Rattle.std.proofs.lemmas.List.{drop-map, drop_at, length-map, map-append, map_push, take-append-drop, take-map, take_at}
use Rattle.std.proofs.lemmas.List.Elements.{All-map, All-nil}
use Rattle.std.proofs.lemmas.Simd.{map-map}
use Rattle.poets_value.specs.Listed.{Listed}
use Rattle.poets_syntax.specs.Plain.{Book}
use Rattle.poets_meaning.specs.Studied.{IsStudiedBook}
use Rattle.poets_report.specs.Plain.{Report}
use Rattle.poets_command.specs.declared.call.Command.{Command as CodeCommand}
use Rattle.poets_command.specs.declared.call.Entry.{Entry}
use Rattle.poets_command.specs.declared.call.Reply.{Reply}
use Rattle.poets_command.specs.Calls.{Call, calls_of, entry_of, history_of, command_of, reply_of}
use Rattle.poets_command.specs.Taken.{IsTaken}
use Rattle.poets_command.specs.Typing.{IsTypedCommand}
use Rattle.poets_command.specs.Plain as plain
use Rattle.poets_rules.specs.Rules.{book_of_rules, reports_of_rules}
use Rattle.poets_rules.specs.declared.rules.Rules.{Rules}
use Rattle.poets_history.specs.Frame.{frame_of}
use Rattle.poets_history.specs.Histories.{AnswersIn, IsLegal, IsRightHistory}
use Rattle.poets_history.specs.Replies.{Legal}
use Rattle.poets_history.proofs.Histories.{calls_last, legal_prefix, one_history}
use Rattle.poets_clerks.specs.Histories.{AreReplies, HasScripts}
use Rattle.poets_clerks.specs.Scripts.{script_calls}
use Rattle.poets_clerks.proofs.Scripted.{scripts_hold, scripts_mapped}
use Rattle.poets_engine.specs.State.{commands_of, plain_calls}
use Rattle.poets_session.specs.Sessions.{commands_in}
use Rattle.poets_making.specs.Noted.{AreScriptsTaken, entries_of, entry_with}
use Rattle.poets_making.proofs.Noting.{IsLegal-more}
use Rattle.poets_making.proofs.RightHistories.{right_history}

-- a call and a reply that a loop came to, as an entry
abbrev pub noted : Bor (ℕ × Arc CodeCommand Global) × Reply → plain.Entry
noted p = entry_with ((p.0.now.0, arc_value p.0.now.1), p.1)

pub noted_more : (entries new : List Entry) (e : Entry) (yielded : List (Bor (ℕ × Arc CodeCommand Global) × Reply)) (p : Bor (ℕ × Arc CodeCommand Global) × Reply) → new ≡ entries ++ e ∷ [] →
    history_of entries ≡ map noted yielded → e.clerk ≡ p.0.now.0 → arc_value e.command ≡ arc_value p.0.now.1 → e.reply ≡ p.1 → history_of new ≡ map noted (yielded ++ p ∷ [])
noted_more entries new e yielded p pushed so_far clerk command reply =
    let same : entry_of e ≡ noted p = cc (clerk, command, reply) in
    ap history_of pushed ∙ (map_push entry_of entries e ∙ (ap₂ (λ a b. a ++ b ∷ []) so_far same ∙ sym (map_push noted yielded p)))

zipped : (calls : List (ℕ × Arc CodeCommand Global)) (replies : List Reply) → map (λ q. entry_with ((q.0.0, arc_value q.0.1), q.1)) (zip calls replies) ≡ entries_of (commands_of calls) replies
zipped [] replies = refl
zipped (c ∷ calls) [] = refl
zipped (c ∷ calls) (r ∷ replies) = ap (λ es. entry_with ((c.0, arc_value c.1), r) ∷ es) (zipped calls replies)

pub noted_all : (yielded : List (Bor (ℕ × Arc CodeCommand Global) × Reply)) (calls : List (ℕ × Arc CodeCommand Global)) (replies : List Reply) → map (λ p. (p.0.now, p.1)) yielded ≡ zip calls replies →
    map noted yielded ≡ entries_of (commands_of calls) replies
noted_all yielded calls replies done =
    let entry : (ℕ × Arc CodeCommand Global) × Reply → plain.Entry = λ q. entry_with ((q.0.0, arc_value q.0.1), q.1) in
    let seen : Bor (ℕ × Arc CodeCommand Global) × Reply → (ℕ × Arc CodeCommand Global) × Reply = λ p. (p.0.now, p.1) in
    sym (map-map entry seen yielded) ∙ (ap (map entry) done ∙ zipped calls replies)

-- an engine's call has this reply, after those calls
abbrev pub Answered : Book → List Report → List (ℕ × CodeCommand) → ℕ → CodeCommand → Reply → Type 0
Answered book reports before clerk command reply = AnswersIn book reports (plain_calls before) (command_of command) (reply_of reply)

pub calls_of_entries : (calls : List (ℕ × CodeCommand)) (replies : List Reply) → length replies ≡ length calls → calls_of (entries_of calls replies) ≡ plain_calls calls
calls_of_entries [] replies e = refl
calls_of_entries (c ∷ calls) [] e = absurd (omega (arith, e))
calls_of_entries (c ∷ calls) (r ∷ replies) e = ap (λ cs. (c.0, command_of c.1) ∷ cs) (calls_of_entries calls replies (omega (arith, e)))

module _ (book : Book) (reports : List Report) where
  -- a legal history of calls, with further calls and their replies
  pub legal_after : (before calls : List (ℕ × CodeCommand)) (h : List plain.Entry) (replies : List Reply) → IsLegal book reports h → calls_of h ≡ plain_calls before →
      ((place clerk : ℕ) (command : CodeCommand) (reply : Reply) → slice_get calls place ≡ Some (clerk, command) → slice_get replies place ≡ Some reply → Answered book reports (before ++ take place calls) clerk command reply) →
      IsLegal book reports (h ++ entries_of calls replies)
  legal_after before [] h replies legal same right = subst (IsLegal book reports) (sym (append-nil h)) legal
  legal_after before (c ∷ calls) h [] legal same right = subst (IsLegal book reports) (sym (append-nil h)) legal
  legal_after before (c ∷ calls) h (r ∷ replies) legal same right =
      let entry : plain.Entry = record { clerk = c.0; command = command_of c.1; reply = reply_of r } in
      let here : AnswersIn book reports (calls_of h) (command_of c.1) (reply_of r) =
      subst (λ cs. AnswersIn book reports cs (command_of c.1) (reply_of r)) (ap plain_calls (append-nil before) ∙ sym same) (right 0 c.0 c.1 r refl refl) in
      let calls_are : calls_of (h ++ entry ∷ []) ≡ plain_calls (before ++ c ∷ []) =
      calls_last h entry ∙ ap (λ cs. cs ++ (c.0, command_of c.1) ∷ []) same ∙ sym (map-append (λ p. (p.0, command_of p.1)) before (c ∷ [])) in
      subst (IsLegal book reports) (append_assoc h (entry ∷ []) (entries_of calls replies))
      (legal_after (before ++ c ∷ []) calls (h ++ entry ∷ []) replies (IsLegal-more book reports h entry legal here) calls_are
      (λ place clerk command reply at there. subst (λ cs. Answered book reports cs clerk command reply) (sym (append_assoc before (c ∷ []) (take place calls))) (right (suc place) clerk command reply at there)))

  -- calls with right replies are a legal history
  pub legal_entries : (calls : List (ℕ × CodeCommand)) (replies : List Reply) → IsLegal book reports [] → AreReplies (Answered book reports) calls replies → IsLegal book reports (entries_of calls replies)
  legal_entries calls replies legal right = legal_after [] calls [] replies legal refl right.right

  -- a legal history whose calls go on from those of another is that one and more
  pub legal_split : (p h : List plain.Entry) (more : List Call) → IsLegal book reports p → IsLegal book reports h → calls_of h ≡ calls_of p ++ more →
      (made : List plain.Entry) × (h ≡ p ++ made) × (calls_of made ≡ more)
  legal_split p h more legal whole same =
      let call : plain.Entry → Call = λ e. (e.clerk, e.command) in
      let n = length p in
      let long : n ≡ length (calls_of p) = sym (length-map p call) in
      let cut : h ≡ take n h ++ drop n h = sym (take-append-drop n h) in
      let front : calls_of (take n h) ≡ calls_of p = sym (take-map call n h) ∙ ap (take n) same ∙ take_at (calls_of p) more n (sym long) in
      let rest : calls_of (drop n h) ≡ more = sym (drop-map call n h) ∙ ap (drop n) same ∙ drop_at (calls_of p) more n (sym long) in
      let f = frame_of book reports in
      let begun : IsLegal book reports (take n h) = legal_prefix f (take n h) (drop n h) (subst (IsLegal book reports) cut whole) in
      let one : take n h ≡ p = one_history f (take n h) p begun legal front in
      (drop n h, cut ∙ ap (λ l. l ++ drop n h) one, rest)

-- the scripts of the code, as plain data
pub plain_scripts : (scripts : List (Listed (Arc CodeCommand Global))) (calls : List (ℕ × CodeCommand)) → HasScripts (map script_calls scripts) calls → HasScripts (commands_in scripts) (plain_calls calls)
plain_scripts scripts calls made =
    subst (λ ss. HasScripts ss (plain_calls calls)) (map-map (map command_of) script_calls scripts ∙ each scripts) (scripts_mapped command_of (map script_calls scripts) calls made)
  where
    each : (ss : List (Listed (Arc CodeCommand Global))) → map (λ s. map command_of (script_calls s)) ss ≡ commands_in ss
    each [] = refl
    each (s ∷ ss) = ap₂ (λ a b. a ∷ b) (map-map command_of arc_value s.items) (each ss)

-- no entries are a right history of no scripts
pub right_none : (rules : Rules) (es : List Entry) → es ≡ [] → IsStudiedBook (book_of_rules rules) rules.studied.marks → IsLegal (book_of_rules rules) (reports_of_rules rules) [] →
    IsRightHistory (book_of_rules rules) (reports_of_rules rules) (history_of es)
right_none rules es none studied legal =
    subst (λ l. IsRightHistory (book_of_rules rules) (reports_of_rules rules) (history_of l)) (sym none)
    (right_history rules [] studied legal (All-nil (λ call. IsTypedCommand (book_of_rules rules) (reports_of_rules rules) call.1)))

pub no_scripts : (scripts : List (Listed (Arc CodeCommand Global))) (es : List Entry) → scripts ≡ [] → es ≡ [] → HasScripts (commands_in scripts) (calls_of (history_of es))
no_scripts scripts es none empty =
    subst (λ ss. HasScripts (commands_in ss) (calls_of (history_of es))) (sym none)
    (subst (λ l. HasScripts [] (calls_of (history_of l))) (sym empty) (record { own = λ place script at. absurd cc; clerks = All-nil (λ e. (0 < e.0) × (e.0 ≤ 0)) }))

-- the calls that clerks made with their scripts, and the replies to them
module _ (rules found : Rules) (scripts : List (Listed (Arc CodeCommand Global))) (calls seen : List (ℕ × CodeCommand)) (replies : List Reply) (es : List Entry) (same : seen ≡ calls)
    (made : HasScripts (map script_calls scripts) calls) (right : AreReplies (Answered (book_of_rules found) (reports_of_rules found)) calls replies) (are : history_of es ≡ entries_of seen replies) where
  their_calls : calls_of (history_of es) ≡ plain_calls calls
  their_calls = ap calls_of (are ∙ ap (λ cs. entries_of cs replies) same) ∙ calls_of_entries calls replies right.as_many

  pub scripts_entered : HasScripts (commands_in scripts) (calls_of (history_of es))
  scripts_entered = subst (HasScripts (commands_in scripts)) (sym their_calls) (plain_scripts scripts calls made)

  pub right_entered : found ≡ rules → IsStudiedBook (book_of_rules rules) rules.studied.marks → IsLegal (book_of_rules rules) (reports_of_rules rules) [] → AreScriptsTaken rules scripts → IsRightHistory (book_of_rules rules) (reports_of_rules rules) (history_of es)
  right_entered frame studied legal taken =
      let made_legal : IsLegal (book_of_rules found) (reports_of_rules found) (history_of es) =
      subst (IsLegal (book_of_rules found) (reports_of_rules found)) (sym (are ∙ ap (λ cs. entries_of cs replies) same)) (legal_entries (book_of_rules found) (reports_of_rules found) calls replies (subst (λ r. IsLegal (book_of_rules r) (reports_of_rules r) []) (sym frame) legal) right) in
      right_history rules (history_of es) studied (subst (λ r. IsLegal (book_of_rules r) (reports_of_rules r) (history_of es)) frame made_legal)
      (scripts_hold (λ r. IsTypedCommand (book_of_rules rules) (reports_of_rules rules) r) (commands_in scripts) (calls_of (history_of es)) scripts_entered
      (λ k d lt j r inside. (plain_taken k d lt j r inside).typed))
    where
      plain_taken : All (All (λ r. IsTaken (book_of_rules rules) (reports_of_rules rules) r)) (commands_in scripts)
      plain_taken = All-map (All (λ r. IsTaken (book_of_rules rules) (reports_of_rules rules) r)) (λ (s : Listed (Arc CodeCommand Global)). map (λ c. command_of (arc_value c)) s.items) scripts
          (λ k d lt. All-map (λ r. IsTaken (book_of_rules rules) (reports_of_rules rules) r) (λ (c : Arc CodeCommand Global). command_of (arc_value c)) (get_or scripts k d).items (taken k d lt))
