-- What comes of scripts whose calls are made after earlier ones, and put into a journal.
use Rattle.std.proofs.Common.{◌≡◌, ℕ, ◌-◌, ◌≤◌, List, [], ◌∷◌, ◌++◌, length, map, take, drop, get_or, sym, ◌∙◌, ap, ap₂, subst, refl, Bool, arith}
use Rattle.std.specs.Prelude.{Some, None, IfSome, Option}
use Rattle.std.specs.List.{All, zip}
use Rattle.std.specs.Arc.{arc_value}
use Rattle.std.specs.declared.alloc.Global.{Global}
use Rattle.std.specs.declared.sync.Arc.{Arc}
use Rattle.std.proofs.lemmas.List.{drop-map, length-drop, length-map, map-append, take_all}
use Rattle.std.proofs.lemmas.List.Elements.{All-append, All-map, All-nil}
use Rattle.std.proofs.lemmas.Simd.{map-map}
use Rattle.poets_value.specs.Listed.{Listed}
use Rattle.poets_lex.specs.Table.{Table}
use Rattle.poets_meaning.specs.Studied.{IsStudiedBook}
use Rattle.poets_command.specs.declared.call.Command.{Command as CodeCommand}
use Rattle.poets_command.specs.declared.call.Entry as code
use Rattle.poets_command.specs.declared.call.Reply.{Reply}
use Rattle.poets_command.specs.Calls.{Call, calls_of, entry_of, history_of, command_of}
use Rattle.poets_command.specs.Plain.{Command, Entry}
use Rattle.poets_command.specs.Typing.{IsTypedCommand}
use Rattle.poets_rules.specs.declared.rules.Rules.{Rules}
use Rattle.poets_rules.specs.Rules.{book_of_rules, reports_of_rules}
use Rattle.poets_history.specs.Histories.{IsLegal, IsRightHistory}
use Rattle.poets_history.proofs.Histories.{calls_append}
use Rattle.poets_clerks.specs.Histories.{AreReplies, HasScriptParts, HasScripts}
use Rattle.poets_clerks.specs.Scripts.{script_calls}
use Rattle.poets_clerks.proofs.Scripted.{parts_hold, parts_mapped}
use Rattle.poets_disk.specs.Disks.{Seen}
use Rattle.poets_engine.specs.State.{HasLegalHistory, State, commands_of, plain_calls}
use Rattle.poets_engine.specs.Takes.{IsTakenBy}
use Rattle.poets_journal.specs.Keeping.{IsKept, texts_by}
use Rattle.poets_printed.specs.Numbered.{numbered_text}
use Rattle.poets_session.specs.Sessions.{commands_in}
use Rattle.poets_making.specs.Noted.{AreScriptsTaken, entries_of, entry_with}
use Rattle.poets_making.proofs.Entries.{Answered, calls_of_entries, legal_after, legal_split, plain_scripts}
use Rattle.poets_making.proofs.RightHistories.{right_history}
use Rattle.poets_stored.specs.Laws.{AreStorableScripts, IsStorableCall}
use Rattle.poets_stored.specs.Stored.{stored_text}
use Rattle.poets_reread.specs.Reread.{texts_of_calls}
use Rattle.poets_keeping.specs.Journals.{texts_of}
use Rattle.poets_keeping.specs.Made.{AreMade, HasTaken, IsWhole}
use Rattle.poets_keeping.specs.code.Entries.{AreEntriesWith}

-- the texts of an engine's calls, as they are told of a journal
pub texts_same : (names : Table) (calls : List (ℕ × CodeCommand)) (h : List Entry) → calls_of h ≡ plain_calls calls → texts_by (stored_text names) calls ≡ texts_of names h
texts_same names calls h same =
    sym (map-map (λ (call : Call). numbered_text names call.0 call.1) (λ (p : ℕ × CodeCommand). (p.0, command_of p.1)) calls) ∙ ap (texts_of_calls names) (sym same)

-- the parts of the code's scripts, as plain data
plain_parts : (scripts : List (Listed (Arc CodeCommand Global))) (calls : List (ℕ × CodeCommand)) → HasScriptParts (map script_calls scripts) calls → HasScriptParts (commands_in scripts) (plain_calls calls)
plain_parts scripts calls made =
    subst (λ ss. HasScriptParts ss (plain_calls calls)) (map-map (map command_of) script_calls scripts ∙ each scripts) (parts_mapped command_of (map script_calls scripts) calls made)
  where
    each : (ss : List (Listed (Arc CodeCommand Global))) → map (λ s. map command_of (script_calls s)) ss ≡ commands_in ss
    each [] = refl
    each (s ∷ ss) = ap₂ (λ a b. a ∷ b) (map-map command_of arc_value s.items) (each ss)

-- an engine that took no call
pub none_taken : (engine : State) (rules : Rules) → engine.rules ≡ rules → engine.calls ≡ [] → IsLegal (book_of_rules rules) (reports_of_rules rules) [] → HasTaken engine []
none_taken engine rules same none legal = record {
  noted = record { legal = subst (λ r. IsLegal (book_of_rules r) (reports_of_rules r) []) (sym same) legal; calls = ap plain_calls (sym none) };
  typed = All-nil (λ (call : Call). IsTypedCommand (book_of_rules engine.rules) (reports_of_rules engine.rules) call.1);
}

-- how many calls an engine took
pub calls_counted : (engine : State) (history : List (ℕ × Arc CodeCommand Global)) (count : ℕ) → commands_of history ≡ engine.calls → count ≡ length history → length engine.calls ≡ count
calls_counted engine history count calls is = sym (ap length calls) ∙ length-map history (λ (p : ℕ × Arc CodeCommand Global). (p.0, arc_value p.1)) ∙ sym is

pub taken_long : (engine : State) (p : List Entry) → HasTaken engine p → length engine.calls ≡ length p
taken_long engine p taken =
    sym (length-map engine.calls (λ (c : ℕ × CodeCommand). (c.0, command_of c.1))) ∙ ap length (sym taken.noted.calls) ∙ length-map p (λ (e : Entry). (e.clerk, e.command))

module _ (rules : Rules) (names : Table) (p : List Entry) (scripts : List (Listed (Arc CodeCommand Global))) (disk disk' : Seen) (faults faults' stored : ℕ) (failed : Bool)
    (before : State) (same : before.rules ≡ rules) (begun : HasTaken before p) (calls : List (ℕ × CodeCommand)) (studied : IsStudiedBook (book_of_rules rules) rules.studied.marks) (taken : AreScriptsTaken rules scripts)
    (kept : IsKept disk disk' faults faults' failed stored (texts_by (stored_text names) calls)) (parts : HasScriptParts (map script_calls scripts) calls) where
  abbrev Typed : Command → Type 0
  Typed r = IsTypedCommand (book_of_rules rules) (reports_of_rules rules) r

  abbrev TypedCall : Call → Type 0
  TypedCall call = Typed call.1

  abbrev Legal : List Entry → Type 0
  Legal h = IsLegal (book_of_rules rules) (reports_of_rules rules) h

  begun_legal : Legal p
  begun_legal = subst (λ r. IsLegal (book_of_rules r) (reports_of_rules r) p) same begun.noted.legal

  begun_typed : All TypedCall (calls_of p)
  begun_typed = subst (λ r. All (λ (call : Call). IsTypedCommand (book_of_rules r) (reports_of_rules r) call.1) (calls_of p)) same begun.typed

  all_typed : All (All Typed) (commands_in scripts)
  all_typed = All-map (All Typed) (λ (s : Listed (Arc CodeCommand Global)). map (λ c. command_of (arc_value c)) s.items) scripts
      (λ k d lt. All-map Typed (λ (c : Arc CodeCommand Global). command_of (arc_value c)) (get_or scripts k d).items (λ j e in_script. (taken k d lt j e in_script).typed))

  -- a legal history of the calls, after the earlier ones
  right_of : (h : List Entry) → Legal (p ++ h) → calls_of h ≡ plain_calls calls → IsRightHistory (book_of_rules rules) (reports_of_rules rules) (p ++ h)
  right_of h legal are =
      right_history rules (p ++ h) studied legal
      (subst (All TypedCall) (sym (calls_append p h))
      (All-append TypedCall (calls_of p) (calls_of h) begun_typed
      (subst (All TypedCall) (sym are) (parts_hold Typed (commands_in scripts) (plain_calls calls) (plain_parts scripts calls parts) all_typed))))

  -- the calls were made, and perhaps not all
  made_by : (h : List Entry) → Legal (p ++ h) → calls_of h ≡ plain_calls calls → (whole : Option (Listed code.Entry)) →
      IfSome whole (IsWhole h (commands_in scripts)) → AreMade rules names p (commands_in scripts) disk disk' faults faults' stored whole
  made_by h legal are whole all = record {
    made = h;
    right = right_of h legal are;
    parts = subst (HasScriptParts (commands_in scripts)) (sym are) (plain_parts scripts calls parts);
    failed = failed;
    kept = subst (IsKept disk disk' faults faults' failed stored) (texts_same names calls h are) kept;
    all = all;
  }

  made_part : (after : State) → after.rules ≡ rules → after.calls ≡ before.calls ++ calls → HasLegalHistory after → AreMade rules names p (commands_in scripts) disk disk' faults faults' stored None
  made_part after frame longer history =
      let legal : Legal history.entries = subst (λ r. IsLegal (book_of_rules r) (reports_of_rules r) history.entries) frame history.legal in
      let are : calls_of history.entries ≡ calls_of p ++ plain_calls calls =
      history.same ∙ ap plain_calls longer ∙ map-append (λ (c : ℕ × CodeCommand). (c.0, command_of c.1)) before.calls calls ∙ ap (λ cs. cs ++ plain_calls calls) (sym begun.noted.calls) in
      let cut = legal_split (book_of_rules rules) (reports_of_rules rules) p history.entries (plain_calls calls) begun_legal legal are in
      made_by cut.0 (subst Legal cut.1 legal) cut.2 None tt

  made_whole : (replies : List Reply) (es : Listed code.Entry) → HasScripts (map script_calls scripts) calls →
      AreReplies (λ seen. Answered (book_of_rules rules) (reports_of_rules rules) (before.calls ++ seen)) calls replies → history_of es.items ≡ entries_of calls replies →
      AreMade rules names p (commands_in scripts) disk disk' faults faults' stored (Some es)
  made_whole replies es made right are =
      let h = history_of es.items in
      let same_calls : calls_of h ≡ plain_calls calls = ap calls_of are ∙ calls_of_entries calls replies right.as_many in
      let legal : Legal (p ++ h) = subst (λ g. Legal (p ++ g)) (sym are) (legal_after (book_of_rules rules) (reports_of_rules rules) before.calls calls p replies begun_legal begun.noted.calls right.right) in
      made_by h legal same_calls (Some es) (refl, subst (HasScripts (commands_in scripts)) (sym same_calls) (plain_scripts scripts calls made))

  -- what came of them, by the replies and the entries
  pub made_with : (after : State) → after.rules ≡ rules → after.calls ≡ before.calls ++ calls → HasLegalHistory after →
      (whole : Option (Listed code.Entry)) (replies : Option (Listed Reply)) → IfSome whole (AreEntriesWith calls replies) → IfSome replies (λ _. HasScripts (map script_calls scripts) calls) →
      IfSome replies (λ given. AreReplies (λ seen. Answered (book_of_rules rules) (reports_of_rules rules) (before.calls ++ seen)) calls given.items) →
      AreMade rules names p (commands_in scripts) disk disk' faults faults' stored whole
  made_with after frame longer legal None replies are made right = made_part after frame longer legal
  made_with after frame longer legal (Some es) replies are made right =
      made_whole are.0.items es (subst (λ r. IfSome r (λ _. HasScripts (map script_calls scripts) calls)) are.1 made)
      (subst (λ r. IfSome r (λ given. AreReplies (λ seen. Answered (book_of_rules rules) (reports_of_rules rules) (before.calls ++ seen)) calls given.items)) are.1 right) are.2

-- a machine with a journal takes the calls of the scripts
pub scripts_taken : (rules found : Rules) (names table : Table) (scripts : List (Listed (Arc CodeCommand Global))) → found ≡ rules → table ≡ names → AreScriptsTaken rules scripts → AreStorableScripts names scripts →
    All (λ s. All (λ (c : Arc CodeCommand Global). IsTakenBy found (command_of (arc_value c)) × IsStorableCall table c) s.items) scripts
scripts_taken rules found names table scripts same told taken storable =
    subst (λ r. All (λ s. All (λ (c : Arc CodeCommand Global). IsTakenBy r (command_of (arc_value c)) × IsStorableCall table c) s.items) scripts) (sym same)
    (subst (λ t. All (λ s. All (λ (c : Arc CodeCommand Global). IsTakenBy rules (command_of (arc_value c)) × IsStorableCall t c) s.items) scripts) (sym told)
    (λ k d lt j e inside. (taken k d lt j e inside, storable k d lt j e inside)))

-- there are as many replies as calls
pub replies_many : (A : List (ℕ × CodeCommand) → ℕ → CodeCommand → Reply → Type 0) (calls : List (ℕ × CodeCommand)) (replies : Option (Listed Reply)) →
    IfSome replies (λ given. AreReplies A calls given.items) → IfSome replies (λ given. length given.items ≡ length calls)
replies_many A calls None right = tt
replies_many A calls (Some given) right = right.as_many

-- no more calls are stored than there are entries
pub stored_within : (names : Table) (calls : List (ℕ × CodeCommand)) (stored : ℕ) (whole : Option (Listed code.Entry)) (replies : Option (Listed Reply)) → IfSome whole (AreEntriesWith calls replies) →
    IfSome replies (λ given. length given.items ≡ length calls) → stored ≤ length (texts_by (stored_text names) calls) → IfSome whole (λ es. stored ≤ length es.items)
stored_within names calls stored None replies are many first = tt
stored_within names calls stored (Some es) replies are many first =
    let given : length are.0.items ≡ length calls = subst (λ r. IfSome r (λ given. length given.items ≡ length calls)) are.1 many in
    let entries : length (calls_of (history_of es.items)) ≡ length (plain_calls calls) = ap length (ap calls_of are.2 ∙ calls_of_entries calls are.0.items given) in
    let call : Entry → Call = λ e. (e.clerk, e.command) in
    let by_calls = length-map (history_of es.items) call in
    let by_entries = length-map es.items entry_of in
    let plain : ℕ × CodeCommand → Call = λ c. (c.0, command_of c.1) in
    let text : ℕ × CodeCommand → List ℕ = λ c. stored_text names c.0 c.1 in
    let by_plain = length-map calls plain in
    let by_texts = length-map calls text in
    omega (arith, first, entries, by_calls, by_entries, by_plain, by_texts)

-- there are no more entries than calls
pub entries_few : (calls : List (ℕ × Arc CodeCommand Global)) (replies : List Reply) (es : List code.Entry) → history_of es ≡ entries_of (commands_of calls) replies → length es ≤ length calls
entries_few calls replies es are =
    let by_entries = length-map es entry_of in
    let by_pairs = length-map (zip (commands_of calls) replies) entry_with in
    let pair : ℕ × Arc CodeCommand Global → ℕ × CodeCommand = λ c. (c.0, arc_value c.1) in
    let by_calls = length-map calls pair in
    let few = zip_few (commands_of calls) replies in
    omega (arith, ap length are, by_entries, by_pairs, by_calls, few)
  where
    zip_few : (cs : List (ℕ × CodeCommand)) (rs : List Reply) → length (zip cs rs) ≤ length cs
    zip_few [] rs = omega arith
    zip_few (c ∷ cs) [] = omega arith
    zip_few (c ∷ cs) (r ∷ rs) = let rest = zip_few cs rs in omega (arith, rest)

-- the calls behind the earlier ones, of a list of all
pub later_are : (list seen : List (ℕ × Arc CodeCommand Global)) (calls : List (ℕ × CodeCommand)) (earlier count : ℕ) → seen ≡ list → count ≡ length list → commands_of list ≡ calls →
    commands_of (take (count - earlier) (drop earlier seen)) ≡ drop earlier calls
later_are list seen calls earlier count same long are =
    let dropped = length-drop earlier seen in
    let cut : take (count - earlier) (drop earlier seen) ≡ drop earlier seen = take_all (count - earlier) (drop earlier seen) (omega (arith, dropped, long, ap length same)) in
    ap commands_of (cut ∙ ap (drop earlier) same) ∙ sym (drop-map (λ (p : ℕ × Arc CodeCommand Global). (p.0, arc_value p.1)) earlier list) ∙ ap (drop earlier) are
