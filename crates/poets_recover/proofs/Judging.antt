-- What is answered of the texts of a journal.
use Rattle.std.proofs.Common.{◌≡◌, ℕ, ◌+◌, ◌<◌, ◌≤◌, ◌⊎◌, inl, inr, suc, List, [], ◌∷◌, ◌++◌, All, length, take, drop, get_or, refl, sym, ap, subst, ◌∙◌, arith, append_assoc, length-append}
use Rattle.std.specs.Prelude.{IfSome}
use Rattle.std.specs.Arc.{arc_value}
use Rattle.std.proofs.Math.Seq.{drop-cons}
use Rattle.std.proofs.lemmas.List.{take-append-drop, take-map, take_more, take_all, append-nil, map-append, length-map, get_or-map}
use Rattle.std.proofs.lemmas.List.Elements.{All-map}
use Rattle.std.proofs.lemmas.List.Sums.{sum_by-append, sum_by_push}
use Rattle.std.proofs.lemmas.Option.{slice_get_within, get_or_from_slice_get}
use Rattle.poets_value.specs.Listed.{Listed}
use Rattle.poets_lex.specs.Table.{Table, Extends}
use Rattle.poets_lex.proofs.Readings.{Extends-then}
use Rattle.poets_syntax.specs.Plain.{Book, TypeCause}
use Rattle.poets_report.specs.Plain.{Report}
use Rattle.poets_syntax.specs.Demands.{FirstFault}
use Rattle.poets_syntax.proofs.Demanded.{no_fault}
use Rattle.poets_command.specs.Calls.{Call, command_of}
use Rattle.poets_command.specs.Plain.{Command}
use Rattle.poets_command.specs.Said.{Numbered}
use Rattle.poets_command.specs.Taken.{IsTaken, IsWholeCommand}
use Rattle.poets_command.specs.StatementDemands.{command_demands}
use Rattle.poets_command.proofs.Demanded.{commands_by_demands}
use Rattle.poets_rules.specs.declared.rules.Rules.{Rules}
use Rattle.poets_rules.specs.Rules.{book_of_rules, reports_of_rules}
use Rattle.poets_types.specs.declared.cause.TypeCause.{TypeCause as CodeCause}
use Rattle.poets_types.specs.declared.cause.TypeCause.TheVariants as C
use Rattle.poets_types.specs.Calls.{IsFirstMistyped}
use Rattle.poets_types.specs.Faults.{fault_of}
use Rattle.poets_session.specs.Sessions.{calls_in}
use Rattle.poets_recover.specs.declared.fault.RecoverFault.{RecoverFault}
use Rattle.poets_recover.specs.declared.fault.RecoverFault.TheVariants as F
use Rattle.poets_recover.specs.Stored.{IsStoredCall, AreCalls, NoTexts, AreStoredCalls, bytes_in, length_of_all, most_stored, IsRefused, IsRefusedText, TellsRefused}
use Rattle.poets_recover.specs.code.Reading.{CodeCall, SaysCall, SaysCallOf, SaysNone, StopsAt, AreReadAs, HaveSaid, AreTyped, IsTypedBy, IsMistyped, TellsMistyped}
use Rattle.poets_recover.proofs.Saying.{one_call}
use Rattle.poets_recover.proofs.Following.{AreCalls-push, AreCalls-length, parted, stored_typed, whole_calls}

-- ---- where reading stops

-- at a text
pub read-stopped : (texts : List (Listed ℕ)) (i : ℕ) (text : Listed ℕ) (before between names : Table) (calls : List Call) → i < length texts → text ≡ get_or texts i text →
    AreCalls SaysCall before (take i (bytes_in texts)) calls between → length_of_all (take i (bytes_in texts)) ≤ most_stored →
    (most_stored < length_of_all (take i (bytes_in texts)) + length text.items) ⊎ SaysNone between text.items → AreReadAs before (bytes_in texts) calls names
read-stopped texts i text before between names calls within at say few stops =
    let all = bytes_in texts in
    let inside : i < length all = subst (λ n. i < n) (sym (length-map texts (λ (t : Listed ℕ). t.items))) within in
    let here : get_or all i text.items ≡ text.items = get_or-map (λ (t : Listed ℕ). t.items) texts i text text.items within ∙ ap (λ (t : Listed ℕ). t.items) (sym at) in
    record {
      front = take i all;
      rest = text.items ∷ drop (suc i) all;
      between = between;
      cut =
          sym (take-append-drop i all)
          ∙ ap (λ (ts : List (List ℕ)). take i all ++ ts) (drop-cons all i text.items inside ∙ ap (λ (t : List ℕ). t ∷ drop (suc i) all) here);
      say = say;
      within = few;
      stops = stops;
    }

-- no text is read yet
pub none-said : (before : Table) (texts : List (List ℕ)) (calls : List Call) → calls ≡ [] → HaveSaid before texts 0 most_stored calls before
none-said before texts calls none = record {
  say = subst (λ (cs : List Call). AreCalls SaysCall before [] cs before) (sym none) NoTexts;
  left = refl;
  few = omega arith;
  extends = ([], sym (append-nil before));
}

-- the text at the place
bytes-at : (texts : List (Listed ℕ)) (i : ℕ) (text : Listed ℕ) → i < length texts → text ≡ get_or texts i text → take (i + 1) (bytes_in texts) ≡ take i (bytes_in texts) ++ text.items ∷ []
bytes-at texts i text within at =
    let items : Listed ℕ → List ℕ = λ t. t.items in
    let inside : i < length (bytes_in texts) = subst (λ n. i < n) (sym (length-map texts items)) within in
    let here : get_or (bytes_in texts) i text.items ≡ text.items = get_or-map items texts i text text.items within ∙ ap items (sym at) in
    take_more (bytes_in texts) i text.items inside ∙ ap (λ (t : List ℕ). take i (bytes_in texts) ++ t ∷ []) here

-- what is read of the next text
module _
    (before : Table) (texts : List (Listed ℕ)) (i : ℕ) (text : Listed ℕ) (within : i < length texts)
    (at : text ≡ get_or texts i text) (room : ℕ) (calls : List CodeCall) (between : Table)
    (said : HaveSaid before (bytes_in texts) i room (calls_in calls) between) where
  -- it is one call more
  pub more-said :
      (rest : ℕ) (call : CodeCall) (more : List CodeCall) (names : Table) → rest + length text.items ≡ room →
      SaysCallOf between text.items names call → Extends between names →
      length names ≤ length between + length text.items → more ≡ calls ++ call ∷ [] →
      HaveSaid before (bytes_in texts) (i + 1) rest (calls_in more) names
  more-said rest call more names left says extends few pushed =
      let longer = bytes-at texts i text within at in
      let front = take i (bytes_in texts) in
      let sum : length_of_all (take (i + 1) (bytes_in texts)) ≡ length_of_all front + length text.items =
      ap length_of_all longer ∙ sum_by_push length front text.items in
      let plain : calls_in more ≡ calls_in calls ++ (call.0, command_of (arc_value call.1)) ∷ [] =
      ap calls_in pushed ∙ map-append (λ (p : CodeCall). (p.0, command_of (arc_value p.1))) calls (call ∷ []) in
      let pushed_calls = AreCalls-push SaysCall before between names front text.items (calls_in calls) call.0
      (command_of (arc_value call.1)) said.say says in
      let was : room + length_of_all front ≡ most_stored = said.left in
      let had : length between ≤ length before + length_of_all front = said.few in
      record {
        say =
            subst (λ (cs : List Call). AreCalls SaysCall before (take (i + 1) (bytes_in texts)) cs names) (sym plain)
            (subst (λ (ts : List (List ℕ)). AreCalls SaysCall before ts (calls_in calls ++ (call.0, command_of (arc_value call.1)) ∷ []) names) (sym longer) pushed_calls);
        left = summed (length_of_all front) (length text.items) _ room rest most_stored sum was left;
        few = counted (length_of_all front) (length text.items) _ (length before) (length between) (length names) sum had few;
        extends = Extends-then before between names said.extends extends;
      }
    where
      summed : (a b c room rest most : ℕ) → c ≡ a + b → room + a ≡ most → rest + b ≡ room → rest + c ≡ most
      summed a b c room rest most e f g = omega arith

      counted : (a b c before between names : ℕ) → c ≡ a + b → between ≤ before + a → names ≤ between + b → names ≤ before + c
      counted a b c before between names e f g = omega arith

  -- reading stops at it, since it has no room, or says no call
  pub said-stopped :
      (names : Table) → (room < length text.items) ⊎ SaysNone between text.items →
      AreReadAs before (bytes_in texts) (calls_in calls) names
  said-stopped names stops =
      let taken = length_of_all (take i (bytes_in texts)) in
      read-stopped texts i text before between names (calls_in calls) within at said.say (few room taken said.left)
      (by_stop room taken said.left stops)
    where
      few : (room taken : ℕ) → room + taken ≡ most_stored → taken ≤ most_stored
      few room taken e = omega arith

      over : (room taken n : ℕ) → room + taken ≡ most_stored → room < n → most_stored < taken + n
      over room taken n e h = omega arith

      by_stop : (room taken : ℕ) → room + taken ≡ most_stored → (room < length text.items) ⊎ SaysNone between text.items → (most_stored < taken + length text.items) ⊎ SaysNone between text.items
      by_stop room taken e (inl h) = inl (over room taken (length text.items) e h)
      by_stop room taken e (inr h) = inr h

-- all texts are read
pub said-all : (before : Table) (texts : List (Listed ℕ)) (i : ℕ) (room : ℕ) (calls : List CodeCall) (names : Table) → length texts ≤ i →
    HaveSaid before (bytes_in texts) i room (calls_in calls) names → AreReadAs before (bytes_in texts) (calls_in calls) names
said-all before texts i room calls names all said =
    let taken = length_of_all (take i (bytes_in texts)) in
    record {
      front = take i (bytes_in texts);
      rest = [];
      between = names;
      cut =
          sym (take_all i (bytes_in texts) (subst (λ n. n ≤ i) (sym (length-map texts (λ (t : Listed ℕ). t.items))) all))
          ∙ sym (append-nil (take i (bytes_in texts)));
      say = said.say;
      within = few room taken said.left;
      stops = refl;
    }
  where
    few : (room taken : ℕ) → room + taken ≡ most_stored → taken ≤ most_stored
    few room taken e = omega arith

-- ---- calls that are typed

typed_calls : (rules : Rules) (calls : List CodeCall) → AreTyped rules calls → All (λ call. IsTypedBy rules call.1) (calls_in calls)
typed_calls rules calls typed = All-map (λ (call : Call). IsTypedBy rules call.1) (λ (p : CodeCall). (p.0, command_of (arc_value p.1))) calls typed

-- what is stored says its call
says_stored : {book : Book} {reports : List Report} {before after : Table} {text : List ℕ} {clerk : ℕ} {command : Command} → IsStoredCall book reports before text clerk command after →
    SaysCall before text clerk command after
says_stored h = record {
  tokens = h.tokens;
  lexed = h.lexed;
  say = record { shallow = h.shallow; said = h.said; from = h.from; to = h.to };
}

abbrev pub Stored : Rules → Table → List (List ℕ) → List CodeCall → Table → Type 0
Stored rules before texts calls names =
    AreStoredCalls (book_of_rules rules) (reports_of_rules rules) before texts (calls_in calls) names × (length_of_all texts ≤ most_stored)

-- no text is behind those that were read
stored_at_end :
    (rules : Rules) (before : Table) (texts : List (List ℕ)) (calls : List CodeCall) (names : Table) →
    AreReadAs before texts (calls_in calls) names → AreTyped rules calls → length texts ≤ length calls →
    Stored rules before texts calls names
stored_at_end rules before texts calls names read typed many = by_rest read.rest read.cut read.stops
  where
    by_rest :
        (rest : List (List ℕ)) → texts ≡ read.front ++ rest →
        StopsAt (length_of_all read.front) read.between rest names → Stored rules before texts calls names
    by_rest [] cut stops =
        let book = book_of_rules rules in let reports = reports_of_rules rules in let plain = calls_in calls in
        let same : read.front ≡ texts = sym (cut ∙ append-nil read.front) in
        let stored = stored_typed book reports read.say (typed_calls rules calls typed) in
        let ended = subst (λ end. AreStoredCalls book reports before read.front plain end) stops stored in
        (subst (λ ts. AreStoredCalls book reports before ts plain names) same ended, subst (λ ts. length_of_all ts ≤ most_stored) same read.within)
    by_rest (t ∷ rest) cut stops =
        let lengths : length texts ≡ length read.front + suc (length rest) = ap length cut ∙ length-append read.front (t ∷ rest) in
        let counted : length (calls_in calls) ≡ length read.front = AreCalls-length read.say in
        let same : length (calls_in calls) ≡ length calls = length-map calls (λ (p : CodeCall). (p.0, command_of (arc_value p.1))) in
        absurd (omega (arith, lengths, counted, same, many))

-- every text is a call
pub all_stored : (rules : Rules) (before : Table) (texts : List (Listed ℕ)) (calls : List CodeCall) (names : Table) → AreReadAs before (bytes_in texts) (calls_in calls) names → AreTyped rules calls →
    length texts ≤ length calls → Stored rules before (bytes_in texts) calls names
all_stored rules before texts calls names read typed many =
    let many_bytes = subst (λ n. n ≤ length calls) (sym (length-map texts (λ (t : Listed ℕ). t.items))) many in
    stored_at_end rules before (bytes_in texts) calls names read typed many_bytes

-- ---- refusals

refused_next : (rules : Rules) (bytes : ℕ) (between : Table) (text : List ℕ) → (most_stored < bytes + length text) ⊎ SaysNone between text → IsRefused (book_of_rules rules) (reports_of_rules rules) bytes between text
refused_next rules bytes between text (inl more) = IsRefused.TooMuch more
refused_next rules bytes between text (inr none) =
    IsRefused.NoCall (λ clerk command after h. none clerk command after (says_stored h))

refused_behind :
    (rules : Rules) (before : Table) (texts : List (List ℕ)) (calls : List CodeCall) (names : Table) →
    AreReadAs before texts (calls_in calls) names → AreTyped rules calls → length calls < length texts →
    IsRefusedText (book_of_rules rules) (reports_of_rules rules) before texts (length calls + 1)
refused_behind rules before texts calls names read typed few = by_rest read.rest read.cut read.stops
  where
    counted : length calls ≡ length read.front
    counted = sym (length-map calls (λ (p : CodeCall). (p.0, command_of (arc_value p.1)))) ∙ AreCalls-length read.say

    by_rest :
        (rest : List (List ℕ)) → texts ≡ read.front ++ rest →
        StopsAt (length_of_all read.front) read.between rest names →
        IsRefusedText (book_of_rules rules) (reports_of_rules rules) before texts (length calls + 1)
    by_rest [] cut stops =
        let lengths : length texts ≡ length read.front + 0 = ap length cut ∙ length-append read.front [] in
        absurd (omega (arith, lengths, counted, few))
    by_rest (t ∷ rest) cut stops = record {
      before = read.front;
      text = t;
      after = rest;
      cut = cut;
      counted = ap (λ n. n + 1) counted;
      calls = calls_in calls;
      between = read.between;
      stored = stored_typed (book_of_rules rules) (reports_of_rules rules) read.say (typed_calls rules calls typed);
      within = read.within;
      refused = refused_next rules (length_of_all read.front) read.between t stops;
    }

-- the calls that are read are typed, and a text behind them was not read
pub next_refused : (rules : Rules) (before : Table) (texts : List (Listed ℕ)) (calls : List CodeCall) (names : Table) → AreReadAs before (bytes_in texts) (calls_in calls) names → AreTyped rules calls →
    length calls < length texts → IsRefusedText (book_of_rules rules) (reports_of_rules rules) before (bytes_in texts) (length calls + 1)
next_refused rules before texts calls names read typed few =
    let few_bytes = subst (λ n. length calls < n) (sym (length-map texts (λ (t : Listed ℕ). t.items))) few in
    refused_behind rules before (bytes_in texts) calls names read typed few_bytes

-- a call that is read is not typed
pub mistyped_refused : (rules : Rules) (before : Table) (texts : List (List ℕ)) (calls : List CodeCall) (names : Table) (place : ℕ) → AreReadAs before texts (calls_in calls) names → IsMistyped rules calls place →
    IsRefusedText (book_of_rules rules) (reports_of_rules rules) before texts (place + 1)
mistyped_refused rules before texts calls names place read mistyped =
    let book = book_of_rules rules in let reports = reports_of_rules rules in
    let plain : CodeCall → Call = λ p. (p.0, command_of (arc_value p.1)) in
    let inside : place < length calls = slice_get_within calls place mistyped.call mistyped.here in
    let p = parted read.say place (subst (λ n. place < n) (sym (length-map calls plain)) inside) in
    let same : plain mistyped.call ≡ (p.clerk, p.command) =
    sym (ap plain (get_or_from_slice_get calls place mistyped.call mistyped.call mistyped.here))
    ∙ sym (get_or-map plain calls place mistyped.call (plain mistyped.call) inside) ∙ p.found (plain mistyped.call) in
    let lengths : length_of_all read.front ≡ length_of_all p.front + length_of_all (p.text ∷ p.behind) = ap length_of_all p.cut ∙ sum_by-append length p.front (p.text ∷ p.behind) in
    let bound : length_of_all read.front ≤ most_stored = read.within in
    let ahead = subst (All (λ (call : Call). IsTypedBy rules call.1)) (sym (take-map plain place calls)) (typed_calls rules (take place calls) mistyped.ahead) in
    record {
      before = p.front;
      text = p.text;
      after = p.behind ++ read.rest;
      cut = read.cut ∙ ap (λ (ts : List (List ℕ)). ts ++ read.rest) p.cut ∙ append_assoc p.front (p.text ∷ p.behind) read.rest;
      counted = ap (λ n. n + 1) (sym p.counted);
      calls = take place (calls_in calls);
      between = p.between;
      stored = stored_typed book reports p.ahead ahead;
      within = below (length_of_all p.front) (length_of_all (p.text ∷ p.behind)) (length_of_all read.front) most_stored lengths bound;
      refused =
          IsRefused.NoCall (λ clerk command after h.
          let one : Numbered clerk command ≡ Numbered p.clerk p.command = one_call (says_stored h) p.here in
          let its : command ≡ command_of (arc_value mistyped.call.1) = same_command one (ap (λ (c : Call). c.1) same) in
          mistyped.untyped (subst (IsTypedBy rules) its h.typed));
    }
  where
    below : (a b c most : ℕ) → c ≡ a + b → c ≤ most → a ≤ most
    below a b c most e h = omega arith

    same_command : {clerk number : ℕ} {command other third : Command} → Numbered clerk command ≡ Numbered number other → third ≡ other → command ≡ third
    same_command e f = cc

-- the fault of the check tells the first text that is refused
pub fault_refused : (rules : Rules) (before : Table) (texts : List (List ℕ)) (calls : List CodeCall) (names : Table) (fault : RecoverFault) → AreReadAs before texts (calls_in calls) names → TellsMistyped rules calls fault →
    TellsRefused (book_of_rules rules) (reports_of_rules rules) before texts fault
fault_refused rules before texts calls names (F.Text number) read told =
    subst (IsRefusedText (book_of_rules rules) (reports_of_rules rules) before texts) (sym told.1) (mistyped_refused rules before texts calls names told.0 read told.2)
fault_refused rules before texts calls names F.Memory read told = tt

-- ---- what the check of the calls tells

untyped : (rules : Rules) (command : Command) (fault : TypeCause) →
    FirstFault (book_of_rules rules).declared (command_demands (book_of_rules rules) (reports_of_rules rules) command) fault → IsTypedBy rules command → ⊥
untyped rules command fault first typed =
    no_fault (book_of_rules rules).declared (command_demands (book_of_rules rules) (reports_of_rules rules) command) fault
    ((commands_by_demands (book_of_rules rules) (reports_of_rules rules) command).0 typed) first

mistyped_by : (rules : Rules) (calls : List CodeCall) (place : ℕ) (fault : TypeCause) → IsFirstMistyped rules.studied.book rules.reports.items calls place fault → IsMistyped rules calls place
mistyped_by rules calls place fault h = record {
  call = h.call;
  here = h.here;
  ahead = h.ahead;
  untyped = untyped rules (command_of (arc_value h.call.1)) fault h.first;
}

-- the first call that is not typed
pub mistyped_at : (rules : Rules) (calls : List CodeCall) (place : ℕ) (cause : CodeCause) → (cause ≡ C.Memory → ⊥) →
    IfSome (fault_of cause) (IsFirstMistyped rules.studied.book rules.reports.items calls place) → IsMistyped rules calls place
mistyped_at rules calls place (C.Twice x) no_memory h = mistyped_by rules calls place _ h
mistyped_at rules calls place (C.Unknown x) no_memory h = mistyped_by rules calls place _ h
mistyped_at rules calls place (C.WrongCount x wanted found) no_memory h = mistyped_by rules calls place _ h
mistyped_at rules calls place (C.WrongType wanted found) no_memory h = mistyped_by rules calls place _ h
mistyped_at rules calls place C.Memory no_memory h = absurd (no_memory refl)

-- ---- calls that are taken

-- the calls are typed and whole
pub calls_taken : (rules : Rules) (before : Table) (texts : List (List ℕ)) (calls : List CodeCall) (names : Table) → AreReadAs before texts (calls_in calls) names → AreTyped rules calls →
    All (λ call. IsTaken (book_of_rules rules) (reports_of_rules rules) (command_of (arc_value call.1))) calls
calls_taken rules before texts calls names read typed = λ k d within.
    let plain : CodeCall → Call = λ p. (p.0, command_of (arc_value p.1)) in
    let whole = whole_calls read.say k (plain d) (subst (λ n. k < n) (sym (length-map calls plain)) within) in
    record {
      typed = typed k d within;
      whole = subst (λ (c : Call). IsWholeCommand c.1) (get_or-map plain calls k d (plain d) within) whole;
    }
