-- A transmission is made.
use Rattle.std.proofs.Common.{◌≡◌, ℕ, ◌+◌, ◌-◌, ◌≤◌, Bool, true, false, ℤ, List, [], ◌∷◌, ◌++◌, Option, Some, None, map, length, slice_get, refl, sym, ◌∙◌, ap, subst, arith}
use Rattle.std.specs.Prelude.{IsTrue, ◌↔◌}
use Rattle.std.specs.List.{All}
use Rattle.std.proofs.lemmas.List.Elements.{All-nil, All-cons, All-append}
use Rattle.poets_value.specs.declared.value.Name.{Name}
use Rattle.poets_value.specs.declared.event.Event.{Event}
use Rattle.poets_syntax.specs.Contract.{Contract, contract_of}
use Rattle.poets_syntax.specs.declared.term.Term.{Term}
use Rattle.poets_syntax.specs.WellFormed.{IsDeclaredEvent}
use Rattle.poets_syntax.specs.Whole.{IsWholeContract}
use Rattle.poets_meaning.specs.Perf.{Perf}
use Rattle.poets_meaning.specs.Marks.{Hopeful}
use Rattle.poets_meaning.specs.May.{May}
use Rattle.poets_meaning.specs.Studied.{marks_of}
use Rattle.poets_calculus.specs.Residual.{after, residual_after}
use Rattle.poets_residue.specs.Limits.{is_past_limit_in}
use Rattle.poets_residue.proofs.WholeResiduals.{IsWhole-after_at}
use Rattle.poets_residue.proofs.Traces.{residual_after-more}
use Rattle.poets_cons.specs.declared.node.Node.{Node}
use Rattle.poets_cons.specs.Table.{contract_of_rows}
use Rattle.poets_table.specs.TableView.{RowView, changed_at, with_event, with_room, number_named}
use Rattle.poets_command.specs.Plain.{Command, Reply}
use Rattle.poets_command.specs.Taken.{IsTaken}
use Rattle.poets_command.proofs.TypedCommands.{typed_event}
use Rattle.poets_rules.specs.declared.rules.Rules.{Rules}
use Rattle.poets_rules.specs.Rules.{book_of_rules, reports_of_rules}
use Rattle.poets_history.specs.Ledger.{Ledger, contract_named, number_in, trace, is_ended, late_day}
use Rattle.poets_history.specs.Replies.{Replies, IsOpenTo, CanGoOn, IsTooLarge, TellsWhetherPerformed, trace_with}
use Rattle.poets_engine.specs.Store.{StoreView}
use Rattle.poets_engine.specs.code.Changes.{RecordsEvent}
use Rattle.poets_engine.specs.Rows.{IsLedger, RowsAre}
use Rattle.poets_engine.specs.code.Judgements.{Refused, Owed, is_failure, judged, unless_over, judgement_by}
use Rattle.poets_engine.specs.code.Makes.{Makes}
use Rattle.poets_engine.proofs.Named.{named}
use Rattle.poets_engine.proofs.Rows.{with_log, IsNext, in_room, place_below, rows_recorded, named-changed_at, length-changed_at}
use Rattle.poets_engine.proofs.Standing.{frame_by, study, is_too_large, is_in_limit, Stood, running, leaves, changes, stood, absent}
use Rattle.poets_engine.proofs.WatchLedgers.{watches_recorded}
use Rattle.poets_engine.proofs.Owed.{residual_hopeless, residual_hopeful, residual_kept, failure_is, no_failure, residual_performed}

module _ (rules : Rules) (x : Name) (e : Event) (old : StoreView) where
  pub transmit_absent : number_named x old.rows ≡ None → Makes rules (Command.Transmit x e) old old (Reply.NoContract x)
  transmit_absent none =
      leaves rules (Command.Transmit x e) (Reply.NoContract x) old (λ l. refl) (λ l h. Replies.TransmitToNone (absent rules l x old h none))

  module _ (is_taken : IsTaken (book_of_rules rules) (reports_of_rules rules) (Command.Transmit x e)) (n : ℕ) (r : RowView Term (List Node))
      (found : number_named x old.rows ≡ Some n) (row : slice_get old.rows (n - 1) ≡ Some r) where
    event : IsDeclaredEvent (book_of_rules rules).declared e
    event = typed_event (book_of_rules rules) (reports_of_rules rules) x e is_taken.typed

    abbrev original : Contract
    original = contract_of r.original

    -- what the row's contract becomes by the event
    abbrev next : Contract
    next = after (book_of_rules rules) (marks_of rules.studied) e (contract_of_rows r.current)

    abbrev is_past : Bool
    is_past = is_past_limit_in rules.studied next

    -- the events with this one
    abbrev longer_trace : List Event
    longer_trace = r.events ++ e ∷ []

    module _ (l : Ledger) (h : IsLedger rules l old) where
      c : Stood rules.studied l x old.rows n r
      c = stood rules l x old h n r found row

      declared : All (IsDeclaredEvent (book_of_rules rules).declared) longer_trace
      declared = All-append (IsDeclaredEvent (book_of_rules rules).declared) r.events (e ∷ []) c.is.declared
          (All-cons (IsDeclaredEvent (book_of_rules rules).declared) e [] event (All-nil (IsDeclaredEvent (book_of_rules rules).declared)))

      -- what the contract becomes is the residual by all of them
      next_is : next ≡ residual_after (book_of_rules rules) (marks_of rules.studied) original longer_trace
      next_is = ap (after (book_of_rules rules) (marks_of rules.studied) e) c.is.current ∙ sym (residual_after-more (book_of_rules rules) (marks_of rules.studied) original r.events e)

      -- the empty trace performs what is still owed exactly where the events perform the original
      performed : (may_end : Bool) → IsTrue may_end ↔ Perf (book_of_rules rules) [] next [] → IsTrue may_end ↔ Perf (book_of_rules rules) [] original longer_trace
      performed may_end t =
          let law = residual_performed (book_of_rules rules) (marks_of rules.studied) (study rules l old h) original longer_trace c.is.formed c.is.fit declared in (
            λ y. law.0 (subst (λ c. Perf (book_of_rules rules) [] c []) next_is (t.0 y)),
            λ p. t.1 (subst (λ c. Perf (book_of_rules rules) [] c []) (sym next_is) (law.1 p)),
          )

      -- the row's number and trace in the ledger
      over : is_ended l (1 + c.place) ≡ r.ended
      over = sym c.is.ended

      past : trace l (1 + c.place) ≡ r.events
      past = sym c.is.events

      -- the contract takes an event that is not late
      takes : r.ended ≡ false → late_day r.events e.day ≡ None → IsOpenTo e l x (1 + c.place) original
      takes goes_on in_time = (running rules.studied l x old.rows n r c goes_on, ap (λ s. late_day s e.day) past ∙ in_time)

      -- its trace in the ledger, with the event
      with_it : (P : List Event → Type 0) → P longer_trace → P (trace_with l (1 + c.place) e)
      with_it P h = subst (λ s. P (s ++ e ∷ [])) (sym past) h

      hope : is_failure next ≡ false → (n : ℕ) × May (book_of_rules rules) [] original longer_trace n
      hope failed =
          residual_hopeful (book_of_rules rules) (marks_of rules.studied) (study rules l old h) original longer_trace c.is.formed c.is.fit declared (λ z. no_failure next failed (next_is ∙ z))

      -- the rows and the log with the event
      records : (owed : List Node) → IsNext rules.studied r e owed → (new : StoreView) → RecordsEvent (book_of_rules rules).declared n e owed old new →
          IsLedger rules (with_log l (number_in (contract_named l x)) e) new
      records owed is_next new recorded =
          let number = c.number in
          let grow : List (RowView Term (List Node)) → ℕ → List (RowView Term (List Node)) = λ rows i. changed_at (with_event e owed) i (changed_at with_room i rows) in
          let rows : new.rows ≡ grow old.rows c.place = recorded.rows ∙ ap (grow old.rows) (let z : n - 1 ≡ c.place = omega (arith, number) in z) in
          let entry : with_log l (number_in (contract_named l x)) e ≡ with_log l (1 + c.place) e = ap (λ m. with_log l m e) (ap number_in c.named) in
          let below : 1 + c.place ≤ length old.rows = place_below old.rows c.place r c.found in
          let longer : length new.rows ≡ length old.rows = ap length rows ∙ length-changed_at (with_event e owed) c.place (changed_at with_room c.place old.rows) ∙ length-changed_at with_room c.place old.rows in
          subst (λ m. IsLedger rules m new) (sym entry) (record {
            studied = h.studied;
            whole = h.whole;
            contracts = ap (map named) rows ∙ named-changed_at (with_event e owed) (λ r. refl) c.place (changed_at with_room c.place old.rows)
                ∙ named-changed_at with_room (λ r. in_room (λ q. named q ≡ named r) r refl (λ full. refl)) c.place old.rows ∙ h.contracts;
            log = recorded.log ∙ ap (λ m. old.log ++ (m, e) ∷ []) number ∙ ap (λ xs. xs ++ (1 + c.place, e) ∷ []) h.log;
            rows = subst (RowsAre rules.studied (with_log l (1 + c.place) e) 1) (sym rows) (rows_recorded rules.studied l c.place e owed old.rows r h.rows c.found c.is is_next);
            watches = watches_recorded rules l (1 + c.place) e old new recorded.moves recorded.brought recorded.moved h.watches;
            logged = subst (λ m. All (λ p. p.0 ≤ m) (l.log ++ (1 + c.place, e) ∷ [])) (sym longer)
                (All-append (λ p. p.0 ≤ length old.rows) l.log ((1 + c.place, e) ∷ []) h.logged
                (All-cons (λ p. p.0 ≤ length old.rows) (1 + c.place, e) [] below (All-nil (λ p. p.0 ≤ length old.rows))));
            ended = subst (λ m. All (λ n. n ≤ m) l.ends) (sym longer) h.ended;
          })

      kept : (owed : List Node) → contract_of_rows owed ≡ next → late_day r.events e.day ≡ None → is_failure next ≡ false → is_past ≡ false → IsNext rules.studied r e owed
      kept owed same in_time failed within_limit = record {
        event = event;
        whole_event = is_taken.whole;
        in_time = in_time;
        residual = same;
        hopeful = subst (Hopeful (book_of_rules rules)) (sym (same ∙ next_is))
            (residual_kept (book_of_rules rules) (marks_of rules.studied) (study rules l old h) original longer_trace c.is.formed c.is.fit declared (λ z. no_failure next failed (next_is ∙ z)));
        within_limit = subst (λ d. is_past_limit_in rules.studied d ≡ false) (sym same) within_limit;
        whole = subst IsWholeContract (sym same)
            (IsWhole-after_at (book_of_rules rules) (marks_of rules.studied) h.whole e is_taken.whole (length (book_of_rules rules).templates) (contract_of_rows r.current) c.is.whole_current);
      }

    transmits_refused : (ended : Bool) (late : Option ℤ) (failed large : Bool) →
        r.ended ≡ ended → late_day r.events e.day ≡ late → is_failure next ≡ failed → is_past ≡ large →
        (refusal : Reply) → Refused refusal ≡ unless_over ended late (judged Reply.Unmatched failed large next) → Makes rules (Command.Transmit x e) old old refusal
    transmits_refused true late failed large n d fe le refusal q = subst (Makes rules (Command.Transmit x e) old old) (let z : Reply.Ended ≡ refusal = cc in z)
        (leaves rules (Command.Transmit x e) Reply.Ended old (λ l. refl) (λ l h. Replies.TransmitToEnded (c l h).named (over l h ∙ n)))
    transmits_refused false (Some day) failed large goes_on d fe le refusal q = subst (Makes rules (Command.Transmit x e) old old) (let z : Reply.Late day ≡ refusal = cc in z)
        (leaves rules (Command.Transmit x e) (Reply.Late day) old (λ l. refl) (λ l h. Replies.Late (running rules.studied l x old.rows n r (c l h) goes_on) (ap (λ s. late_day s e.day) (past l h) ∙ d)))
    transmits_refused false None true large n d fe le refusal q = subst (Makes rules (Command.Transmit x e) old old) (let z : Reply.Unmatched ≡ refusal = cc in z)
        (leaves rules (Command.Transmit x e) Reply.Unmatched old (λ l. refl) (λ l h. Replies.Unmatched (takes l h n d) (with_it l h (λ s. CanGoOn (frame_by rules) original s → ⊥)
        (residual_hopeless (book_of_rules rules) (marks_of rules.studied) (study rules l old h) original longer_trace (c l h).is.formed (c l h).is.fit (declared l h) (sym (next_is l h) ∙ failure_is next fe)))))
    transmits_refused false None false true n d fe le refusal q = subst (Makes rules (Command.Transmit x e) old old) (let z : Reply.TooLarge ≡ refusal = cc in z)
        (leaves rules (Command.Transmit x e) Reply.TooLarge old (λ l. refl) (λ l h. Replies.TransmitTooLarge (takes l h n d) (with_it l h (CanGoOn (frame_by rules) original) (hope l h fe))
        (with_it l h (IsTooLarge (frame_by rules) original)
        (is_too_large rules l old h original longer_trace (subst (λ c. is_past_limit_in rules.studied c ≡ true) (next_is l h) le)))))
    transmits_refused false None false false n d fe le refusal q = absurd cc

    pub transmit_refused : (refusal : Reply) → Refused refusal ≡ judgement_by rules.studied r e → Makes rules (Command.Transmit x e) old old refusal
    transmit_refused refusal q = transmits_refused r.ended (late_day r.events e.day) (is_failure next) is_past refl refl refl refl refusal q

    module _ (owed : List Node) (may_end : Bool) (tells : IsTrue may_end ↔ Perf (book_of_rules rules) [] (contract_of_rows owed) []) (new : StoreView)
        (recorded : RecordsEvent (book_of_rules rules).declared n e owed old new) where
      transmits_kept : (ended : Bool) (late : Option ℤ) (failed large : Bool) →
          r.ended ≡ ended → late_day r.events e.day ≡ late → is_failure next ≡ failed → is_past ≡ large →
          Owed (contract_of_rows owed) ≡ unless_over ended late (judged Reply.Unmatched failed large next) →
          Makes rules (Command.Transmit x e) old new (Reply.Recorded (length r.events + 1) may_end)
      transmits_kept true late failed large n d fe le q = absurd cc
      transmits_kept false (Some day) failed large n d fe le q = absurd cc
      transmits_kept false None true large n d fe le q = absurd cc
      transmits_kept false None false true n d fe le q = absurd cc
      transmits_kept false None false false n d fe le q =
          let same : contract_of_rows owed ≡ next = cc in
          changes rules (Command.Transmit x e) (Reply.Recorded (length r.events + 1) may_end) old new refl
          (λ l h. subst (λ s. Replies (frame_by rules) l (Command.Transmit x e) (Reply.Recorded (length s + 1) may_end)) (past l h)
          (Replies.Recorded (takes l h n d) (with_it l h (CanGoOn (frame_by rules) original) (hope l h fe))
          (with_it l h (λ s. IsTooLarge (frame_by rules) original s → ⊥)
          (is_in_limit rules l old h original longer_trace (subst (λ c. is_past_limit_in rules.studied c ≡ false) (next_is l h) le)))
          (with_it l h (TellsWhetherPerformed (frame_by rules) may_end original)
          (performed l h may_end (subst (λ c. IsTrue may_end ↔ Perf (book_of_rules rules) [] c []) same tells)))))
          (λ l h. records l h owed (kept l h owed same d fe le) new recorded)

      pub transmit_kept : Owed (contract_of_rows owed) ≡ judgement_by rules.studied r e → Makes rules (Command.Transmit x e) old new (Reply.Recorded (length r.events + 1) may_end)
      transmit_kept q = transmits_kept r.ended (late_day r.events e.day) (is_failure next) is_past refl refl refl refl q
