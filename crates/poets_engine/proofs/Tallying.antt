-- Tallies, watches and reads are made.
use Rattle.std.proofs.Common.{◌≡◌, ℕ, zero, suc, ◌+◌, ◌-◌, ◌<◌, ◌≤◌, List, [], ◌∷◌, ◌++◌, Option, Some, None, map, length, slice_get, refl, sym, ◌∙◌, ap, subst, arith, inl, inr}
use Rattle.std.specs.Prelude.{◌⊎◌}
use Rattle.std.specs.List.{All, AllZip}
use Rattle.std.proofs.lemmas.Option.{slice_get_cases}
use Rattle.poets_value.specs.declared.value.Name.{Name}
use Rattle.poets_value.specs.declared.value.Value.{Value}
use Rattle.poets_expr.specs.Expression.{Expression}
use Rattle.poets_expr.specs.Val.{val}
use Rattle.poets_report.specs.declared.report.Report.{Report}
use Rattle.poets_report.specs.Reports.{report_of}
use Rattle.poets_report.specs.Plain.{Answer}
use Rattle.poets_report.specs.Answers.{IsAnswer}
use Rattle.poets_report.specs.Plain as plain
use Rattle.poets_live.specs.Watching.{WatchView, Follows}
use Rattle.poets_command.specs.Plain.{Command, Reply}
use Rattle.poets_command.specs.Reports.{report_in}
use Rattle.poets_rules.specs.declared.rules.Rules.{Rules}
use Rattle.poets_rules.specs.Rules.{book_of_rules, reports_of_rules}
use Rattle.poets_history.specs.Ledger.{Ledger, events, watch_at}
use Rattle.poets_history.specs.Replies.{Replies}
use Rattle.poets_engine.specs.Store.{StoreView}
use Rattle.poets_engine.specs.code.Changes.{AddsWatch}
use Rattle.poets_engine.specs.Rows.{RowsAre, WatchIs}
use Rattle.poets_engine.specs.code.Makes.{Makes}
use Rattle.poets_engine.proofs.Named.{named}
use Rattle.poets_engine.proofs.Standing.{frame_by, leaves, changes}
use Rattle.poets_engine.proofs.WatchLedgers.{with_watch, watches_begun, as_many, WatchAt, watch_there}

-- the values of arguments under the declared names of rules
abbrev pub values_by : Rules → List Expression → List (Option Value)
values_by rules args = map (val (book_of_rules rules).declared []) args

module _ (rules : Rules) (x : Name) (args : List Expression) (store : StoreView) where
  pub tally_made : (q : plain.Report) (values : List (Option Value)) (a : Answer) → report_in (reports_of_rules rules) x ≡ Some q → values ≡ values_by rules args →
      IsAnswer (book_of_rules rules).declared q values (map (λ p. p.1) store.log) a → Makes rules (Command.Tally x args) store store (Reply.Answered a)
  tally_made q values a found valued answer =
      leaves rules (Command.Tally x args) (Reply.Answered a) store (λ l. refl) (λ l h. Replies.Tallied (
        q,
        found,
        subst (λ log. IsAnswer (book_of_rules rules).declared q (values_by rules args) (map (λ p. p.1) log) a) h.log
            (subst (λ vs. IsAnswer (book_of_rules rules).declared q vs (map (λ p. p.1) store.log) a) valued answer),
      ))

-- the rows are those of the ledger with one watch more
rows_watched : (rules : Rules) (l : Ledger) (x : Name) (args : List Expression) (i : ℕ) (rows : _) → RowsAre rules.studied l i rows → RowsAre rules.studied (with_watch rules l x args) i rows
rows_watched rules l x args i [] h = tt
rows_watched rules l x args i (r ∷ rows) h = (
  record {
    events = h.0.events;
    ended = h.0.ended;
    formed = h.0.formed;
    fit = h.0.fit;
    declared = h.0.declared;
    days = h.0.days;
    current = h.0.current;
    hopeful = h.0.hopeful;
    within_limit = h.0.within_limit;
    starts = h.0.starts;
    points = h.0.points;
    whole_original = h.0.whole_original;
    whole_events = h.0.whole_events;
    whole_current = h.0.whole_current;
  },
  rows_watched rules l x args (suc i) rows h.1,
)

module _ (rules : Rules) (x : Name) (args : List Expression) (old new : StoreView) where
  pub watch_made : (report : Report) (values : List (Option Value)) (n : ℕ) → report_in (reports_of_rules rules) x ≡ Some (report_of report) → values ≡ values_by rules args →
      AddsWatch (book_of_rules rules).declared report values old new → n ≡ length old.watches + 1 → Makes rules (Command.Watch x args) old new (Reply.Watching n)
  watch_made report values n found valued added number =
      changes rules (Command.Watch x args) (Reply.Watching n) old new refl
      (λ l h. subst (λ m. Replies (frame_by rules) l (Command.Watch x args) (Reply.Watching m))
      (ap (λ m. m + 1) (as_many rules l l.watches old.watches h.watches) ∙ sym number) Replies.Watching)
      (λ l h.
      let last = added.begins.last in
      let begun : WatchIs rules (with_watch rules l x args) (x, args) last = record {
        report = found ∙ ap (λ r. Some (report_of r)) (sym added.begins.of_report);
        args = added.begins.of_args ∙ valued;
        follows = subst (λ log. Follows (book_of_rules rules).declared (map (λ p. p.1) log) last) h.log added.begins.follows;
      } in
      record {
        studied = h.studied;
        whole = h.whole;
        contracts = ap (map named) added.rows ∙ h.contracts;
        log = added.log ∙ h.log;
        rows = subst (RowsAre rules.studied (with_watch rules l x args) 1) (sym added.rows) (rows_watched rules l x args 1 old.rows h.rows);
        watches = subst (AllZip (WatchIs rules (with_watch rules l x args)) (l.watches ++ (x, args) ∷ [])) (sym added.begins.added)
            (watches_begun rules l (with_watch rules l x args) refl old.watches x args last h.watches begun);
        logged = subst (λ rows. All (λ p. p.0 ≤ length rows) l.log) (sym added.rows) h.logged;
        ended = subst (λ rows. All (λ n. n ≤ length rows) l.ends) (sym added.rows) h.ended;
      })

past_end : {A : Type 0} (xs : List A) (i : ℕ) → length xs ≤ i → slice_get xs i ≡ None
past_end xs i h = elim (slice_get_cases xs i).1 [
  | inl there ↦ absurd (omega (arith, h, there.1))
  | inr none ↦ none.1
]

-- an item within a list
pub within : {A : Type 0} (xs : List A) (i : ℕ) → i < length xs → (x : A) × (slice_get xs i ≡ Some x)
within xs i h = elim (slice_get_cases xs i).1 [
  | inl there ↦ (there.0, there.2)
  | inr none ↦ absurd (omega (arith, h, none.0))
]

-- a number past those of the watches, or 0, has none
no_watch : (l : Ledger) (n : ℕ) → (n ≡ 0) ⊎ (length l.watches < n) → watch_at l n ≡ None
no_watch l zero h = refl
no_watch l (suc n) (inl z) = absurd (omega (arith, z))
no_watch l (suc n) (inr past) = past_end l.watches n (omega (arith, past))

watch_found : (l : Ledger) (n : ℕ) (o : _) → 0 < n → slice_get l.watches (n - 1) ≡ o → watch_at l n ≡ o
watch_found l zero o lt e = absurd (omega (arith, lt))
watch_found l (suc n) o lt e = subst (λ i. slice_get l.watches i ≡ o) (let z : suc n - 1 ≡ n = omega arith in z) e

module _ (rules : Rules) (n : ℕ) (store : StoreView) where
  pub read_absent : (n ≡ 0) ⊎ (length store.watches < n) → Makes rules (Command.Read n) store store (Reply.NoWatch n)
  read_absent past =
      leaves rules (Command.Read n) (Reply.NoWatch n) store (λ l. refl)
      (λ l h. Replies.NoWatch (no_watch l n (subst (λ m. (n ≡ 0) ⊎ (m < n)) (sym (as_many rules l l.watches store.watches h.watches)) past)))

  pub read_found : (w : WatchView) (a : Answer) → 0 < n → slice_get store.watches (n - 1) ≡ Some w → a ≡ w.answer → Makes rules (Command.Read n) store store (Reply.Answered a)
  read_found w a positive here same =
      leaves rules (Command.Read n) (Reply.Answered a) store (λ l. refl)
      (λ l h.
      let at : WatchAt rules l l.watches (n - 1) w = watch_there rules l l.watches store.watches (n - 1) w h.watches here in
      let x = at.0 in
      let is = at.2 in
      subst (λ b. Replies (frame_by rules) l (Command.Read n) (Reply.Answered b)) (sym same)
      (Replies.Read (watch_found l n (Some x) positive at.1)
      (report_of w.report, is.report, subst (λ vs. IsAnswer (book_of_rules rules).declared (report_of w.report) vs (events l) w.answer) is.args is.follows.answers)))
