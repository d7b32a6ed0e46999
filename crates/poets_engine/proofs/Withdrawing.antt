-- A withdrawal is made.
use Rattle.std.proofs.Common.{◌≡◌, ◌≢◌, ℕ, zero, suc, ◌+◌, ◌-◌, ◌<◌, ◌≤◌, Bool, true, false, nat_eq, nat_lt, List, [], ◌∷◌, ◌++◌, Some, None, map, length, take, drop, get_or, remove, slice_get, append_assoc, refl, sym, ◌∙◌, ap, ap₂, subst, arith, inl, inr}
use lib.Signed.{<ℤ-≤ℤ_trans, clash_ℤ, lt_z_yes}
use Rattle.std.specs.Int.Signed.{lt_z_no}
use Rattle.std.proofs.lemmas.Float.{T_from_true, T_from_false}
use Rattle.std.proofs.lemmas.Bool.Decides.{nat_tests}
use Rattle.std.specs.Prelude.{IsTrue, ◌↔◌, ◌⊎◌, ℤ, ◌≤ℤ◌, int_lt, if◌then◌else◌}
use Rattle.std.specs.List.{All, AllZip}
use Rattle.std.proofs.lemmas.Bool.{cases_lt, false≢true, lt-ltb, ltb-true}
use Rattle.std.proofs.lemmas.List.{length-append, length-drop, length-map, length-take-le, take-append-drop}
use Rattle.std.proofs.lemmas.List.Elements.{All-head, All-tail, All-nil, All-cons, All-take}
use Rattle.std.proofs.lemmas.Option.{slice_get_within}
use Rattle.std.proofs.Math.Seq.{take-append_seam, drop-append_seam}
use Rattle.poets_value.specs.declared.value.Name.{Name}
use Rattle.poets_value.specs.declared.event.Event.{Event}
use Rattle.poets_value.specs.Listed.{Listed}
use Rattle.poets_value.specs.Whole.{IsWholeEvent}
use Rattle.std.specs.declared.alloc.Global.{Global}
use Rattle.std.specs.declared.sync.Arc.{Arc}
use Rattle.std.specs.Arc.{arc_value}
use Rattle.poets_syntax.specs.Applied.{CountsFit}
use Rattle.poets_residue.proofs.Traces.{trace_fit}
use Rattle.poets_syntax.specs.Book.{book_of}
use Rattle.poets_syntax.specs.Contract.{Contract, Failure, contract_of}
use Rattle.poets_syntax.specs.declared.term.Term.{Term}
use Rattle.poets_syntax.specs.WellFormed.{IsDeclaredEvent}
use Rattle.poets_syntax.specs.Whole.{IsWholeContract}
use Rattle.poets_meaning.specs.Marks.{Hopeful}
use Rattle.poets_meaning.specs.Perf.{Perf}
use Rattle.poets_meaning.specs.Studied.{marks_of}
use Rattle.poets_calculus.specs.Normal.{normal}
use Rattle.poets_residue.specs.Limits.{is_past_limit_in}
use Rattle.poets_residue.proofs.WholeResiduals.{trace_whole}
use Rattle.poets_cons.specs.declared.node.Node.{Node}
use Rattle.poets_cons.specs.Table.{contract_of_rows}
use Rattle.poets_table.specs.Pieces.{IsPieceOf, joined, starts_from, starts_of, starts_without}
use Rattle.poets_table.specs.TableView.{RowView, CutView, values_of, IsRowCut, changed_at, events_with, number_named, place_in_log, without_event}
use Rattle.poets_table.proofs.Logs.{IsLess, less-at-place}
use Rattle.poets_table.proofs.Starts.{cut-starts}
use Rattle.poets_command.specs.Plain.{Command, Reply}
use Rattle.poets_rules.specs.declared.rules.Rules.{Rules}
use Rattle.poets_rules.specs.Rules.{book_of_rules}
use Rattle.poets_history.specs.Ledger.{Ledger, number_in, number_of, trace, without}
use Rattle.poets_history.specs.Replies.{Replies, IsOpenAt, HasPlace, CanGoOn, GrowsTooLarge, TellsWhetherPerformed, trace_without}
use Rattle.poets_live.specs.Watching.{AllLead}
use Rattle.poets_engine.specs.Store.{StoreView}
use Rattle.poets_engine.specs.Rows.{IsLedger, NeverFall, RowIs, RowsAre, owed_after}
use Rattle.poets_engine.specs.Evaluations.{asked_in, asked_of_watches, asked_to_renew, asked_to_void, asked_to_void_number, asked_to_void_row, sum_from}
use Rattle.poets_engine.specs.code.Changes.{CutsStore, Withdraws}
use Rattle.poets_engine.specs.code.Judgements.{Refused, Owed}
use Rattle.poets_engine.specs.code.Makes.{Makes}
use Rattle.poets_engine.specs.code.Renewals.{FitsAt, HaveFirst, asked_along, by_events, owed_at, residual_from}
use Rattle.poets_engine.specs.code.Withdrawals.{IsKeptStore, place_from_nought}
use Rattle.poets_norm.proofs.Hope.{failure_is_hopeless}
use Rattle.poets_residue.specs.Unfolding.{IsStudied}
use Rattle.poets_meaning.specs.Studied.{StudiedBook}
use Rattle.poets_engine.proofs.Named.{truth, named}
use Rattle.poets_engine.proofs.Owed.{residual_hopeless, residual_hopeful, residual_kept, residual_performed}
use Rattle.poets_engine.proofs.Points.{front_points, later_points, joined-append, starts_from-append, start_is, take-starts_from, take-remove, take-both, start_stays}
use Rattle.poets_engine.proofs.Renewing.{kept_unless_failed, owed_is, refused_is, residual_from-append, failure_stays, sum_from-earlier}
use Rattle.poets_engine.proofs.Rows.{book_in, rows_changed, named-changed_at, length-changed_at}
use Rattle.poets_engine.proofs.Standing.{frame_by, study, is_too_large, is_in_limit, Stood, running, leaves, changes, stood, absent}
use Rattle.poets_engine.proofs.WatchLedgers.{watches_led}
use Rattle.poets_engine.proofs.Zipped.{AllZip-append, zip_at, zip_length}

-- ---- a list without one item

All-remove : {A : Type 0} (P : A → Type 0) (xs : List A) (p : ℕ) → All P xs → All P (remove xs p)
All-remove P [] p h = by_count p
  where
    by_count : (p : ℕ) → All P (remove [] p)
    by_count zero = All-nil P
    by_count (suc p) = All-nil P
All-remove P (x ∷ xs) zero h = All-tail P x xs h
All-remove P (x ∷ xs) (suc p) h = All-cons P x (remove xs p) (All-head P x xs h) (All-remove P xs p (All-tail P x xs h))

length-remove : {A : Type 0} (xs : List A) (p : ℕ) → p < length xs → length (remove xs p) ≡ length xs - 1
length-remove [] p h = absurd (omega (arith, h))
length-remove (x ∷ xs) zero h = omega arith
length-remove (x ∷ xs) (suc p) h = let later = length-remove xs p (omega (arith, h)) in omega (arith, later, h)

-- days that never fall do not fall without one of them
NeverFall-tail : (e : Event) (s : List Event) → NeverFall (e ∷ s) → NeverFall s
NeverFall-tail e [] h = tt
NeverFall-tail e (e' ∷ s) h = h.1

NeverFall-skip : (e e' : Event) (s : List Event) → NeverFall (e ∷ e' ∷ s) → NeverFall (e ∷ s)
NeverFall-skip e e' [] h = tt
NeverFall-skip e e' (e'' ∷ s) h = (no_later h.0 h.1.0, h.1.1)
  where
    no_later : {a b c : ℤ} → a ≤ℤ b → b ≤ℤ c → a ≤ℤ c
    no_later {a = a} {b = b} {c = c} first second = elim (truth (int_lt c a)) [
      | inl y ↦ clash_ℤ (<ℤ-≤ℤ_trans (lt_z_yes (T_from_true (int_lt c a) y)) first) second
      | inr n ↦ lt_z_no (T_from_false (int_lt c a) n)
    ]

NeverFall-remove : (s : List Event) (p : ℕ) → NeverFall s → NeverFall (remove s p)
NeverFall-remove [] zero h = tt
NeverFall-remove [] (suc p) h = tt
NeverFall-remove (e ∷ s) zero h = NeverFall-tail e s h
NeverFall-remove (e ∷ []) (suc zero) h = tt
NeverFall-remove (e ∷ []) (suc (suc p)) h = tt
NeverFall-remove (e ∷ e' ∷ s) (suc zero) h = NeverFall-skip e e' s h
NeverFall-remove (e ∷ e' ∷ s) (suc (suc p)) h = (h.0, NeverFall-remove (e' ∷ s) (suc p) h.1)

-- ---- the log without the pair

-- taken out by its place in the log, or by its place among the pairs of its number
removed_is : (n p : ℕ) (log : List (ℕ × Event)) → remove log (place_in_log n p log) ≡ without n (suc p) log
removed_is n p [] = by_count p
  where
    by_count : (p : ℕ) → remove [] (place_in_log n p []) ≡ without n (suc p) []
    by_count zero = refl
    by_count (suc p) = refl
removed_is n zero (q ∷ log) = by (nat_eq q.0 n) (removed_is n zero log)
  where
    by : (b : Bool) → remove log (place_in_log n zero log) ≡ without n 1 log →
        remove (q ∷ log) (if b then 0 else suc (place_in_log n zero log)) ≡ (if b then (if nat_eq 1 1 then log else q ∷ without n 0 log) else q ∷ without n 1 log)
    by true h = refl
    by false h = ap (λ l. q ∷ l) h
removed_is n (suc p) (q ∷ log) = by (nat_eq q.0 n) (removed_is n p log) (removed_is n (suc p) log)
  where
    no_first : nat_eq (suc (suc p)) 1 ≡ false
    no_first = grind (arith, nat_tests)

    one_less : suc (suc p) - 1 ≡ suc p
    one_less = omega arith

    by : (b : Bool) → remove log (place_in_log n p log) ≡ without n (suc p) log → remove log (place_in_log n (suc p) log) ≡ without n (suc (suc p)) log →
        remove (q ∷ log) (if b then suc (place_in_log n p log) else suc (place_in_log n (suc p) log))
        ≡ (if b then (if nat_eq (suc (suc p)) 1 then log else q ∷ without n (suc (suc p) - 1) log) else q ∷ without n (suc (suc p)) log)
    by true h k =
        ap (λ l. q ∷ l) h ∙ sym (ap (λ c. if c then log else q ∷ without n (suc (suc p) - 1) log) no_first ∙ ap (λ j. q ∷ without n j log) one_less)
    by false h k = ap (λ l. q ∷ l) k

-- ---- the row without the event

-- what remains, what is owed by it, and the points of its pieces
pub record Renews (s : StudiedBook) (r : RowView Term (List Node)) (p : ℕ) (cut : CutView) (current : List Node) (points : List (List Node)) : Type 0 where
  pub events : cut.events ≡ remove r.events p
  pub starts : cut.starts ≡ starts_without p r.starts
  pub owed : contract_of_rows current ≡ owed_after s r (remove r.events p)
  pub hopeful : Hopeful (book_in s) (contract_of_rows current)
  pub within : (n : ℕ) → is_past_limit_in s (owed_after s r (take n (remove r.events p))) ≡ false
  pub ahead : AllZip (λ n point. contract_of_rows point ≡ owed_after s r (take n (remove r.events p))) cut.starts points

module _ (s : StudiedBook) (l : Ledger) (i : ℕ) (r : RowView Term (List Node)) (h : RowIs s l i r) (p : ℕ) (within : p < length r.events) where
  -- what remains of the events
  abbrev rest : List Event
  rest = remove r.events p

  -- what is owed after some of them
  abbrev owed : ℕ → Contract
  owed n = owed_after s r (take n rest)

  fewer : length rest ≡ length r.events - 1
  fewer = length-remove r.events p within

  pub rest_declared : All (IsDeclaredEvent (book_in s).declared) rest
  rest_declared = All-remove (IsDeclaredEvent (book_in s).declared) r.events p h.declared

  owed_from : (xs ys : List Event) → owed_after s r (xs ++ ys) ≡ residual_from s (owed_after s r xs) ys
  owed_from xs ys = residual_from-append s (normal (book_in s) (marks_of s) (contract_of r.original)) xs ys

  -- up to the event nothing changed
  front_owed : (n : ℕ) → n ≤ p → owed n ≡ owed_after s r (take n r.events)
  front_owed n le = ap (owed_after s r) (take-remove n p r.events le (omega (arith, within)))

  -- what was owed on the way was never `Failure`
  never_failed : (n : ℕ) → owed_after s r (take n r.events) ≡ Failure → ⊥
  never_failed n failed =
      let all : owed_after s r r.events ≡ Failure =
      ap (owed_after s r) (sym (take-append-drop n r.events)) ∙ owed_from (take n r.events) (drop n r.events)
      ∙ ap (λ c. residual_from s c (drop n r.events)) failed ∙ failure_stays s (drop n r.events) in
      no_more (subst (Hopeful (book_in s)) (h.current ∙ all) h.hopeful)
    where
      no_more : Hopeful (book_in s) Failure → ⊥
      no_more k = failure_is_hopeless (book_in s) Failure refl k

  -- what remains is made anew from the piece that the event stood in
  module _ (cut : CutView) (fits : IsRowCut cut r) (at : cut.place ≡ p) (pieces : List (List Event)) (events : joined pieces ≡ cut.events) (starts : starts_of pieces ≡ cut.starts)
      (k : ℕ) (piece : IsPieceOf p r.starts k) (c : Contract) (ahead : c ≡ owed_after s r (take piece.0 r.events)) where
    abbrev m : ℕ
    m = piece.0

    later : List (List Event)
    later = drop k pieces

    left_events : joined pieces ≡ rest
    left_events = events ∙ fits.events ∙ ap (remove r.events) at

    left_starts : starts_of pieces ≡ starts_without p r.starts
    left_starts = starts ∙ fits.starts ∙ ap (λ q. starts_without q r.starts) at

    begins : length (joined (take k pieces)) ≡ m
    begins =
        let start = start_is 0 k m pieces (subst (λ ms. slice_get ms k ≡ Some m) (sym left_starts) (start_stays p m k r.starts piece.2 piece.1)) in
        omega (arith, start)

    whole : rest ≡ joined (take k pieces) ++ joined (drop k pieces)
    whole = sym left_events ∙ ap joined (sym (take-append-drop k pieces)) ∙ joined-append (take k pieces) (drop k pieces)

    front : take m rest ≡ joined (take k pieces)
    front = ap₂ take (sym begins) whole ∙ take-append_seam (joined (take k pieces)) (joined (drop k pieces))

    back : drop m rest ≡ joined (drop k pieces)
    back = ap₂ drop (sym begins) whole ∙ drop-append_seam (joined (take k pieces)) (joined (drop k pieces))

    reaches : m ≤ length rest
    reaches = let longer = ap length whole ∙ length-append (joined (take k pieces)) (joined (drop k pieces)) in omega (arith, longer, begins)

    is_ahead : c ≡ owed m
    is_ahead = ahead ∙ sym (front_owed m piece.2)

    small : is_past_limit_in s c ≡ false
    small = subst (λ d. is_past_limit_in s d ≡ false) (sym ahead) (h.within_limit m)

    -- what is owed after some of what comes behind is owed after so many more of all
    behind : (n : ℕ) → residual_from s c (take n (joined (drop k pieces))) ≡ owed (m + n)
    behind n =
        ap (λ d. residual_from s d (take n (joined (drop k pieces)))) is_ahead ∙ sym (owed_from (take m rest) (take n (joined (drop k pieces))))
        ∙ ap (λ es. owed_after s r (take m rest ++ take n es)) (sym back) ∙ ap (owed_after s r) (take-both m n rest)

    all_behind : residual_from s c (joined (drop k pieces)) ≡ owed_after s r rest
    all_behind =
        ap (λ d. residual_from s d (joined (drop k pieces))) is_ahead ∙ sym (owed_from (take m rest) (joined (drop k pieces)))
        ∙ ap (λ es. owed_after s r (take m rest ++ es)) (sym back) ∙ ap (owed_after s r) (take-append-drop m rest)

    -- so none grows past the limit where none of what comes behind does
    never_past : ((n : ℕ) → is_past_limit_in s (residual_from s c (take n (joined (drop k pieces)))) ≡ false) → (n : ℕ) → is_past_limit_in s (owed n) ≡ false
    never_past stays n = elim (cases_lt m n) [
      | inl lt ↦ (
          let e : m + (n - m) ≡ n = omega (arith, lt) in
          subst (λ d. is_past_limit_in s d ≡ false) (behind (n - m) ∙ ap owed e) (stays (n - m)))
      | inr le ↦ subst (λ d. is_past_limit_in s d ≡ false) (sym (front_owed n (let b = piece.2 in omega (arith, le, b)))) (h.within_limit n)
    ]

    pub refused_why : (refusal : Reply) → by_events s c (joined (drop k pieces)) ≡ Refused refusal →
        ((refusal ≡ Reply.TooLarge) × ((n : ℕ) × (is_past_limit_in s (owed n) ≡ true)))
        ⊎ ((refusal ≡ Reply.Unmatched) × ((n : ℕ) → is_past_limit_in s (owed n) ≡ false) × (owed_after s r rest ≡ Failure))
    refused_why refusal e = elim (refused_is s (joined (drop k pieces)) c refusal small e) [
      | inl large ↦ inl (large.0, (m + large.1.0, subst (λ d. is_past_limit_in s d ≡ true) (behind large.1.0) large.1.1))
      | inr stuck ↦ inr (stuck.0, never_past stuck.1, sym all_behind ∙ stuck.2)
    ]

    -- what is owed is what remains leaves, and the points stand
    pub renews : IsStudied (book_in s) (marks_of s) → (current : List Node) (points : List (List Node)) → by_events s c (joined (drop k pieces)) ≡ Owed (contract_of_rows current) →
        HaveFirst s c (drop k pieces) (take k r.points) points → Renews s r p cut current points
    renews studied current points e first =
        let is = owed_is s (joined (drop k pieces)) c (contract_of_rows current) small e in
        let now : contract_of_rows current ≡ owed_after s r rest = is.residual ∙ all_behind in
        record {
          events = fits.events ∙ ap (remove r.events) at;
          starts = sym starts ∙ left_starts;
          owed = now;
          hopeful = subst (Hopeful (book_in s)) (sym now)
              (residual_kept (book_in s) (marks_of s) studied (contract_of r.original) rest h.formed h.fit rest_declared
              (λ failed. owed_never_failed e (now ∙ failed)));
          within = never_past is.within;
          ahead = points_stand first;
        }
      where
        owed_never_failed : by_events s c (joined (drop k pieces)) ≡ Owed (contract_of_rows current) → contract_of_rows current ≡ Failure → ⊥
        owed_never_failed e failed =
            kept_unless_failed s (joined (drop k pieces)) c (contract_of_rows current) (λ z. never_failed m (sym ahead ∙ z)) e failed

        points_stand : HaveFirst s c (drop k pieces) (take k r.points) points → AllZip (λ n point. contract_of_rows point ≡ owed n) cut.starts points
        points_stand first =
            let split : cut.starts ≡ take k (starts_without p r.starts) ++ starts_from m (drop k pieces) =
            sym starts ∙ ap (starts_from 0) (sym (take-append-drop k pieces)) ∙ starts_from-append 0 (take k pieces) (drop k pieces)
            ∙ ap₂ (λ xs n. xs ++ starts_from n (drop k pieces)) (sym (take-starts_from 0 k pieces) ∙ ap (take k) left_starts)
            (let z : 0 + length (joined (take k pieces)) ≡ m = omega (arith, begins) in z) in
            subst (λ ms. AllZip (λ n point. contract_of_rows point ≡ owed n) ms points) (sym split)
            (subst (AllZip (λ n point. contract_of_rows point ≡ owed n) (take k (starts_without p r.starts) ++ starts_from m (drop k pieces))) (sym first.joined)
            (AllZip-append (λ n point. contract_of_rows point ≡ owed n) (take k (starts_without p r.starts)) (take k r.points) (starts_from m (drop k pieces)) first.later
            (front_points s r p within k m h.starts piece.1 piece.2 h.points)
            (later_points s r p within (drop k pieces) first.later c m reaches back is_ahead first.are)))

-- how many evaluations it takes to go over what remains from a place on
asked_sum : (s : StudiedBook) (r : RowView Term (List Node)) (rest es : List Event) (m : ℕ) → m ≤ length rest → drop m rest ≡ es →
    asked_along s (owed_after s r (take m rest)) es ≡ sum_from (λ j. asked_in s (owed_after s r (take j rest))) m (length es)
asked_sum s r rest [] m le e = refl
asked_sum s r rest (v ∷ es) m le e =
    let whole : rest ≡ (take m rest ++ v ∷ []) ++ es = sym (take-append-drop m rest) ∙ ap (λ vs. take m rest ++ vs) e ∙ sym (append_assoc (take m rest) (v ∷ []) es) in
    let count : length (take m rest ++ v ∷ []) ≡ suc m = length-append (take m rest) (v ∷ []) ∙ (let z = length-take-le m rest le in omega (arith, z)) in
    let next : take (suc m) rest ≡ take m rest ++ v ∷ [] = ap₂ take (sym count) whole ∙ take-append_seam (take m rest ++ v ∷ []) es in
    let left : drop (suc m) rest ≡ es = ap₂ drop (sym count) whole ∙ drop-append_seam (take m rest ++ v ∷ []) es in
    let longer = ap length whole ∙ length-append (take m rest ++ v ∷ []) es in
    let owed : residual_from s (owed_after s r (take m rest)) (v ∷ []) ≡ owed_after s r (take (suc m) rest) =
    sym (residual_from-append s (normal (book_in s) (marks_of s) (contract_of r.original)) (take m rest) (v ∷ [])) ∙ ap (owed_after s r) (sym next) in
    ap (λ n. asked_in s (owed_after s r (take m rest)) + n)
    (ap (λ d. asked_along s d es) owed ∙ asked_sum s r rest es (suc m) (omega (arith, count, longer)) left)

-- ---- the ledger without the event

abbrev pub with_less : Ledger → (number place : ℕ) → Ledger
with_less l n k = record l { log = without n k l.log }

module _ (rules : Rules) (x : Name) (k : ℕ) (old : StoreView) where
  pub void_absent : number_named x old.rows ≡ None → Makes rules (Command.Void x k) old old (Reply.NoContract x)
  void_absent none =
      leaves rules (Command.Void x k) (Reply.NoContract x) old (λ l. refl) (λ l h. Replies.VoidOfNone (absent rules l x old h none))

  module _ (n : ℕ) (r : RowView Term (List Node)) (found : number_named x old.rows ≡ Some n) (row : slice_get old.rows (n - 1) ≡ Some r) where
    standing : (l : Ledger) → IsLedger rules l old → Stood rules.studied l x old.rows n r
    standing l h = stood rules l x old h n r found row

    pub void_ended : r.ended ≡ true → Makes rules (Command.Void x k) old old Reply.Ended
    void_ended e = leaves rules (Command.Void x k) Reply.Ended old (λ l. refl) (λ l h.
        let c = standing l h in
        Replies.VoidOfEnded c.named (sym c.is.ended ∙ e))

    module _ (goes_on : r.ended ≡ false) where
      no_place : place_from_nought r.events k ≡ None → HasPlace r.events k → ⊥
      no_place e h = by k h e
        where
          by : (k : ℕ) → HasPlace r.events k → place_from_nought r.events k ≡ None → ⊥
          by zero h e = omega (arith, h.0)
          by (suc j) h e = let z : Some j ≡ None = sym (ap (λ b. if b then Some j else None) (lt-ltb j (length r.events) (omega (arith, h.1)))) ∙ e in cc

      pub void_nowhere : place_from_nought r.events k ≡ None → Makes rules (Command.Void x k) old old (Reply.NoEvent k)
      void_nowhere e = leaves rules (Command.Void x k) (Reply.NoEvent k) old (λ l. refl) (λ l h.
          let c = standing l h in
          Replies.NoEvent (running rules.studied l x old.rows n r c goes_on) (subst (λ s. HasPlace s k → ⊥) c.is.events (no_place e)))

      module _ (p : ℕ) (at : place_from_nought r.events k ≡ Some p) where
        place_is : (k ≡ suc p) × (p < length r.events)
        place_is = by k at
          where
            by : (k : ℕ) → place_from_nought r.events k ≡ Some p → (k ≡ suc p) × (p < length r.events)
            by zero e = absurd cc
            by (suc j) e = by_test (nat_lt j (length r.events)) refl e
              where
                by_test : (b : Bool) → nat_lt j (length r.events) ≡ b → (if b then Some j else None) ≡ Some p → (suc j ≡ suc p) × (p < length r.events)
                by_test true t e = let same : j ≡ p = cc in (ap suc same, let lt = ltb-true j (length r.events) t in omega (arith, lt, same))
                by_test false t e = absurd cc

        abbrev remains : List Event
        remains = remove r.events p

        module _ (l : Ledger) (h : IsLedger rules l old) where
          pub c : Stood rules.studied l x old.rows n r
          c = standing l h

          pub open_at : IsOpenAt k l x (1 + c.place) (contract_of r.original)
          open_at = (
            running rules.studied l x old.rows n r c goes_on,
            subst (λ s. HasPlace s k) c.is.events (omega (arith, place_is.0), omega (arith, place_is.0, place_is.1)),
          )

          -- what remains in the ledger
          pub remains_is : trace_without l (1 + c.place) k ≡ remains
          remains_is = ap₂ remove (sym c.is.events) (let z : k - 1 ≡ p = omega (arith, place_is.0) in z)

          study_of : IsStudied (book_of_rules rules) (marks_of rules.studied)
          study_of = study rules l old h

          declared : All (IsDeclaredEvent (book_of_rules rules).declared) remains
          declared = rest_declared rules.studied l (1 + c.place) r c.is p place_is.1

          less : IsLess (1 + c.place) p (place_in_log (1 + c.place) p l.log) l.log
          less = less-at-place (1 + c.place) p l.log (subst (λ s. p < length s) c.is.events place_is.1)

          log_less : remove l.log (place_in_log (1 + c.place) p l.log) ≡ without (1 + c.place) k l.log
          log_less = removed_is (1 + c.place) p l.log ∙ ap (λ j. without (1 + c.place) j l.log) (sym place_is.0)

          trace_same : trace (with_less l (1 + c.place) k) (1 + c.place) ≡ remains
          trace_same = ap (events_with (1 + c.place)) (sym log_less) ∙ less.same ∙ ap (λ s. remove s p) (sym c.is.events)

          trace_other : (i : ℕ) → 1 + c.place ≢ i → trace (with_less l (1 + c.place) k) i ≡ trace l i
          trace_other i ne = ap (events_with i) (sym log_less) ∙ less.other i (λ e. ne (sym e))

          -- the row with what is owed made anew
          module _ (cut : CutView) (fits : IsRowCut cut r) (place : cut.place ≡ p) (current : List Node) (points : List (List Node))
              (new : Renews rules.studied r p cut current points) where
            row_is : RowIs rules.studied (with_less l (1 + c.place) k) (1 + c.place) (without_event cut current points r)
            row_is =
                let same : remove r.events cut.place ≡ remains = ap (remove r.events) place in
                record {
                  events = same ∙ sym trace_same;
                  ended = c.is.ended;
                  formed = c.is.formed;
                  fit = c.is.fit;
                  declared = subst (All (IsDeclaredEvent (book_of_rules rules).declared)) (sym same) declared;
                  days = subst NeverFall (sym same) (NeverFall-remove r.events p c.is.days);
                  current = new.owed ∙ ap (owed_after rules.studied r) (sym same);
                  hopeful = new.hopeful;
                  within_limit = λ j. subst (λ s. is_past_limit_in rules.studied (owed_after rules.studied r (take j s)) ≡ false) (sym same) (new.within j);
                  starts = cut-starts r cut current points fits c.is.starts;
                  points = subst (λ s. AllZip (λ j point. contract_of_rows point ≡ owed_after rules.studied r (take j s)) cut.starts points) (sym same) new.ahead;
                  whole_original = c.is.whole_original;
                  whole_events = All-remove IsWholeEvent r.events cut.place c.is.whole_events;
                  whole_current = subst IsWholeContract (sym new.owed)
                      (trace_whole (book_of_rules rules) (marks_of rules.studied) h.whole (contract_of r.original) c.is.whole_original remains
                      (All-remove IsWholeEvent r.events p c.is.whole_events));
                }

            pub withdrawn : (store : StoreView) → cut.number ≡ n → cut.log_place ≡ place_in_log n p old.log → Withdraws (book_of_rules rules).declared cut current points old store →
                IsLedger rules (with_less l (number_of l x) k) store
            withdrawn store number log_place w =
                let change = without_event cut current points in
                let at_place : cut.number - 1 ≡ c.place = let e = c.number in omega (arith, number, e) in
                let rows : store.rows ≡ changed_at change c.place old.rows = w.rows ∙ ap (λ i. changed_at change i old.rows) at_place in
                let in_log : cut.log_place ≡ place_in_log (1 + c.place) p l.log = log_place ∙ ap₂ (λ i log. place_in_log i p log) c.number h.log in
                let log : store.log ≡ without (1 + c.place) k l.log = w.log ∙ ap₂ remove h.log in_log ∙ log_less in
                let longer : length store.rows ≡ length old.rows = ap length rows ∙ length-changed_at change c.place old.rows in
                subst (λ i. IsLedger rules (with_less l i k) store) (sym (ap number_in c.named)) (record {
                  studied = h.studied;
                  whole = h.whole;
                  contracts = ap (map named) rows ∙ named-changed_at change (λ q. refl) c.place old.rows ∙ h.contracts;
                  log = log;
                  rows = subst (RowsAre rules.studied (with_less l (1 + c.place) k) 1) (sym rows)
                      (rows_changed rules.studied l (with_less l (1 + c.place) k) (1 + c.place) change trace_other (λ i ne. refl) 1 c.place old.rows r refl h.rows c.found row_is);
                  watches = watches_led rules l (with_less l (1 + c.place) k) old store w.moves
                      (subst (λ events. AllLead (book_of_rules rules).declared events old.watches w.moves) (ap (map (λ q. q.1)) log) w.leads) w.moved h.watches;
                  logged = subst (λ m. All (λ q. q.0 ≤ m) (without (1 + c.place) k l.log)) (sym longer)
                      (subst (All (λ q. q.0 ≤ length old.rows)) log_less (All-remove (λ q. q.0 ≤ length old.rows) l.log (place_in_log (1 + c.place) p l.log) h.logged));
                  ended = subst (λ m. All (λ j. j ≤ m) l.ends) (sym longer) h.ended;
                })

        -- what remains is refused
        pub void_refused : (refusal : Reply) →
            ((refusal ≡ Reply.TooLarge) × ((j : ℕ) × (is_past_limit_in rules.studied (owed_after rules.studied r (take j remains)) ≡ true)))
            ⊎ ((refusal ≡ Reply.Unmatched) × ((j : ℕ) → is_past_limit_in rules.studied (owed_after rules.studied r (take j remains)) ≡ false)
            × (owed_after rules.studied r remains ≡ Failure)) →
            Makes rules (Command.Void x k) old old refusal
        void_refused refusal (inl large) =
            subst (Makes rules (Command.Void x k) old old) (sym large.0)
            (leaves rules (Command.Void x k) Reply.TooLarge old (λ l. refl) (λ l h.
            Replies.VoidTooLarge (open_at l h) (subst (GrowsTooLarge (frame_by rules) (contract_of r.original)) (sym (remains_is l h))
            (large.1.0, is_too_large rules l old h (contract_of r.original) (take large.1.0 remains) large.1.1))))
        void_refused refusal (inr stuck) =
            subst (Makes rules (Command.Void x k) old old) (sym stuck.0)
            (leaves rules (Command.Void x k) Reply.Unmatched old (λ l. refl) (λ l h.
            let f = frame_by rules in
            let c = standing l h in
            Replies.VoidUnmatched (open_at l h)
            (subst (λ s. GrowsTooLarge f (contract_of r.original) s → ⊥) (sym (remains_is l h))
            (λ large. is_in_limit rules l old h (contract_of r.original) (take large.0 remains) (stuck.1 large.0) large.1))
            (subst (λ s. CanGoOn f (contract_of r.original) s → ⊥) (sym (remains_is l h))
            (residual_hopeless (book_of_rules rules) (marks_of rules.studied) (study rules l old h) (contract_of r.original) remains c.is.formed c.is.fit (declared l h) stuck.2))))

        -- or it is what is recorded from then on
        pub void_made : (cut : CutView) → IsRowCut cut r → cut.place ≡ p → cut.number ≡ n → cut.log_place ≡ place_in_log n p old.log → (current : List Node) (points : List (List Node)) →
            Renews rules.studied r p cut current points → (may_end : Bool) → IsTrue may_end ↔ Perf (book_of_rules rules) [] (contract_of_rows current) [] →
            (store : StoreView) → Withdraws (book_of_rules rules).declared cut current points old store →
            Makes rules (Command.Void x k) old store (Reply.Voided (length remains) may_end)
        void_made cut fits place number log_place current points new may_end tells store w =
            changes rules (Command.Void x k) (Reply.Voided (length remains) may_end) old store refl
            (λ l h.
            let f = frame_by rules in
            let c = standing l h in
            let o = contract_of r.original in
            let law = residual_performed (book_of_rules rules) (marks_of rules.studied) (study rules l old h) o remains c.is.formed c.is.fit (declared l h) in
            subst (λ s. Replies f l (Command.Void x k) (Reply.Voided (length s) may_end)) (remains_is l h)
            (Replies.Voided (open_at l h)
            (subst (λ s. GrowsTooLarge f o s → ⊥) (sym (remains_is l h)) (λ large. is_in_limit rules l old h o (take large.0 remains) (new.within large.0) large.1))
            (subst (CanGoOn f o) (sym (remains_is l h))
            (residual_hopeful (book_of_rules rules) (marks_of rules.studied) (study rules l old h) o remains c.is.formed c.is.fit (declared l h)
            (λ failed. failed_no (new.owed ∙ failed) new.hopeful)))
            (subst (TellsWhetherPerformed f may_end o) (sym (remains_is l h)) (
              λ y. law.0 (subst (λ d. Perf (book_of_rules rules) [] d []) new.owed (tells.0 y)),
              λ q. tells.1 (subst (λ d. Perf (book_of_rules rules) [] d []) (sym new.owed) (law.1 q)),
            ))))
            (λ l h. withdrawn l h cut fits place current points new store number log_place w)
          where
            failed_no : contract_of_rows current ≡ Failure → Hopeful (book_of_rules rules) (contract_of_rows current) → ⊥
            failed_no failed hopeful = failure_is_hopeless (book_of_rules rules) (contract_of_rows current) failed hopeful

        -- what the code made anew from the piece on that the event stood in
        module _ (kept : IsKeptStore rules old) (cut : CutView) (cuts : CutsStore n p old cut) (pieces : List (List Event)) (events : joined pieces ≡ cut.events) (starts : starts_of pieces ≡ cut.starts)
            (j : ℕ) (piece : IsPieceOf p r.starts j) (points : Listed (Arc (List Node) Global)) (same : values_of points ≡ r.points) where
          abbrev s : StudiedBook
          s = rules.studied

          stands : Stood s kept.ledger x old.rows n r
          stands = standing kept.ledger kept.is

          pub row_cut : IsRowCut cut r
          row_cut = cuts.fits.row r (subst (λ i. slice_get old.rows (i - 1) ≡ Some r) (sym cuts.number) row)

          ahead : owed_at points j ≡ owed_after s r (take piece.0 r.events)
          ahead =
              ap (λ ps. contract_of_rows (get_or ps j [])) same
              ∙ zip_at (λ m point. contract_of_rows point ≡ owed_after s r (take m r.events)) r.starts r.points j piece.0 [] stands.is.points piece.1

          pub piece_below : j < length points.items
          piece_below =
              let there = slice_get_within r.starts j piece.0 piece.1 in
              let many = zip_length (λ m point. contract_of_rows point ≡ owed_after s r (take m r.events)) r.starts r.points stands.is.points in
              let mapped = sym (length-map points.items arc_value) ∙ ap length same in
              omega (arith, there, many, mapped)

          pub fits_at : FitsAt s points j
          fits_at =
              subst (CountsFit (book_of s.book)) (sym ahead)
              (trace_fit (book_in s) (marks_of s) (study rules kept.ledger old kept.is) (contract_of r.original) stands.is.formed stands.is.fit (take piece.0 r.events)
              (All-take (IsDeclaredEvent (book_of s.book).declared) piece.0 r.events stands.is.declared))

          pub renewal_refused : (refusal : Reply) → by_events s (owed_at points j) (joined (drop j pieces)) ≡ Refused refusal → Makes rules (Command.Void x k) old old refusal
          renewal_refused refusal e =
              void_refused refusal (refused_why s kept.ledger (1 + stands.place) r stands.is p place_is.1 cut row_cut cuts.place pieces events starts j piece (owed_at points j) ahead refusal e)

          renewed : (current : List Node) (made : List (List Node)) → by_events s (owed_at points j) (joined (drop j pieces)) ≡ Owed (contract_of_rows current) →
              HaveFirst s (owed_at points j) (drop j pieces) (take j r.points) made → Renews s r p cut current made
          renewed current made e first =
              renews s kept.ledger (1 + stands.place) r stands.is p place_is.1 cut row_cut cuts.place pieces events starts j piece (owed_at points j) ahead
              (study rules kept.ledger old kept.is) current made e first

          pub renewal_each : (current : List Node) (made : List (List Node)) → by_events s (owed_at points j) (joined (drop j pieces)) ≡ Owed (contract_of_rows current) →
              HaveFirst s (owed_at points j) (drop j pieces) (take j r.points) made → length made ≡ length cut.starts
          renewal_each current made e first =
              sym (zip_length (λ m point. contract_of_rows point ≡ owed_after s r (take m remains)) cut.starts made (renewed current made e first).ahead)

          log_place : cut.log_place ≡ place_in_log n p old.log
          log_place = cuts.fits.log_place ∙ ap₂ (λ i q. place_in_log i q old.log) cuts.number cuts.place

          pub place_below_log : cut.log_place < length old.log
          unfolding stands c
          place_below_log =
              let l = kept.ledger in
              let there : place_in_log (1 + stands.place) p l.log < length l.log = (less l kept.is).within in
              let here : cut.log_place ≡ place_in_log (1 + stands.place) p l.log = log_place ∙ ap₂ (λ i log. place_in_log i p log) stands.number kept.is.log in
              let long = ap length kept.is.log in
              omega (arith, there, here, long)

          pub renewal_made : (current : List Node) (made : List (List Node)) → by_events s (owed_at points j) (joined (drop j pieces)) ≡ Owed (contract_of_rows current) →
              HaveFirst s (owed_at points j) (drop j pieces) (take j r.points) made → (may_end : Bool) → IsTrue may_end ↔ Perf (book_of_rules rules) [] (contract_of_rows current) [] →
              (store : StoreView) → Withdraws (book_of_rules rules).declared cut current made old store →
              Makes rules (Command.Void x k) old store (Reply.Voided (length (joined pieces)) may_end)
          renewal_made current made e first may_end tells store w =
              subst (λ es. Makes rules (Command.Void x k) old store (Reply.Voided (length es) may_end)) (sym (events ∙ row_cut.events ∙ ap (remove r.events) cuts.place))
              (void_made cut row_cut cuts.place cuts.number log_place current made (renewed current made e first) may_end tells store w)

          -- and how many evaluations that took
          pub renewal_asks : asked_along s (owed_at points j) (joined (drop j pieces)) ≤ asked_to_renew s r p
          renewal_asks =
              let h = stands.is in
              let place = 1 + stands.place in
              let m = piece.0 in
              let front = is_ahead s kept.ledger place r h p place_is.1 cut row_cut cuts.place pieces events starts j piece (owed_at points j) ahead in
              let behind = back s kept.ledger place r h p place_is.1 cut row_cut cuts.place pieces events starts j piece (owed_at points j) ahead in
              let reached = reaches s kept.ledger place r h p place_is.1 cut row_cut cuts.place pieces events starts j piece (owed_at points j) ahead in
              let near : p - 255 ≤ m = let far = piece.3 in omega (arith, far) in
              let count : length (drop m remains) ≡ length remains - m = length-drop m remains in
              let asked : asked_along s (owed_at points j) (joined (drop j pieces)) ≡ sum_from (λ i. asked_in s (owed_after s r (take i remains))) m (length remains - m) =
              ap₂ (λ d es. asked_along s d es) front (sym behind) ∙ asked_sum s r remains (drop m remains) m reached refl
              ∙ ap (sum_from (λ i. asked_in s (owed_after s r (take i remains))) m) count in
              let most = sum_from-earlier (λ i. asked_in s (owed_after s r (take i remains))) (p - 255) (length remains) m near in
              subst (λ a. a ≤ asked_to_renew s r p) (sym asked) most

          pub void_asks : asked_to_void rules old x k ≡ asked_to_renew s r p + asked_of_watches cut.log_place old
          void_asks =
              let less_one : k - 1 ≡ p = let is = place_is.0 in omega (arith, is) in
              ap (asked_to_void_number s old (k - 1)) found ∙ ap (asked_to_void_row s old n (k - 1)) row
              ∙ ap (λ q. asked_to_renew s r q + asked_of_watches (place_in_log n q old.log) old) less_one
              ∙ ap (λ q. asked_to_renew s r p + asked_of_watches q old) (sym log_place)
