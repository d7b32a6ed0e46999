-- Rows under a ledger that grows.
use Rattle.std.proofs.Common.{◌≡◌, ◌≢◌, ℕ, zero, suc, ◌+◌, ◌<◌, ◌≤◌, Bool, true, false, ◌||◌, nat_eq, List, [], ◌∷◌, ◌++◌, Some, None, map, length, slice_get, take, refl, sym, ◌∙◌, ap, subst, arith, inl, inr, append-nil}
use Rattle.std.specs.Prelude.{ℤ, ◌≤ℤ◌, int_lt, filter}
use Rattle.std.specs.Prelude.{if◌then◌else◌}
use Rattle.std.specs.List.{All, AllZip, list_any}
use Rattle.std.proofs.Math.Bool.{or-false, or-true}
use Rattle.std.specs.Int.Signed.{lt_z_no}
use Rattle.std.proofs.lemmas.Float.{T_from_false}
use Rattle.std.proofs.lemmas.Bool.{eqb-true, eq-eqb}
use Rattle.std.proofs.lemmas.Bool.{cases_lt}
use Rattle.std.proofs.lemmas.List.{length-append, map-append, take_all, take-append-le}
use Rattle.std.proofs.lemmas.List.Folds.{list_any-append}
use Rattle.std.proofs.lemmas.List.Elements.{filter-append, All-nil, All-cons, All-head, All-tail, All-append, All-get_or}
use Rattle.std.proofs.lemmas.Option.{get_or_from_slice_get, slice_get_within}
use Rattle.poets_value.specs.declared.value.Name.{Name}
use Rattle.poets_value.specs.declared.event.Event.{Event}
use Rattle.poets_syntax.specs.Contract.{Contract, contract_of}
use Rattle.poets_syntax.specs.Applied.{CountsFit}
use Rattle.poets_syntax.specs.Plain.{Book}
use Rattle.poets_syntax.specs.Book.{book_of}
use Rattle.poets_syntax.specs.declared.term.Term.{Term}
use Rattle.poets_syntax.specs.WellFormed.{IsWellFormed, IsDeclaredEvent}
use Rattle.poets_meaning.specs.Studied.{StudiedBook, marks_of}
use Rattle.poets_value.specs.Whole.{IsWholeEvent}
use Rattle.poets_syntax.specs.Whole.{IsWholeContract}
use Rattle.poets_norm.proofs.WholeNormals.{IsWhole-normal}
use Rattle.poets_meaning.specs.Marks.{Hopeful}
use Rattle.poets_calculus.specs.Residual.{after}
use Rattle.poets_calculus.specs.Normal.{normal}
use Rattle.poets_residue.specs.Limits.{is_past_limit_in}
use Rattle.poets_residue.specs.Unfolding.{IsStudied}
use Rattle.poets_residue.proofs.Traces.{residual_after-more, trace_fit}
use Rattle.poets_cons.specs.declared.node.Node.{Node}
use Rattle.poets_cons.specs.Table.{contract_of_rows}
use Rattle.poets_table.specs.Pieces.{is_full}
use Rattle.poets_table.specs.TableView.{RowView, HasStarts, changed_at, with_event, with_piece, with_room, finished, new_row}
use Rattle.poets_history.specs.Ledger.{Ledger, trace, is_ended, late_day, if_after}
use Rattle.poets_engine.specs.Rows.{NeverFall, RowIs, RowsAre, owed_after}
use Rattle.poets_engine.specs.code.Judgements.{IsKept, AreKept}
use Rattle.poets_engine.proofs.Named.{truth, named}
use Rattle.poets_engine.proofs.Zipped.{AllZip-last}
use Rattle.poets_table.proofs.Starts.{new-starts, room-starts, event-starts, within-starts}

-- the book that was studied
abbrev pub book_in : StudiedBook → Book
book_in s = book_of s.book

-- the part of the log with a number
abbrev numbered : ℕ → List (ℕ × Event) → List (ℕ × Event)
numbered i log = filter (λ p. nat_eq p.0 i) log

below_no : (n m i : ℕ) → m ≤ n → n < i → nat_eq m i ≡ false
below_no n m i h k = elim (truth (nat_eq m i)) [ inr e ↦ e | inl y ↦ absurd (let e = eqb-true m i y in omega (arith, h, k, e)) ]

other_number : (n i : ℕ) → n ≢ i → nat_eq n i ≡ false
other_number n i h = elim (truth (nat_eq n i)) [ inr e ↦ e | inl y ↦ absurd (h (eqb-true n i y)) ]

-- a number past all those of the log has no events
numbered-past : (n i : ℕ) (log : List (ℕ × Event)) → All (λ p. p.0 ≤ n) log → n < i → numbered i log ≡ []
numbered-past n i [] h k = refl
numbered-past n i (p ∷ log) h k =
    rw (below_no n p.0 i (All-head (λ p. p.0 ≤ n) p log h) k) (numbered-past n i log (All-tail (λ p. p.0 ≤ n) p log h) k)

ended-past : (n i : ℕ) (ends : List ℕ) → All (λ m. m ≤ n) ends → n < i → list_any (λ m. nat_eq m i) ends ≡ false
ended-past n i [] h k = refl
ended-past n i (m ∷ ends) h k =
    rw (below_no n m i (All-head (λ m. m ≤ n) m ends h) k) (ended-past n i ends (All-tail (λ m. m ≤ n) m ends h) k)

-- one more contract
abbrev pub with_contract : Ledger → Name → Contract → Ledger
with_contract l x c = record l { contracts = l.contracts ++ (x, c) ∷ [] }

-- a row of which two ledgers say the same
row_same : (s : StudiedBook) (l m : Ledger) (i : ℕ) (r : RowView Term (List Node)) → trace m i ≡ trace l i → is_ended m i ≡ is_ended l i → RowIs s l i r → RowIs s m i r
row_same s l m i r events ended h = record {
  events = h.events ∙ sym events;
  ended = h.ended ∙ sym ended;
  formed = h.formed;
  fit = h.fit;
  declared = h.declared;
  days = h.days;
  current = h.current;
  hopeful = h.hopeful;
  within_limit = h.within_limit;
  starts = h.starts;
  points = h.points;
  whole_original = h.whole_original;
  whole_events = h.whole_events;
  whole_current = h.whole_current;
}

-- the rows before it stay, and the new row stands after them
pub rows_added : (s : StudiedBook) (l : Ledger) (x : Name) (c : Contract) (i : ℕ) (rows : List (RowView Term (List Node))) (r : RowView Term (List Node)) →
    RowsAre s l i rows → RowIs s (with_contract l x c) (i + length rows) r → RowsAre s (with_contract l x c) i (rows ++ r ∷ [])
rows_added s l x c i [] r h k = (subst (λ n. RowIs s (with_contract l x c) n r) (let z : i + 0 ≡ i = omega arith in z) k, tt)
rows_added s l x c i (q ∷ rows) r h k = (
  row_same s l (with_contract l x c) i q refl refl h.0,
  rows_added s l x c (suc i) rows r h.1 (subst (λ n. RowIs s (with_contract l x c) n r) (let z : i + suc (length rows) ≡ suc i + length rows = omega arith in z) k),
)

-- the new row of a contract
module _ (s : StudiedBook) (l : Ledger) (x : Name) (c : Contract) where
  pub new_row_is : (n : ℕ) (original : Term) (current : List Node) →
      All (λ p. p.0 ≤ n) l.log → All (λ m. m ≤ n) l.ends → IsWellFormed (book_in s).declared (contract_of original) → CountsFit (book_in s) (contract_of original) →
      contract_of_rows current ≡ normal (book_in s) (marks_of s) (contract_of original) → Hopeful (book_in s) (contract_of_rows current) →
      is_past_limit_in s (contract_of_rows current) ≡ false → IsWholeContract (contract_of original) → RowIs s (with_contract l x c) (1 + n) (new_row x original current)
  new_row_is n original current logged ended formed fit e hopeful within_limit whole = record {
    events = sym (ap (map (λ p. p.1)) (numbered-past n (1 + n) l.log logged (omega arith)));
    ended = sym (ended-past n (1 + n) l.ends ended (omega arith));
    formed = formed;
    fit = fit;
    declared = All-nil (IsDeclaredEvent (book_in s).declared);
    days = tt;
    current = e;
    hopeful = hopeful;
    within_limit = λ n. subst (λ c. is_past_limit_in s c ≡ false) (e ∙ ap (owed_after s (new_row x original current)) (sym (take_all n [] (omega arith)))) within_limit;
    starts = new-starts x original current;
    points = (e, tt);
    whole_original = whole;
    whole_events = All-nil IsWholeEvent;
    whole_current = subst IsWholeContract (sym e) (IsWhole-normal (book_in s) (marks_of s) (contract_of original) whole);
  }

-- one more event of a contract
abbrev pub with_log : Ledger → ℕ → Event → Ledger
with_log l n e = record l { log = l.log ++ (n, e) ∷ [] }

trace-same : (l : Ledger) (n : ℕ) (e : Event) → trace (with_log l n e) n ≡ trace l n ++ e ∷ []
trace-same l n e =
    ap (map (λ p. p.1)) (filter-append (λ p. nat_eq p.0 n) l.log ((n, e) ∷ []) ∙ rw (eq-eqb n n refl) refl)
    ∙ map-append (λ p. p.1) (numbered n l.log) ((n, e) ∷ [])

trace-other : (l : Ledger) (n i : ℕ) (e : Event) → n ≢ i → trace (with_log l n e) i ≡ trace l i
trace-other l n i e h =
    ap (map (λ p. p.1)) (filter-append (λ p. nat_eq p.0 i) l.log ((n, e) ∷ []) ∙ rw (other_number n i h) (append-nil (numbered i l.log)))

-- an event of a day that is not before the last one
not_before : (day last : ℤ) → if_after day (Some last) ≡ None → last ≤ℤ day
not_before day last e = elim (truth (int_lt day last)) [
  | inl y ↦ absurd (let z : Some last ≡ None = rw y at e in cc)
  | inr n ↦ lt_z_no (T_from_false (int_lt day last) n)
]

NeverFall-more : (events : List Event) (e : Event) → NeverFall events → late_day events e.day ≡ None → NeverFall (events ++ e ∷ [])
NeverFall-more [] e h in_time = tt
NeverFall-more (d ∷ []) e h in_time = (not_before e.day d.day in_time, tt)
NeverFall-more (d ∷ d' ∷ events) e h in_time = (h.0, NeverFall-more (d' ∷ events) e h.1 in_time)

-- what an event leaves of a row's contract, where it may be recorded
pub record IsNext (s : StudiedBook) (r : RowView Term (List Node)) (e : Event) (next : List Node) : Type 0 where
  pub event : IsDeclaredEvent (book_in s).declared e
  pub whole_event : IsWholeEvent e
  pub in_time : late_day r.events e.day ≡ None
  pub residual : contract_of_rows next ≡ after (book_in s) (marks_of s) e (contract_of_rows r.current)
  pub hopeful : Hopeful (book_in s) (contract_of_rows next)
  pub within_limit : is_past_limit_in s (contract_of_rows next) ≡ false
  pub whole : IsWholeContract (contract_of_rows next)

-- what is owed ahead of a piece
abbrev pub IsPoint : StudiedBook → RowView Term (List Node) → ℕ → List Node → Type 0
IsPoint s r n point = contract_of_rows point ≡ owed_after s r (take n r.events)

-- the row with a new piece
piece_is : (s : StudiedBook) (l : Ledger) (i : ℕ) (r : RowView Term (List Node)) → RowIs s l i r → HasStarts (with_piece r) → RowIs s l i (with_piece r)
piece_is s l i r h starts = record {
  events = h.events;
  ended = h.ended;
  formed = h.formed;
  fit = h.fit;
  declared = h.declared;
  days = h.days;
  current = h.current;
  hopeful = h.hopeful;
  within_limit = h.within_limit;
  starts = starts;
  points = AllZip-last (IsPoint s r) r.starts r.points (length r.events) r.current h.points (h.current ∙ ap (owed_after s r) (sym (take_all (length r.events) r.events (omega arith))));
  whole_original = h.whole_original;
  whole_events = h.whole_events;
  whole_current = h.whole_current;
}

-- what holds of a row, and of it with a new piece where the last is full, holds of it with room
pub in_room : (P : RowView Term (List Node) → Type 0) (r : RowView Term (List Node)) → P r → (is_full r.events r.starts ≡ true → P (with_piece r)) → P (with_room r)
in_room P r h k = by_room (is_full r.events r.starts) refl
  where
    by_room : (b : Bool) → is_full r.events r.starts ≡ b → P (if b then with_piece r else r)
    by_room true full = k full
    by_room false e = h

-- after some of the first events and one more, what is owed is what was owed after some, or what is owed now
within_more : (s : StudiedBook) (r : RowView Term (List Node)) (e : Event) (owed : Contract) → owed ≡ owed_after s r (r.events ++ e ∷ []) → is_past_limit_in s owed ≡ false →
    ((n : ℕ) → is_past_limit_in s (owed_after s r (take n r.events)) ≡ false) → (n : ℕ) → is_past_limit_in s (owed_after s r (take n (r.events ++ e ∷ []))) ≡ false
within_more s r e owed is within before n = elim (cases_lt (length r.events) n) [
  | inl past ↦ subst (λ t. is_past_limit_in s (owed_after s r t) ≡ false) (sym (take_all n (r.events ++ e ∷ []) (let z : length (r.events ++ e ∷ []) ≡ length r.events + 1 = simp length-append refl in omega (arith, past, z)))) (subst (λ c. is_past_limit_in s c ≡ false) is within)
  | inr lt ↦ subst (λ t. is_past_limit_in s (owed_after s r t) ≡ false) (sym (take-append-le n r.events (e ∷ []) lt)) (before n)
]

-- the points stand where more events come behind them
points_more : (s : StudiedBook) (r : RowView Term (List Node)) (e : Event) (starts : List ℕ) (points : List (List Node)) → All (λ n. n ≤ length r.events) starts →
    AllZip (IsPoint s r) starts points → AllZip (λ n point. contract_of_rows point ≡ owed_after s r (take n (r.events ++ e ∷ []))) starts points
points_more s r e [] [] b h = tt
points_more s r e [] (p ∷ points) b h = elim h [ ]
points_more s r e (n ∷ starts) [] b h = elim h [ ]
points_more s r e (n ∷ starts) (p ∷ points) b h = (
  h.0 ∙ ap (owed_after s r) (sym (take-append-le n r.events (e ∷ []) (All-head (λ n. n ≤ length r.events) n starts b))),
  points_more s r e starts points (All-tail (λ n. n ≤ length r.events) n starts b) h.1,
)

-- the row with the number has the event too
row_more : (s : StudiedBook) (l : Ledger) (n : ℕ) (e : Event) (r : RowView Term (List Node)) (next : List Node) → HasStarts (with_event e next r) → RowIs s l n r → IsNext s r e next →
    RowIs s (with_log l n e) n (with_event e next r)
row_more s l n e r next starts h new =
    let owed : contract_of_rows next ≡ owed_after s r (r.events ++ e ∷ []) =
    new.residual ∙ ap (after (book_in s) (marks_of s) e) h.current ∙ sym (residual_after-more (book_in s) (marks_of s) (contract_of r.original) r.events e) in
    record {
      events = ap (λ t. t ++ e ∷ []) h.events ∙ sym (trace-same l n e);
      ended = h.ended;
      formed = h.formed;
      fit = h.fit;
      declared = All-append (IsDeclaredEvent (book_in s).declared) r.events (e ∷ []) h.declared
          (All-cons (IsDeclaredEvent (book_in s).declared) e [] new.event (All-nil (IsDeclaredEvent (book_in s).declared)));
      days = NeverFall-more r.events e h.days new.in_time;
      current = owed;
      hopeful = new.hopeful;
      within_limit = within_more s r e (contract_of_rows next) owed new.within_limit h.within_limit;
      starts = starts;
      points = points_more s r e r.starts r.points (within-starts r h.starts) h.points;
      whole_original = h.whole_original;
      whole_events = All-append IsWholeEvent r.events (e ∷ []) h.whole_events (All-cons IsWholeEvent e [] new.whole_event (All-nil IsWholeEvent));
      whole_current = new.whole;
    }

-- so it has where room is made first
row_this : (s : StudiedBook) (l : Ledger) (n : ℕ) (e : Event) (r : RowView Term (List Node)) (next : List Node) → RowIs s l n r → IsNext s r e next →
    RowIs s (with_log l n e) n (with_event e next (with_room r))
row_this s l n e r next h new =
    row_more s l n e (with_room r) next (event-starts r e next h.starts)
    (in_room (RowIs s l n) r h (λ full. piece_is s l n r h (subst (λ b. HasStarts (if b then with_piece r else r)) full (room-starts r h.starts))))
    (in_room (λ q. IsNext s q e next) r new (λ full. record {
      event = new.event;
      whole_event = new.whole_event;
      in_time = new.in_time;
      residual = new.residual;
      hopeful = new.hopeful;
      within_limit = new.within_limit;
      whole = new.whole;
    }))

-- one more end
abbrev pub with_end : Ledger → ℕ → Ledger
with_end l n = record l { ends = l.ends ++ n ∷ [] }

ended-last : (n i : ℕ) (b : Bool) (l : Ledger) → nat_eq n i ≡ b → is_ended (with_end l n) i ≡ is_ended l i || b
ended-last n i b l e = list_any-append (λ m. nat_eq m i) l.ends (n ∷ []) ∙ ap (λ c. is_ended l i || c) (or-false (nat_eq n i) ∙ e)

-- the row with the number is ended
row_ended : (s : StudiedBook) (l : Ledger) (n : ℕ) (r : RowView Term (List Node)) → RowIs s l n r → RowIs s (with_end l n) n (finished r)
row_ended s l n r h = record {
  events = h.events;
  ended = sym (ended-last n n true l (eq-eqb n n refl) ∙ or-true (is_ended l n));
  formed = h.formed;
  fit = h.fit;
  declared = h.declared;
  days = h.days;
  current = h.current;
  hopeful = h.hopeful;
  within_limit = h.within_limit;
  starts = h.starts;
  points = h.points;
  whole_original = h.whole_original;
  whole_events = h.whole_events;
  whole_current = h.whole_current;
}

ended-other : (l : Ledger) (n i : ℕ) → n ≢ i → is_ended (with_end l n) i ≡ is_ended l i
ended-other l n i ne = ended-last n i false l (other_number n i ne) ∙ or-false (is_ended l i)

-- ---- one row of all

-- where a ledger says the same of all numbers but one, a change of the row with this number gives its rows
module _ (s : StudiedBook) (l m : Ledger) (n : ℕ) (change : RowView Term (List Node) → RowView Term (List Node))
    (events : (i : ℕ) → n ≢ i → trace m i ≡ trace l i) (ends : (i : ℕ) → n ≢ i → is_ended m i ≡ is_ended l i) where
  other : (i : ℕ) (r : RowView Term (List Node)) → n ≢ i → RowIs s l i r → RowIs s m i r
  other i r ne h = row_same s l m i r (events i ne) (ends i ne) h

  rows_after : (i : ℕ) (rows : List (RowView Term (List Node))) → n < i → RowsAre s l i rows → RowsAre s m i rows
  rows_after i [] lt h = tt
  rows_after i (r ∷ rows) lt h = (other i r (omega (arith, lt)) h.0, rows_after (suc i) rows (omega (arith, lt)) h.1)

  pub rows_changed : (i k : ℕ) (rows : List (RowView Term (List Node))) (r : RowView Term (List Node)) → n ≡ i + k → RowsAre s l i rows → slice_get rows k ≡ Some r → RowIs s m n (change r) →
      RowsAre s m i (changed_at change k rows)
  rows_changed i k [] r at h found new = tt
  rows_changed i zero (q ∷ rows) r at h found new =
      let same : r ≡ q = cc in
      let place : n ≡ i = omega (arith, at) in (
        subst (λ j. RowIs s m j (change q)) place (subst (λ x. RowIs s m n (change x)) same new),
        rows_after (suc i) rows (omega (arith, place)) h.1,
      )
  rows_changed i (suc k) (q ∷ rows) r at h found new =
      (other i q (omega (arith, at)) h.0, rows_changed (suc i) k rows r (omega (arith, at)) h.1 found new)

-- two changes, one after the other
changed_at-both : {A : Type 0} (f g : A → A) (k : ℕ) (xs : List A) → changed_at f k (changed_at g k xs) ≡ changed_at (λ x. f (g x)) k xs
changed_at-both f g k [] = refl
changed_at-both f g zero (x ∷ xs) = refl
changed_at-both f g (suc k) (x ∷ xs) = ap (λ ys. x ∷ ys) (changed_at-both f g k xs)

-- the row at a place takes the event, and the other rows stay
pub rows_recorded : (s : StudiedBook) (l : Ledger) (k : ℕ) (e : Event) (next : List Node) (rows : List (RowView Term (List Node))) (r : RowView Term (List Node)) →
    RowsAre s l 1 rows → slice_get rows k ≡ Some r → RowIs s l (1 + k) r → IsNext s r e next →
    RowsAre s (with_log l (1 + k) e) 1 (changed_at (with_event e next) k (changed_at with_room k rows))
rows_recorded s l k e next rows r h found row new =
    subst (RowsAre s (with_log l (1 + k) e) 1) (sym (changed_at-both (with_event e next) with_room k rows))
    (rows_changed s l (with_log l (1 + k) e) (1 + k) (λ q. with_event e next (with_room q)) (λ i ne. trace-other l (1 + k) i e ne) (λ i ne. refl) 1 k rows r refl h found (row_this s l (1 + k) e r next row new))

-- the row at a place is ended, and the other rows stay
pub rows_ended : (s : StudiedBook) (l : Ledger) (k : ℕ) (rows : List (RowView Term (List Node))) (r : RowView Term (List Node)) →
    RowsAre s l 1 rows → slice_get rows k ≡ Some r → RowIs s l (1 + k) r → RowsAre s (with_end l (1 + k)) 1 (changed_at finished k rows)
rows_ended s l k rows r h found row =
    rows_changed s l (with_end l (1 + k)) (1 + k) finished (λ i ne. refl) (λ i ne. ended-other l (1 + k) i ne) 1 k rows r refl h found (row_ended s l (1 + k) r row)

-- a changed row keeps its name and its original
pub named-changed_at : (change : RowView Term (List Node) → RowView Term (List Node)) → ((r : RowView Term (List Node)) → named (change r) ≡ named r) → (k : ℕ) (rows : List (RowView Term (List Node))) →
    map named (changed_at change k rows) ≡ map named rows
named-changed_at change same k [] = refl
named-changed_at change same zero (r ∷ rows) = ap (λ p. p ∷ map named rows) (same r)
named-changed_at change same (suc k) (r ∷ rows) = ap (λ ps. named r ∷ ps) (named-changed_at change same k rows)

pub place_below : {A : Type 0} (xs : List A) (k : ℕ) (x : A) → slice_get xs k ≡ Some x → 1 + k ≤ length xs
place_below xs k x e = let h = slice_get_within xs k x e in omega (arith, h)

pub length-changed_at : {A : Type 0} (f : A → A) (k : ℕ) (xs : List A) → length (changed_at f k xs) ≡ length xs
length-changed_at f k [] = refl
length-changed_at f zero (x ∷ xs) = refl
length-changed_at f (suc k) (x ∷ xs) = ap suc (length-changed_at f k xs)

-- what holds of each row holds of the row at a place
pub All-at : {A : Type 0} (P : A → Type 0) (xs : List A) (k : ℕ) (x : A) → All P xs → slice_get xs k ≡ Some x → P x
All-at P xs k x h e = subst P (get_or_from_slice_get xs k x x e) (All-get_or P xs k x (slice_get_within xs k x e) h)

-- what is owed is within the limit
within_now : (s : StudiedBook) (l : Ledger) (i : ℕ) (r : RowView Term (List Node)) → RowIs s l i r → is_past_limit_in s (contract_of_rows r.current) ≡ false
within_now s l i r h =
    subst (λ c. is_past_limit_in s c ≡ false) (ap (owed_after s r) (take_all (length r.events) r.events (omega arith)) ∙ sym h.current) (h.within_limit (length r.events))

-- the contracts of the rows are such as are kept
pub rows_kept : (s : StudiedBook) → IsStudied (book_in s) (marks_of s) → (l : Ledger) (i : ℕ) (rows : List (RowView Term (List Node))) → RowsAre s l i rows → AreKept s rows
rows_kept s study l i [] h = All-nil (λ r. IsKept s (contract_of_rows r.current))
rows_kept s study l i (r ∷ rows) h =
    let fit = trace_fit (book_in s) (marks_of s) study (contract_of r.original) h.0.formed h.0.fit r.events h.0.declared in
    All-cons (λ r. IsKept s (contract_of_rows r.current)) r rows (subst (CountsFit (book_in s)) (sym h.0.current) fit, within_now s l i r h.0)
    (rows_kept s study l (suc i) rows h.1)
