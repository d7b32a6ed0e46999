-- Logs, and the events that they have of each row.
use Rattle.std.proofs.Common.{◌≡◌, ◌≢◌, ℕ, zero, suc, ◌+◌, ◌-◌, ◌≤◌, ◌<◌, Bool, true, false, List, [], ◌∷◌, ◌++◌, Option, Some, None, length, map, filter, take, drop, slice_get, slice_index_or, option_map, nat_eq, if◌then◌else◌, ◌⊎◌, inl, inr, refl, sym, ◌∙◌, ap, ap₂, subst, arith}
use Rattle.std.specs.List.{All, remove}
use Rattle.std.proofs.lemmas.Bool.Decides.{nat_tests}
use Rattle.std.proofs.lemmas.List.{append-nil, drop_more, length-append, length-take-le, length_push, map-append, take-append-drop, take_all, take_at, take_more}
use Rattle.std.proofs.lemmas.List.Edits.{remove-append_right}
use Rattle.std.proofs.lemmas.List.Elements.{All-append, All-drop, All-head, All-push, All-tail, All-take, All-weaker, filter-append}
use Rattle.std.proofs.lemmas.Option.{same_Some}
use Rattle.std.specs.declared.alloc.Global.{Global}
use Rattle.std.specs.declared.sync.Arc.{Arc}
use Rattle.std.specs.Arc.{arc_value}
use Rattle.poets_value.specs.Listed.{Listed}
use Rattle.poets_value.specs.declared.event.Event.{Event}
use Rattle.poets_table.specs.TableView.{CutView, IsCutOf, IsPairOf, IsRowCut, RowView, changed_at, events_with, place_in_log, taken_out, values_of, with_event, with_piece, with_room, without_event}
use Rattle.poets_table.specs.Pieces.{EventsView, is_full, joined, starts_of}
use Rattle.poets_table.specs.code.Rows.{left_ahead, with_parts}
use Rattle.poets_table.specs.Kept.{AreOfLog}

abbrev Log : Type 0
Log = List (ℕ × Event)

-- ---- the events with a number

is : (n m : ℕ) → n ≡ m → nat_eq n m ≡ true
is n m e = grind (arith, nat_tests, e)

is_not : (n m : ℕ) → n ≢ m → nat_eq n m ≡ false
is_not n m e = grind (arith, nat_tests, e)

abbrev with-first : ℕ → ℕ × Event → Log → Bool → List Event
with-first n p log b = map (λ p. p.1) (if b then p ∷ filter (λ p. nat_eq p.0 n) log else filter (λ p. nat_eq p.0 n) log)

with-yes : (n : ℕ) (p : ℕ × Event) (log : Log) → nat_eq p.0 n ≡ true → events_with n (p ∷ log) ≡ p.1 ∷ events_with n log
with-yes n p log e = ap (with-first n p log) e

with-no : (n : ℕ) (p : ℕ × Event) (log : Log) → nat_eq p.0 n ≡ false → events_with n (p ∷ log) ≡ events_with n log
with-no n p log e = ap (with-first n p log) e

with-append : (n : ℕ) (log more : Log) → events_with n (log ++ more) ≡ events_with n log ++ events_with n more
with-append n log more =
    ap (map (λ p. p.1)) (filter-append (λ p. nat_eq p.0 n) log more)
    ∙ map-append (λ p. p.1) (filter (λ p. nat_eq p.0 n) log) (filter (λ p. nat_eq p.0 n) more)

with-none : (n k : ℕ) (log : Log) → k < n → All (λ p. p.0 ≤ k) log → events_with n log ≡ []
with-none n k [] h known = refl
with-none n k (p ∷ log) h known =
    let here = All-head (λ p. p.0 ≤ k) p log known in
    with-no n p log (is_not p.0 n (λ e. omega (arith, h, here, e))) ∙ with-none n k log h (All-tail (λ p. p.0 ≤ k) p log known)

-- one pair more
with-same : (n : ℕ) (e : Event) (log : Log) → events_with n (log ++ (n, e) ∷ []) ≡ events_with n log ++ e ∷ []
with-same n e log = with-append n log ((n, e) ∷ []) ∙ ap (λ s. events_with n log ++ s) (with-yes n (n, e) [] (is n n refl))

with-other : (m n : ℕ) (e : Event) (log : Log) → m ≢ n → events_with m (log ++ (n, e) ∷ []) ≡ events_with m log
with-other m n e log h =
    with-append m log ((n, e) ∷ []) ∙ ap (λ s. events_with m log ++ s) (with-no m (n, e) [] (is_not n m (λ k. h (sym k)))) ∙ append-nil (events_with m log)

-- ---- where a pair stands

-- the log about the pair that has the event at the place k of those with the number n
record Around (n k : ℕ) (log : Log) : Type 0 where
  ahead : Log
  event : Event
  behind : Log
  whole : log ≡ ahead ++ (n, event) ∷ behind
  count : length (events_with n ahead) ≡ k

around : (n k : ℕ) (log : Log) → k < length (events_with n log) → Around n k log
around n k [] h = absurd (omega (arith, h))
around n k (p ∷ log) h = by_test k (nat_eq p.0 n) refl h (λ j. around n j log)
  where
    by_test : (k : ℕ) (b : Bool) → nat_eq p.0 n ≡ b → k < length (events_with n (p ∷ log)) → ((j : ℕ) → j < length (events_with n log) → Around n j log) → Around n k (p ∷ log)
    by_test zero true e h later =
        let here : p.0 ≡ n = grind (arith, nat_tests, e) in
        record { ahead = []; event = p.1; behind = log; whole = ap (λ m. (m, p.1) ∷ log) here; count = refl }
    by_test (suc k) true e h later =
        let len = ap length (with-yes n p log e) in
        let a = later k (omega (arith, h, len)) in
        record { ahead = p ∷ a.ahead; event = a.event; behind = a.behind; whole = ap (λ l. p ∷ l) a.whole; count = ap length (with-yes n p a.ahead e) ∙ ap suc a.count }
    by_test k false e h later =
        let len = ap length (with-no n p log e) in
        let a = later k (omega (arith, h, len)) in
        record { ahead = p ∷ a.ahead; event = a.event; behind = a.behind; whole = ap (λ l. p ∷ l) a.whole; count = ap length (with-no n p a.ahead e) ∙ a.count }

place-no : (n k : ℕ) (p : ℕ × Event) (log : Log) → nat_eq p.0 n ≡ false → place_in_log n k (p ∷ log) ≡ suc (place_in_log n k log)
place-no n zero p log e = ap (λ b. if b then 0 else suc (place_in_log n zero log)) e
place-no n (suc k) p log e = ap (λ b. if b then suc (place_in_log n k log) else suc (place_in_log n (suc k) log)) e

place-yes : (n k : ℕ) (p : ℕ × Event) (log : Log) → nat_eq p.0 n ≡ true → place_in_log n (suc k) (p ∷ log) ≡ suc (place_in_log n k log)
place-yes n k p log e = ap (λ b. if b then suc (place_in_log n k log) else suc (place_in_log n (suc k) log)) e

-- a pair stands behind all that are ahead of it
place-around : (n : ℕ) (ahead : Log) (e : Event) (behind : Log) → place_in_log n (length (events_with n ahead)) (ahead ++ (n, e) ∷ behind) ≡ length ahead
place-around n [] e behind = ap (λ b. if b then 0 else suc (place_in_log n zero behind)) (is n n refl)
place-around n (p ∷ ahead) e behind = by_test (nat_eq p.0 n) refl (place-around n ahead e behind)
  where
    by_test : (b : Bool) → nat_eq p.0 n ≡ b → place_in_log n (length (events_with n ahead)) (ahead ++ (n, e) ∷ behind) ≡ length ahead →
        place_in_log n (length (events_with n (p ∷ ahead))) (p ∷ ahead ++ (n, e) ∷ behind) ≡ suc (length ahead)
    by_test true t later =
        ap (λ s. place_in_log n (length s) (p ∷ ahead ++ (n, e) ∷ behind)) (with-yes n p ahead t)
        ∙ place-yes n (length (events_with n ahead)) p (ahead ++ (n, e) ∷ behind) t ∙ ap suc later
    by_test false t later =
        ap (λ s. place_in_log n (length s) (p ∷ ahead ++ (n, e) ∷ behind)) (with-no n p ahead t)
        ∙ place-no n (length (events_with n ahead)) p (ahead ++ (n, e) ∷ behind) t ∙ ap suc later

-- the pair of an event stands in the log
pub pair-at-place : (n k : ℕ) (log : Log) → k < length (events_with n log) → IsPairOf n k (place_in_log n k log) log
pair-at-place n k log h = there (around n k log h)
  where
    get-behind : {A : Type 0} (xs ys : List A) (x : A) → slice_get (xs ++ x ∷ ys) (length xs) ≡ Some x
    get-behind [] ys x = refl
    get-behind (y ∷ xs) ys x = get-behind xs ys x

    there : Around n k log → IsPairOf n k (place_in_log n k log) log
    there a =
        let q : place_in_log n k log ≡ length a.ahead =
        ap₂ (λ j l. place_in_log n j l) (sym a.count) a.whole ∙ place-around n a.ahead a.event a.behind in (
          (a.event, ap₂ (λ l i. slice_get l i) a.whole q ∙ get-behind a.ahead a.behind (n, a.event)),
          ap₂ (λ l i. length (events_with n (take i l))) a.whole q
              ∙ ap (λ l. length (events_with n l)) (take_at a.ahead ((n, a.event) ∷ a.behind) (length a.ahead) refl) ∙ a.count,
        )

-- the log without a pair that stands at a place of it
pub record IsLess (n k q : ℕ) (log : Log) : Type 0 where
  pub within : q < length log
  pub same : events_with n (remove log q) ≡ remove (events_with n log) k
  pub other : (m : ℕ) → m ≢ n → events_with m (remove log q) ≡ events_with m log

-- the pair of an event stands in the log; without it the events with its number are without the event, and all others stay
pub less-at-place : (n k : ℕ) (log : Log) → k < length (events_with n log) → IsLess n k (place_in_log n k log) log
less-at-place n k log h = less (around n k log h)
  where
    remove-here : {A : Type 0} (xs ys : List A) (x : A) → remove (xs ++ x ∷ ys) (length xs) ≡ xs ++ ys
    remove-here xs ys x =
        remove-append_right xs (x ∷ ys) (length xs) (length xs) refl (omega arith)
        ∙ ap (λ i. xs ++ remove (x ∷ ys) i) (let e : length xs - length xs ≡ 0 = omega arith in e)

    less : Around n k log → IsLess n k (place_in_log n k log) log
    less a =
        let q : place_in_log n k log ≡ length a.ahead =
        ap₂ (λ j l. place_in_log n j l) (sym a.count) a.whole ∙ place-around n a.ahead a.event a.behind in
        let rest : remove log (place_in_log n k log) ≡ a.ahead ++ a.behind =
        ap₂ (λ l i. remove l i) a.whole q ∙ remove-here a.ahead a.behind (n, a.event) in
        let len = ap length a.whole ∙ length-append a.ahead ((n, a.event) ∷ a.behind) in
        record {
          within = omega (arith, q, len);
          same = ap (events_with n) rest ∙ with-append n a.ahead a.behind
              ∙ sym (remove-here (events_with n a.ahead) (events_with n a.behind) a.event)
              ∙ ap₂ (λ s i. remove s i) (sym (ap (events_with n) a.whole ∙ with-append n a.ahead ((n, a.event) ∷ a.behind)
              ∙ ap (λ s. events_with n a.ahead ++ s) (with-yes n (n, a.event) a.behind (is n n refl)))) a.count;
          other = λ m h.
              ap (events_with m) rest ∙ with-append m a.ahead a.behind
              ∙ sym (ap (events_with m) a.whole ∙ with-append m a.ahead ((n, a.event) ∷ a.behind)
              ∙ ap (λ s. events_with m a.ahead ++ s) (with-no m (n, a.event) a.behind (is_not n m (λ e. h (sym e)))));
        }

-- ---- what a table keeps

get-here : {A : Type 0} (f : A → A) (i : ℕ) (xs : List A) → slice_get (changed_at f i xs) i ≡ option_map f (slice_get xs i)
get-here f i [] = refl
get-here f zero (x ∷ xs) = refl
get-here f (suc i) (x ∷ xs) = get-here f i xs

get-there : {A : Type 0} (f : A → A) (i j : ℕ) (xs : List A) → j ≢ i → slice_get (changed_at f i xs) j ≡ slice_get xs j
get-there f i j [] h = refl
get-there f zero zero (x ∷ xs) h = absurd (h refl)
get-there f zero (suc j) (x ∷ xs) h = refl
get-there f (suc i) zero (x ∷ xs) h = refl
get-there f (suc i) (suc j) (x ∷ xs) h = get-there f i j xs (λ e. h (ap suc e))

mapped : {A : Type 0} (f : A → A) (o : Option A) (y : A) → option_map f o ≡ Some y → (x : A) × (o ≡ Some x) × (f x ≡ y)
mapped f None y e = absurd cc
mapped f (Some x) y e = (x, refl, same_Some (f x) y e)

length-changed : {A : Type 0} (f : A → A) (i : ℕ) (xs : List A) → length (changed_at f i xs) ≡ length xs
length-changed f i [] = refl
length-changed f zero (x ∷ xs) = refl
length-changed f (suc i) (x ∷ xs) = ap suc (length-changed f i xs)

module _ {O T : Type 0} where
  -- a row is changed, and so are the events with its number in the log; all other events stay
  of_log-changed : (f : RowView O T → RowView O T) (g : List Event → List Event) → ((r : RowView O T) → (f r).events ≡ g r.events) →
      (n : ℕ) (rows : List (RowView O T)) (log new : Log) → 0 < n → AreOfLog rows log → events_with n new ≡ g (events_with n log) →
      ((m : ℕ) → m ≢ n → events_with m new ≡ events_with m log) → All (λ p. p.0 ≤ length rows) new → AreOfLog (changed_at f (n - 1) rows) new
  of_log-changed f g fg n rows log new some h same other known = record {
    each = λ i r e. by_test i r e (nat_eq i (n - 1)) refl;
    known = subst (λ k. All (λ p. p.0 ≤ k) new) (sym (length-changed f (n - 1) rows)) known;
  }
    where
      by_test : (i : ℕ) (r : RowView O T) → slice_get (changed_at f (n - 1) rows) i ≡ Some r → (b : Bool) → nat_eq i (n - 1) ≡ b → r.events ≡ events_with (i + 1) new
      by_test i r e true t =
          let at : i ≡ n - 1 = grind (arith, nat_tests, t) in
          let number : i + 1 ≡ n = omega (arith, at, some) in
          let old = mapped f (slice_get rows i) r (ap (λ j. option_map f (slice_get rows j)) at ∙ sym (get-here f (n - 1) rows) ∙ ap (slice_get (changed_at f (n - 1) rows)) (sym at) ∙ e) in
          ap (λ r. r.events) (sym old.2) ∙ fg old.0 ∙ ap g (h.each i old.0 old.1 ∙ ap (λ m. events_with m log) number) ∙ sym same ∙ ap (λ m. events_with m new) (sym number)
      by_test i r e false t =
          let apart : i ≢ n - 1 = λ k. grind (arith, nat_tests, t, k) in
          h.each i r (sym (get-there f (n - 1) i rows apart) ∙ e) ∙ sym (other (i + 1) (λ k. apart (omega (arith, k))))

  -- a change that keeps the events
  pub kept-of_log : (f : RowView O T → RowView O T) → ((r : RowView O T) → (f r).events ≡ r.events) → (n : ℕ) (old new : List (RowView O T)) (log : Log) →
      0 < n → new ≡ changed_at f (n - 1) old → AreOfLog old log → AreOfLog new log
  kept-of_log f k n old new log some e h =
      subst (λ rows. AreOfLog rows log) (sym e) (of_log-changed f (λ s. s) k n old log log some h refl (λ m h. refl) h.known)

  pub more-of_log : (n : ℕ) (e : Event) (c : T) (old new : List (RowView O T)) (log : Log) → 0 < n → n ≤ length old →
      new ≡ changed_at (with_event e c) (n - 1) old → AreOfLog old log → AreOfLog new (log ++ (n, e) ∷ [])
  more-of_log n e c old new log some live k h =
      subst (λ rows. AreOfLog rows (log ++ (n, e) ∷ [])) (sym k)
      (of_log-changed (with_event e c) (λ s. s ++ e ∷ []) (λ r. refl) n old log (log ++ (n, e) ∷ []) some h (with-same n e log) (λ m h. with-other m n e log h)
      (All-push (λ p. p.0 ≤ length old) log (n, e) h.known live))

  pub row-of_log : (r : RowView O T) (old new : List (RowView O T)) (log : Log) → new ≡ old ++ r ∷ [] → r.events ≡ [] → AreOfLog old log → AreOfLog new log
  row-of_log r old new log e none h = subst (λ rows. AreOfLog rows log) (sym e) (record {
    each = λ i q k. by_place old h.known i q k;
    known = All-weaker (λ p. p.0 ≤ length old) (λ p. p.0 ≤ length (old ++ r ∷ [])) (λ p k. let len = length_push old r in omega (arith, len, k)) log h.known;
  })
    where
      first : (i : ℕ) (rows : List (RowView O T)) (q : RowView O T) → slice_get (rows ++ r ∷ []) i ≡ Some q → (slice_get rows i ≡ Some q) ⊎ ((i ≡ length rows) × (q ≡ r))
      first zero [] q k = inr (refl, sym (same_Some r q k))
      first (suc i) [] q k = absurd cc
      first zero (p ∷ rows) q k = inl k
      first (suc i) (p ∷ rows) q k = elim (first i rows q k) as (λ _. (slice_get rows i ≡ Some q) ⊎ ((suc i ≡ suc (length rows)) × (q ≡ r))) [
        | inl a ↦ inl a
        | inr b ↦ inr (ap suc b.0, b.1)
      ]

      by_place : (rows : List (RowView O T)) → All (λ p. p.0 ≤ length old) log → (i : ℕ) (q : RowView O T) → slice_get (old ++ r ∷ []) i ≡ Some q → q.events ≡ events_with (i + 1) log
      by_place rows known i q k = elim (first i old q k) as (λ _. q.events ≡ events_with (i + 1) log) [
        | inl a ↦ h.each i q a
        | inr b ↦ ap (λ q. q.events) b.1 ∙ none ∙ sym (with-none (i + 1) (length old) log (let at = b.0 in omega (arith, at)) known)
      ]

  -- room changes no events
  pub room-events : (r : RowView O T) → (with_room r).events ≡ r.events
  room-events r = by_test (is_full r.events r.starts)
    where
      by_test : (b : Bool) → (if b then with_piece r else r).events ≡ r.events
      by_test true = refl
      by_test false = refl

  -- the events of a row are those with its number in the log
  pub events-at : (n : ℕ) (rows : List (RowView O T)) (log : Log) (r : RowView O T) → 0 < n → AreOfLog rows log → slice_get rows (n - 1) ≡ Some r → r.events ≡ events_with n log
  events-at n rows log r some h e = h.each (n - 1) r e ∙ ap (λ m. events_with m log) (let k : n - 1 + 1 ≡ n = omega (arith, some) in k)

  -- ---- a cut

  -- the log without the pair of a cut
  pub cut-less : (rows : List (RowView O T)) (log : Log) (cut : CutView) → IsCutOf rows log cut → AreOfLog rows log → IsLess cut.number cut.place cut.log_place log
  cut-less rows log cut h k =
      let there = get-some rows (cut.number - 1) (let some = h.live.0 in let live = h.live.1 in omega (arith, some, live)) in
      let within = (h.row there.0 there.1).place in
      let len = ap length (events-at cut.number rows log there.0 h.live.0 k there.1) in
      subst (λ q. IsLess cut.number cut.place q log) (sym h.log_place) (less-at-place cut.number cut.place log (omega (arith, within, len)))
    where
      get-some : {A : Type 0} (xs : List A) (i : ℕ) → i < length xs → (x : A) × (slice_get xs i ≡ Some x)
      get-some [] i lt = absurd (omega (arith, lt))
      get-some (x ∷ xs) zero lt = (x, refl)
      get-some (x ∷ xs) (suc i) lt = get-some xs i (omega (arith, lt))

  pub less-of_log : (cut : CutView) (c : T) (points : List T) (old new : List (RowView O T)) (log : Log) → IsCutOf old log cut →
      new ≡ changed_at (without_event cut c points) (cut.number - 1) old → AreOfLog old log → AreOfLog new (remove log cut.log_place)
  less-of_log cut c points old new log is k h =
      let less = cut-less old log cut is h in
      subst (λ rows. AreOfLog rows (remove log cut.log_place)) (sym k)
      (of_log-changed (without_event cut c points) (λ s. remove s cut.place) (λ r. refl) cut.number old log (remove log cut.log_place) is.live.0 h less.same less.other
      (All-append (λ p. p.0 ≤ length old) (take cut.log_place log) (drop (suc cut.log_place) log) (All-take (λ p. p.0 ≤ length old) cut.log_place log h.known)
      (All-drop (λ p. p.0 ≤ length old) (suc cut.log_place) log h.known)))

  -- the row with the events of a cut is the row without the event
  pub cut-alike : (rest : EventsView) (cut : CutView) (owed : Arc T Global) (points : Listed (Arc T Global)) (rows : List (RowView O T)) →
      cut.events ≡ joined rest.pieces → cut.starts ≡ starts_of rest.pieces → ((r : RowView O T) → slice_get rows (cut.number - 1) ≡ Some r → IsRowCut cut r) →
      changed_at (with_parts rest owed points) (cut.number - 1) rows ≡ taken_out cut owed points rows
  cut-alike rest cut owed points rows ev st h =
      alike (cut.number - 1) rows
      (λ r e. ap₂ (λ es ss. record r { current = arc_value owed; events = es; starts = ss; points = values_of points }) (sym ev ∙ (h r e).events) (sym st))
    where
      -- changes that are one on the row are one
      alike : (i : ℕ) (rows : List (RowView O T)) →
          ((r : RowView O T) → slice_get rows i ≡ Some r → with_parts rest owed points r ≡ without_event cut (arc_value owed) (values_of points) r) →
          changed_at (with_parts rest owed points) i rows ≡ changed_at (without_event cut (arc_value owed) (values_of points)) i rows
      alike i [] h = refl
      alike zero (r ∷ rows) h = ap (λ q. q ∷ rows) (h r refl)
      alike (suc i) (r ∷ rows) h = ap (λ qs. r ∷ qs) (alike i rows h)

-- ---- from the end of the log

-- the log up to a place has the event that is looked for, and behind it so many with the number are left
pub record IsAhead (n behind left at : ℕ) (log : Log) : Type 0 where
  pub some : left < length (events_with n (take at log))
  pub same : length (events_with n (take at log)) - left ≡ length (events_with n log) - behind

with-more : (n at : ℕ) (p : ℕ × Event) (log : Log) → at < length log → p ≡ slice_index_or log at p →
    events_with n (take (at + 1) log) ≡ events_with n (take at log) ++ events_with n (p ∷ [])
with-more n at p log lt is =
    ap (events_with n) (take_more log at p lt ∙ ap (λ q. take at log ++ q ∷ []) (sym is)) ∙ with-append n (take at log) (p ∷ [])

pub ahead-first : (n behind : ℕ) (log : Log) → behind < length (events_with n log) → IsAhead n behind behind (length log) log
ahead-first n behind log h =
    let whole = ap (λ l. length (events_with n l)) (take_all (length log) log (omega arith)) in
    record { some = omega (arith, h, whole); same = omega (arith, whole) }

-- some pair is
pub ahead-within : (n behind left : ℕ) (log : Log) → IsAhead n behind left 0 log → ⊥
ahead-within n behind left log h = let some = h.some in omega (arith, some)

-- the pair is here
pub pair-here : (n behind left at : ℕ) (p : ℕ × Event) (log : Log) → IsAhead n behind left (at + 1) log → at < length log → p ≡ slice_index_or log at p →
    None ≡ left_ahead (nat_eq p.0 n) left → at ≡ place_in_log n (length (events_with n log) - 1 - behind) log
pair-here n behind left at p log so_far lt is e = by_test left (nat_eq p.0 n) refl e so_far
  where
    by_test : (left : ℕ) (b : Bool) → nat_eq p.0 n ≡ b → None ≡ left_ahead b left → IsAhead n behind left (at + 1) log → at ≡ place_in_log n (length (events_with n log) - 1 - behind) log
    by_test left false t e so_far = absurd cc
    by_test (suc left) true t e so_far = absurd cc
    by_test zero true t e so_far =
        let more = ap length (with-more n at p log lt is ∙ ap (λ s. events_with n (take at log) ++ s) (with-yes n p [] t)) ∙ length_push (events_with n (take at log)) p.1 in
        let same = so_far.same in
        let count : length (events_with n (take at log)) ≡ length (events_with n log) - 1 - behind = omega (arith, more, same) in
        let here : p ≡ (n, p.1) = ap (λ m. (m, p.1)) (grind (arith, nat_tests, t)) in
        let whole : take at log ++ (n, p.1) ∷ drop (at + 1) log ≡ log =
        ap (λ q. take at log ++ q ∷ drop (at + 1) log) (sym here ∙ is) ∙ ap (λ l. take at log ++ l) (sym (drop_more log at p lt)) ∙ take-append-drop at log in
        sym (length-take-le at log (omega (arith, lt))) ∙ sym (place-around n (take at log) p.1 (drop (at + 1) log)) ∙ ap₂ (λ k l. place_in_log n k l) count whole

-- it is further ahead
pub pair-ahead : (n behind left left' at : ℕ) (p : ℕ × Event) (log : Log) → IsAhead n behind left (at + 1) log → at < length log → p ≡ slice_index_or log at p →
    Some left' ≡ left_ahead (nat_eq p.0 n) left → IsAhead n behind left' at log
pair-ahead n behind left left' at p log so_far lt is e = by_test left (nat_eq p.0 n) refl e so_far
  where
    by_test : (left : ℕ) (b : Bool) → nat_eq p.0 n ≡ b → Some left' ≡ left_ahead b left → IsAhead n behind left (at + 1) log → IsAhead n behind left' at log
    by_test zero true t e so_far = absurd cc
    by_test (suc left) true t e so_far =
        let more = ap length (with-more n at p log lt is ∙ ap (λ s. events_with n (take at log) ++ s) (with-yes n p [] t)) ∙ length_push (events_with n (take at log)) p.1 in
        let some = so_far.some in
        let same = so_far.same in
        let one = same_Some left' left e in
        record { some = omega (arith, more, some, one); same = omega (arith, more, same, one) }
    by_test left false t e so_far =
        let more = ap length (with-more n at p log lt is ∙ ap (λ s. events_with n (take at log) ++ s) (with-no n p [] t) ∙ append-nil (events_with n (take at log))) in
        let some = so_far.some in
        let same = so_far.same in
        let one = same_Some left' left e in
        record { some = omega (arith, more, some, one); same = omega (arith, more, same, one) }
