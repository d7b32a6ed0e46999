-- Contracts taken through events, and ways.
use Rattle.std.proofs.Common.{◌≡◌, ℕ, zero, suc, ◌+◌, ◌-◌, ◌*◌, ◌<◌, ◌≤◌, List, [], ◌∷◌, ◌++◌, length, get_or, take, drop, fold, Some, inl, inr, ◌⊎◌, refl, sym, ◌∙◌, ap, subst, arith, append_assoc, length-append}
use Rattle.std.specs.List.{All, slice_get}
use Rattle.std.proofs.lemmas.List.{drop_more, take_more, length-drop, take-append-drop, take-take, drop-take, drop-drop}
use Rattle.std.proofs.lemmas.List.Elements.{All-head, All-tail, All-take}
use Rattle.std.proofs.lemmas.Option.{slice_get-get_or, slice_get_read}
use Rattle.std.proofs.lemmas.List.Sums.{fold-append}
use Rattle.poets_value.specs.declared.event.Event.{Event}
use Rattle.poets_syntax.specs.Applied.{CountsFit}
use Rattle.poets_syntax.specs.Book.{book_of}
use Rattle.poets_meaning.specs.Studied.{StudiedBook, marks_of}
use Rattle.poets_cons.specs.declared.node.Node.{Node}
use Rattle.poets_cons.specs.Table.{contract_of_rows}
use Rattle.poets_syntax.specs.Contract.{Contract}
use Rattle.poets_syntax.specs.Plain.{Book}
use Rattle.poets_syntax.specs.WellFormed.{IsWellFormed, IsDeclaredEvent}
use Rattle.poets_meaning.specs.Marks.{Marks}
use Rattle.poets_meaning.specs.Perf.{Perf}
use Rattle.poets_meaning.proofs.Granting.{May-Perf, Perf-May}
use Rattle.poets_calculus.specs.Residual.{after}
use Rattle.poets_residue.specs.Unfolding.{IsStudied}
use Rattle.poets_residue.proofs.Kept.{IsWellFormed-after_at, CountsFit-after_at}
use Rattle.poets_residue.proofs.Traces.{Follows-after}
use Rattle.poets_way.specs.Way.{Way}
use Rattle.poets_way.specs.Ways.{Ways}
use Rattle.poets_route.specs.Explained.{DeclaredIn, AreDeclaredIn}
use Rattle.poets_route.specs.code.Back.{BacksWhole, IsReady, IsReadyIn}
use Rattle.poets_route.specs.code.Through.{through, through_in, ArePieces, AreResiduals, AreStations, BacksOver}
use Rattle.poets_route.proofs.Ready.{ready_after}

-- one item more
pub take_next : {A : Type 0} (s : List A) (k : ℕ) (e : A) → k < length s → get_or s k e ≡ e → take (k + 1) s ≡ take k s ++ e ∷ []
take_next s k e h is = take_more s k e h ∙ ap (λ x. take k s ++ x ∷ []) is

pub drop_next : {A : Type 0} (s : List A) (k : ℕ) (e : A) → k < length s → get_or s k e ≡ e → drop k s ≡ e ∷ drop (k + 1) s
drop_next s k e h is = drop_more s k e h ∙ ap (λ x. x ∷ drop (k + 1) s) is

same_some : {A : Type 0} (x y : A) → Some x ≡ Some y → x ≡ y
same_some x y e = cc

-- the items of a list with one more are its own, and that one
pub get_pushed : {A : Type 0} (xs : List A) (x : A) (n : ℕ) (y : A) → slice_get (xs ++ x ∷ []) n ≡ Some y →
    (slice_get xs n ≡ Some y) ⊎ ((n ≡ length xs) × (y ≡ x))
get_pushed [] x zero y e = inr (refl, sym (same_some x y e))
get_pushed [] x (suc n) y e = absurd cc
get_pushed (z ∷ xs) x zero y e = inl e
get_pushed (z ∷ xs) x (suc n) y e = elim (get_pushed xs x n y e) as (λ _. (slice_get xs n ≡ Some y) ⊎ ((suc n ≡ suc (length xs)) × (y ≡ x))) [
  | inl h ↦ inl h
  | inr h ↦ inr (ap suc h.0, h.1)
]

-- a list parted at two places
pub split_at : {A : Type 0} (s : List A) (at end : ℕ) → at ≤ end →
    (take end s ≡ take at s ++ take (end - at) (drop at s)) × (drop at s ≡ take (end - at) (drop at s) ++ drop end s)
split_at s at end h =
    let n : at + (end - at) ≡ end = omega (arith, h) in (
      ap (λ j. take j s) (sym n) ∙ sym (take-append-drop at (take (at + (end - at)) s)) ∙ ap (λ x. x ++ drop at (take (at + (end - at)) s)) (take-take at (at + (end - at)) s (omega arith))
          ∙ ap (λ x. take at s ++ x) (drop-take at (end - at) s),
      sym (take-append-drop (end - at) (drop at s)) ∙ ap (λ x. take (end - at) (drop at s) ++ x) (drop-drop (end - at) at s ∙ ap (λ j. drop j s) n),
    )

-- the events from the k-th on perform what the events before it leave in the second way, where none or some more perform what all leave in the first
abbrev pub BacksFrom : Book → Marks → ℕ → Contract → List Event → ℕ → (from to : Way) → Type 0
BacksFrom book marks n c piece k v w = (s : List Event) → length s ≡ n → Ways book [] (through book marks c piece) s v →
    Ways book [] (through book marks c (take k piece)) (drop k piece ++ s) w

module _ (book : Book) (marks : Marks) where
  pub through_twice : (c : Contract) (s t : List Event) → through book marks c (s ++ t) ≡ through book marks (through book marks c s) t
  through_twice c s t = fold-append (λ d e. after book marks e d) c s t

  -- one event more
  pub through_next : (c : Contract) (s : List Event) (k : ℕ) (e : Event) → k < length s → get_or s k e ≡ e →
      through book marks c (take (k + 1) s) ≡ after book marks e (through book marks c (take k s))
  through_next c s k e h is = ap (through book marks c) (take_next s k e h is) ∙ through_twice c (take k s) (e ∷ [])

  pub ready_through : (s : List Event) (c : Contract) → IsReady book marks c → All (IsDeclaredEvent book.declared) s → IsReady book marks (through book marks c s)
  ready_through [] c r events = r
  ready_through (e ∷ s) c r events =
      ready_through s (after book marks e c) (ready_after book marks e (All-head (IsDeclaredEvent book.declared) e s events) c r)
      (All-tail (IsDeclaredEvent book.declared) e s events)

  -- back over one event of a piece
  module _ (c : Contract) (piece : List Event) (k : ℕ) (e : Event) (h : k < length piece) (is : get_or piece k e ≡ e) where
    pub backs_step : (n : ℕ) (r r' : Contract) (v u w : Way) → r ≡ through book marks c (take k piece) → r' ≡ through book marks c (take (k + 1) piece) →
        BacksFrom book marks n c piece (k + 1) v u → BacksWhole book marks e (n + (length piece - 1 - k)) r r' u w → BacksFrom book marks n c piece k v w
    backs_step n r r' v u w here there g step s l way =
        let rest = drop (k + 1) piece ++ s in
        let m : length (drop (k + 1) piece ++ s) ≡ n + (length piece - 1 - k) =
        omega (arith, length-append (drop (k + 1) piece) s, length-drop (k + 1) piece, l, h) in
        let next : r' ≡ after book marks e r = there ∙ through_next c piece k e h is ∙ ap (after book marks e) (sym here) in
        let mid : Ways book [] r' rest u = subst (λ x. Ways book [] x rest u) (sym there) (g s l way) in
        subst (λ x. Ways book [] (through book marks c (take k piece)) (x ++ s) w) (sym (drop_next piece k e h is))
        (subst (λ x. Ways book [] x (e ∷ rest) w) here (step rest m next mid))

  -- back over one piece more
  module _ (c : Contract) (events : List Event) (at end : ℕ) (low : at ≤ end) (high : end ≤ length events) where
    pub backs_piece : (r : Contract) (v u w : Way) → r ≡ through book marks c (take at events) → BacksFrom book marks 0 c events end v u →
        BacksOver book marks (length events - end) r (take (end - at) (drop at events)) u w → BacksFrom book marks 0 c events at v w
    backs_piece r v u w here g step s l way =
        let piece = take (end - at) (drop at events) in
        let rest = drop end events ++ s in
        let m : length (drop end events ++ s) ≡ length events - end = omega (arith, length-append (drop end events) s, length-drop end events, l, high) in
        let both = split_at events at end low in
        let all : through book marks c (take end events) ≡ through book marks r piece =
        ap (through book marks c) both.0 ∙ through_twice c (take at events) piece ∙ ap (λ x. through book marks x piece) (sym here) in
        let mid : Ways book [] (through book marks r piece) rest u = subst (λ x. Ways book [] x rest u) all (g s l way) in
        let whole : piece ++ rest ≡ drop at events ++ s = sym (append_assoc piece (drop end events) s) ∙ ap (λ x. x ++ s) (sym both.1) in
        subst (λ x. Ways book [] (through book marks c (take at events)) x w) whole (subst (λ x. Ways book [] x (piece ++ rest) w) here (step rest m mid))

module _ (book : Book) (marks : Marks) (study : IsStudied book marks) where
  pub fit_through : (s : List Event) (c : Contract) → CountsFit book c → CountsFit book (through book marks c s)
  fit_through [] c h = h
  fit_through (e ∷ s) c h = fit_through s (after book marks e c) (CountsFit-after_at book marks study.fit e (length book.templates) c h)

  -- what performs the contract after the events is what may follow them
  pub performed_through : (s : List Event) (c : Contract) → IsWellFormed book.declared c → CountsFit book c → All (IsDeclaredEvent book.declared) s →
      (t : List Event) → Perf book [] c (s ++ t) → Perf book [] (through book marks c s) t
  performed_through [] c h k events t p = p
  performed_through (e ∷ s) c h k events t p =
      let here = All-head (IsDeclaredEvent book.declared) e s events in
      performed_through s (after book marks e c) (IsWellFormed-after_at book marks study.formed e here (length book.templates) c h)
      (CountsFit-after_at book marks study.fit e (length book.templates) c k) (All-tail (IsDeclaredEvent book.declared) e s events) t
      (May-Perf ((Follows-after book marks study e here c h k (s ++ t) 0).1 (Perf-May p)) refl)

-- the item behind a list
pub get_seam : {A : Type 0} (xs ys : List A) (x : A) → slice_get (xs ++ x ∷ ys) (length xs) ≡ Some x
get_seam [] ys x = refl
get_seam (z ∷ xs) ys x = get_seam xs ys x

-- the stations of a ready contract are ready
pub stations_ready : (s : StudiedBook) (c : Contract) (events : List Event) (size : ℕ) (rows : List (List Node)) → IsReadyIn s c → AreDeclaredIn s events →
    AreStations s c events size rows → All (λ r. IsReadyIn s (contract_of_rows r)) rows
stations_ready s c events size rows r declared h k d l =
    let at = h k (get_or rows k d) (slice_get-get_or rows k d l) in
    subst (IsReadyIn s) (sym at.1)
    (ready_through (book_of s.book) (marks_of s) (take (size * k) events) c r (All-take (DeclaredIn s) (size * k) events declared))

pub stations_begin : (s : StudiedBook) (c : Contract) (events : List Event) (size : ℕ) (rows : List (List Node)) → AreStations s c events size rows →
    (length rows ≡ 0 → length events ≡ 0) → ArePieces size (length rows) (length events)
stations_begin s c events size rows h some = record { some = some; begin = λ k l. (h k (get_or rows k []) (slice_get-get_or rows k [] l)).0 }

-- one station more
pub stations_more : (s : StudiedBook) (c : Contract) (events : List Event) (size at : ℕ) (rows : List (List Node)) (row : List Node) → at ≤ length events →
    at ≡ size * length rows → contract_of_rows row ≡ through_in s c (take at events) → AreStations s c events size rows →
    AreStations s c events size (rows ++ row ∷ [])
stations_more s c events size at rows row within whole is h k r e = elim (get_pushed rows row k r e) as (λ _. (size * k ≤ length events) × (contract_of_rows r ≡ through_in s c (take (size * k) events))) [
  | inl old ↦ h k r old
  | inr new ↦ (let here : size * k ≡ at = ap (λ n. size * n) new.0 ∙ sym whole in (
    omega (arith, here, within),
    ap contract_of_rows new.1 ∙ is ∙ ap (λ n. through_in s c (take n events)) (sym here),
  ))
]

-- and the contracts ahead of the events, with one more
pub residuals_more : (s : StudiedBook) (c : Contract) (events : List Event) (at : ℕ) (rows : List (List Node)) (row : List Node) → length rows ≡ at →
    contract_of_rows row ≡ through_in s c (take at events) →
    ((k : ℕ) (r : List Node) → slice_get rows k ≡ Some r → contract_of_rows r ≡ through_in s c (take k events)) →
    (k : ℕ) (r : List Node) → slice_get (rows ++ row ∷ []) k ≡ Some r → contract_of_rows r ≡ through_in s c (take k events)
residuals_more s c events at rows row count is h k r e = elim (get_pushed rows row k r e) as (λ _. contract_of_rows r ≡ through_in s c (take k events)) [
  | inl old ↦ h k r old
  | inr new ↦ ap contract_of_rows new.1 ∙ is ∙ ap (λ n. through_in s c (take n events)) (sym (new.0 ∙ count))
]

-- the contract ahead of the k-th event
pub residual_at : (s : StudiedBook) (c : Contract) (events : List Event) (rows : List (List Node)) (k : ℕ) (row : List Node) → AreResiduals s c events rows →
    k ≤ length events → row ≡ get_or rows k row → contract_of_rows row ≡ through_in s c (take k events)
residual_at s c events rows k row h l is = h.each k row (slice_get_read rows (length rows) k row refl (omega (arith, h.count, l)) is)

pub residual_ready : (s : StudiedBook) (c : Contract) (events : List Event) (rows : List (List Node)) (k : ℕ) (row : List Node) → IsReadyIn s c →
    AreDeclaredIn s events → AreResiduals s c events rows → k ≤ length events → row ≡ get_or rows k row → IsReadyIn s (contract_of_rows row)
residual_ready s c events rows k row r declared h l is =
    subst (IsReadyIn s) (sym (residual_at s c events rows k row h l is))
    (ready_through (book_of s.book) (marks_of s) (take k events) c r (All-take (DeclaredIn s) k events declared))

pub fits_next : (book : Book) (marks : Marks) → IsStudied book marks → (e : Event) (c d : Contract) → d ≡ after book marks e c → CountsFit book c → CountsFit book d
fits_next book marks study e c d is h = subst (CountsFit book) (sym is) (CountsFit-after_at book marks study.fit e (length book.templates) c h)
