-- Where the pieces of a row begin.
use Rattle.std.proofs.Common.{◌≡◌, ℕ, zero, suc, ◌+◌, ◌-◌, ◌≤◌, ◌<◌, Bool, true, false, List, [], ◌∷◌, ◌++◌, length, nat_eq, nat_lt, if◌then◌else◌, refl, sym, ◌∙◌, ap, subst, arith, Some, slice_get, take, ap₂}
use Rattle.std.specs.List.{All, remove}
use Rattle.std.proofs.lemmas.Bool.Decides.{nat_tests}
use Rattle.std.proofs.lemmas.List.{length_push}
use Rattle.std.proofs.lemmas.List.Edits.{length-remove}
use Rattle.std.proofs.lemmas.Option.{same_Some}
use Rattle.std.proofs.lemmas.List.Elements.{All-cons, All-nil}
use Rattle.poets_value.specs.declared.value.Name.{Name}
use Rattle.poets_value.specs.declared.event.Event.{Event}
use Rattle.poets_table.specs.Pieces.{AreNear, AreStarts, IsPieceOf, is_full, last_start, piece_length, starts_without}
use Rattle.poets_table.specs.TableView.{CutView, HasStarts, IsRowCut, RowView, new_row, with_event, with_piece, with_room, without_event}

-- a new piece begins where the events end
near-again : (n count : ℕ) (starts : List ℕ) → AreNear n (starts ++ count ∷ []) → AreNear n ((starts ++ count ∷ []) ++ count ∷ [])
near-again n count [] h = (h.0, h.1, (omega arith, omega arith, tt))
near-again n count (m ∷ starts) h = (h.0, h.1, near-again m count starts h.2)

starts-again : (starts : List ℕ) (count : ℕ) → AreStarts starts count → AreStarts (starts ++ count ∷ []) count
starts-again [] count h = absurd h
starts-again (n ∷ starts) count h = (h.0, near-again n count starts h.1)

-- one event more in a last piece that is not full
near-more : (n count : ℕ) (starts : List ℕ) → AreNear n (starts ++ count ∷ []) → nat_eq (count - last_start (n ∷ starts)) piece_length ≡ false →
    AreNear n (starts ++ (count + 1) ∷ [])
near-more n count [] h room =
    let least = h.0 in
    let most = h.1 in
    let below : count < n + piece_length = grind (arith, nat_tests, room, least, most) in
    (omega (arith, least), omega (arith, below), tt)
near-more n count (m ∷ starts) h room = (h.0, h.1, near-more m count starts h.2 room)

starts-more : (starts : List ℕ) (events : List Event) → AreStarts starts (length events) → is_full events starts ≡ false → AreStarts starts (length events + 1)
starts-more [] events h room = absurd h
starts-more (n ∷ starts) events h room = (h.0, near-more n (length events) starts h.1 room)

-- without an event of a piece
abbrev fallen : ℕ → ℕ → ℕ
fallen place n = if nat_lt place n then n - 1 else n

falls : (place n m : ℕ) → n ≤ m → fallen place n ≤ fallen place m
falls place n m h = by_test (nat_lt place n) (nat_lt place m) refl refl
  where
    by_test : (b b' : Bool) → nat_lt place n ≡ b → nat_lt place m ≡ b' → (if b then n - 1 else n) ≤ (if b' then m - 1 else m)
    by_test true true e e' = omega (arith, h)
    by_test true false e e' = omega (arith, h)
    by_test false false e e' = h
    by_test false true e e' = grind (arith, nat_tests, e, e', h)

falls-near : (place n m : ℕ) → n ≤ m → m ≤ n + piece_length → fallen place m ≤ fallen place n + piece_length
falls-near place n m least most = by_test (nat_lt place n) (nat_lt place m) refl refl
  where
    by_test : (b b' : Bool) → nat_lt place n ≡ b → nat_lt place m ≡ b' → (if b' then m - 1 else m) ≤ (if b then n - 1 else n) + piece_length
    by_test true true e e' = grind (arith, nat_tests, e, most)
    by_test true false e e' = grind (arith, nat_tests, e, e', least)
    by_test false false e e' = most
    by_test false true e e' = omega (arith, most)

near-less : (place n count : ℕ) (starts : List ℕ) → place < count → AreNear n (starts ++ count ∷ []) → AreNear (fallen place n) (starts_without place starts ++ (count - 1) ∷ [])
near-less place n count [] h near =
    let end : fallen place count ≡ count - 1 = grind (arith, nat_tests, h) in
    (subst (λ m. fallen place n ≤ m) end (falls place n count near.0), subst (λ m. m ≤ fallen place n + piece_length) end (falls-near place n count near.0 near.1), tt)
near-less place n count (m ∷ starts) h near = (falls place n m near.0, falls-near place n m near.0 near.1, near-less place m count starts h near.2)

starts-less : (place count : ℕ) (starts : List ℕ) → place < count → AreStarts starts count → AreStarts (starts_without place starts) (count - 1)
starts-less place count [] h starts = absurd starts
starts-less place count (n ∷ starts) h near =
    let first = near.0 in
    let none : fallen place n ≡ 0 = grind (arith, nat_tests, first) in
    (none, near-less place n count starts h near.1)

-- where a start is not above the place, those up to it stay
near-front : (place n count : ℕ) (starts : List ℕ) (k m : ℕ) → AreNear n (starts ++ count ∷ []) → slice_get starts k ≡ Some m → m ≤ place →
    (n ≤ m) × (take (suc k) (starts_without place starts) ≡ take (suc k) starts)
near-front place n count [] k m near at h = absurd cc
near-front place n count (s ∷ starts) zero m near at h =
    let same = same_Some s m at in
    let least = near.0 in
    let stays : fallen place s ≡ s = grind (arith, nat_tests, same, h) in
    (omega (arith, least, same), ap (λ t. t ∷ []) stays)
near-front place n count (s ∷ starts) (suc k) m near at h =
    let later = near-front place s count starts k m near.2 at h in
    let least = near.0 in
    let below = later.0 in
    let stays : fallen place s ≡ s = grind (arith, nat_tests, below, h) in
    (omega (arith, least, below), ap₂ (λ t ts. t ∷ ts) stays later.1)

starts-front : (place count : ℕ) (starts : List ℕ) (k m : ℕ) → AreStarts starts count → slice_get starts k ≡ Some m → m ≤ place →
    take (suc k) (starts_without place starts) ≡ take (suc k) starts
starts-front place count [] k m near at h = absurd near
starts-front place count (n ∷ starts) zero m near at h =
    let first = near.0 in
    let stays : fallen place n ≡ n = grind (arith, nat_tests, first) in
    ap (λ t. t ∷ []) stays
starts-front place count (n ∷ starts) (suc k) m near at h =
    let first = near.0 in
    let stays : fallen place n ≡ n = grind (arith, nat_tests, first) in
    ap₂ (λ t ts. t ∷ ts) stays (near-front place n count starts k m near.1 at h).1

-- no piece begins behind the events
near-within : (n count : ℕ) (starts : List ℕ) → AreNear n (starts ++ count ∷ []) → (n ≤ count) × All (λ m. m ≤ count) starts
near-within n count [] h = (h.0, All-nil (λ m. m ≤ count))
near-within n count (m ∷ starts) h =
    let later = near-within m count starts h.2 in
    let here = h.0 in
    let end = later.0 in
    (omega (arith, here, end), All-cons (λ m. m ≤ count) m starts later.0 later.1)

starts-within : (starts : List ℕ) (count : ℕ) → AreStarts starts count → All (λ m. m ≤ count) starts
starts-within [] count h = absurd h
starts-within (n ∷ starts) count h = let later = near-within n count starts h.1 in All-cons (λ m. m ≤ count) n starts later.0 later.1

module _ {O T : Type 0} where
  pub new-starts : (x : Name) (o : O) (c : T) → HasStarts (new_row x o c)
  new-starts x o c = (refl, (omega arith, omega arith, tt))

  pub room-starts : (r : RowView O T) → HasStarts r → HasStarts (with_room r)
  room-starts r h = by_test (is_full r.events r.starts)
    where
      by_test : (b : Bool) → HasStarts (if b then with_piece r else r)
      by_test true = starts-again r.starts (length r.events) h
      by_test false = h

  -- with room made the last piece is not full
  room-not-full : (r : RowView O T) → is_full (with_room r).events (with_room r).starts ≡ false
  room-not-full r = by_test (is_full r.events r.starts) refl
    where
      last-again : (starts : List ℕ) (n : ℕ) → last_start (starts ++ n ∷ []) ≡ n
      last-again [] n = refl
      last-again (m ∷ []) n = refl
      last-again (m ∷ m' ∷ starts) n = last-again (m' ∷ starts) n

      by_test : (b : Bool) → is_full r.events r.starts ≡ b → is_full (if b then with_piece r else r).events (if b then with_piece r else r).starts ≡ false
      by_test true e =
          let last = last-again r.starts (length r.events) in
          let none : length r.events - last_start (r.starts ++ length r.events ∷ []) ≡ 0 = omega (arith, last) in
          ap (λ n. nat_eq n piece_length) none
      by_test false e = e

  pub event-starts : (r : RowView O T) (e : Event) (c : T) → HasStarts r → HasStarts (with_event e c (with_room r))
  event-starts r e c h =
      let q = with_room r in
      subst (AreStarts q.starts) (sym (length_push q.events e)) (starts-more q.starts q.events (room-starts r h) (room-not-full r))

  pub cut-starts : (r : RowView O T) (cut : CutView) (c : T) (points : List T) → IsRowCut cut r → HasStarts r → HasStarts (without_event cut c points r)
  cut-starts r cut c points is h =
      let fewer = length-remove r.events cut.place is.place in
      let count : length r.events - 1 ≡ length (remove r.events cut.place) = omega (arith, fewer) in
      subst (λ starts. AreStarts starts (length (remove r.events cut.place))) (sym is.starts)
      (subst (AreStarts (starts_without cut.place r.starts)) count (starts-less cut.place (length r.events) r.starts is.place h))

  pub front-starts : (r : RowView O T) (cut : CutView) (number : ℕ) → IsRowCut cut r → HasStarts r → IsPieceOf cut.place r.starts number →
      take (number + 1) cut.starts ≡ take (number + 1) r.starts
  front-starts r cut number is h of =
      ap (take (number + 1)) is.starts
      ∙ subst (λ k. take k (starts_without cut.place r.starts) ≡ take k r.starts) (let e : suc number ≡ number + 1 = omega arith in e)
      (starts-front cut.place (length r.events) r.starts number of.0 h of.1 of.2)

  pub within-starts : (r : RowView O T) → HasStarts r → All (λ n. n ≤ length r.events) r.starts
  within-starts r h = starts-within r.starts (length r.events) h
