-- Lists of events in pieces.
use Rattle.std.proofs.Common.{◌≡◌, ℕ, zero, suc, ◌+◌, ◌*◌, ◌-◌, ◌≤◌, ◌<◌, List, [], ◌∷◌, ◌++◌, Option, Some, None, length, set, take, drop, slice_get, slice_index_or, option_map, nat_eq, nat_lt, if◌then◌else◌, refl, sym, ◌∙◌, ap, ap₂, subst, arith}
use Rattle.std.specs.List.{All, last_or, remove}
use Rattle.std.proofs.lemmas.Bool.Decides.{nat_tests}
use Rattle.std.proofs.lemmas.List.{append-nil, length-append, length-map, length-set, set-append_left, set_at, take-append-drop, take-append-le, take-map, take_all, take_more}
use Rattle.std.proofs.lemmas.List.Concat.{flat_map-append}
use Rattle.std.proofs.lemmas.List.Edits.{length-remove, remove-append_left, remove-append_right}
use Rattle.std.proofs.lemmas.List.Elements.{All-get_or, All-head, All-set, All-tail, All-take}
use Rattle.std.proofs.lemmas.Option.{get_or_from_slice_get, slice_get-map, slice_get_within}
use Rattle.poets_value.specs.declared.event.Event.{Event}
use Rattle.std.specs.declared.alloc.Global.{Global}
use Rattle.std.specs.declared.sync.Arc.{Arc}
use Rattle.std.specs.Arc.{arc_value}
use Rattle.poets_value.specs.Listed.{Listed}
use Rattle.poets_table.specs.Pieces.{AreShort, IsPieceOf, is_full, joined, last_start, most_pieces, piece_length, pieces_of, starts_from, starts_of, starts_without}
use Rattle.poets_table.specs.code.Rows.{IsPlaceIn, IsWithout}
use Rattle.poets_table.proofs.Setting.{index_get}

abbrev Pieces : Type 0
Pieces = List (List Event)

abbrev IsShort : List Event → Type 0
IsShort p = length p ≤ piece_length

-- ---- joined pieces

pub joined-push : (ps : Pieces) (last : List Event) → joined (ps ++ last ∷ []) ≡ joined ps ++ last
joined-push ps last = flat_map-append (λ p. p) ps (last ∷ []) ∙ ap (λ xs. joined ps ++ xs) (append-nil last)

pub length-joined-push : (ps : Pieces) (last : List Event) → length (joined (ps ++ last ∷ [])) ≡ length (joined ps) + length last
length-joined-push ps last = ap length (joined-push ps last) ∙ length-append (joined ps) last

pub joined-short : (ps : Pieces) → All IsShort ps → length (joined ps) ≤ length ps * piece_length
joined-short [] short = omega arith
joined-short (p ∷ ps) short =
    let here = All-head IsShort p ps short in
    let more = joined-short ps (All-tail IsShort p ps short) in
    let len = length-append p (joined ps) in
    omega (arith, here, more, len)

-- the pieces up to a place and that at the place
pub pieces-more : (i : ℕ) (ps : Pieces) (p : List Event) → slice_get ps i ≡ Some p → joined (take i ps) ++ p ≡ joined (take (i + 1) ps)
pieces-more i ps p e =
    sym (joined-push (take i ps) p)
    ∙ ap joined (sym (take_more ps i p (slice_get_within ps i p e) ∙ ap (λ q. take i ps ++ q ∷ []) (get_or_from_slice_get ps i p p e)))

length-more : (i : ℕ) (ps : Pieces) (p : List Event) → slice_get ps i ≡ Some p → length (joined (take (i + 1) ps)) ≡ length (joined (take i ps)) + length p
length-more i ps p e = ap length (sym (pieces-more i ps p e)) ∙ length-append (joined (take i ps)) p

-- all pieces are the list
pub pieces-all : (i : ℕ) (ps : Pieces) → length ps ≤ i → joined (take i ps) ≡ joined ps
pieces-all i ps h = ap joined (take_all i ps h)

-- ---- where pieces begin

pub starts-push : (n : ℕ) (ps : Pieces) (last : List Event) → starts_from n (ps ++ last ∷ []) ≡ starts_from n ps ++ (n + length (joined ps)) ∷ []
starts-push n [] last = let e : n ≡ n + 0 = omega arith in ap (λ m. m ∷ []) e
starts-push n (p ∷ ps) last =
    let len = length-append p (joined ps) in
    let e : (n + length p) + length (joined ps) ≡ n + length (p ++ joined ps) = omega (arith, len) in
    ap (λ ms. n ∷ ms) (starts-push (n + length p) ps last ∙ ap (λ m. starts_from (n + length p) ps ++ m ∷ []) e)

last_start-push : (starts : List ℕ) (n : ℕ) → last_start (starts ++ n ∷ []) ≡ n
last_start-push [] n = refl
last_start-push (m ∷ []) n = refl
last_start-push (m ∷ m' ∷ starts) n = last_start-push (m' ∷ starts) n

-- the last piece is full
pub full-last : (ps : Pieces) (last : List Event) → nat_eq (length last) piece_length ≡ is_full (joined (ps ++ last ∷ [])) (starts_of (ps ++ last ∷ []))
full-last ps last =
    let start = ap last_start (starts-push 0 ps last) ∙ last_start-push (starts_from 0 ps) (0 + length (joined ps)) in
    let len = length-joined-push ps last in
    let e : length last ≡ length (joined (ps ++ last ∷ [])) - last_start (starts_of (ps ++ last ∷ [])) = omega (arith, start, len) in
    ap (λ n. nat_eq n piece_length) e

-- the last piece does not tell where the pieces begin
pub starts-last : (ps : Pieces) (last last' : List Event) → starts_of (ps ++ last ∷ []) ≡ starts_of (ps ++ last' ∷ [])
starts-last ps last last' = starts-push 0 ps last ∙ sym (starts-push 0 ps last')

-- a new piece begins where the events end
pub starts-next : (ps : Pieces) → starts_of (ps ++ [] ∷ []) ≡ starts_of ps ++ length (joined ps) ∷ []
starts-next ps = starts-push 0 ps [] ∙ ap (λ n. starts_of ps ++ n ∷ []) (let e : 0 + length (joined ps) ≡ length (joined ps) = omega arith in e)

pub joined-next : (ps : Pieces) → joined (ps ++ [] ∷ []) ≡ joined ps
joined-next ps = joined-push ps [] ∙ append-nil (joined ps)

pub length-starts : (n : ℕ) (ps : Pieces) → length (starts_from n ps) ≡ length ps
length-starts n [] = refl
length-starts n (p ∷ ps) = ap suc (length-starts (n + length p) ps)

starts-get : (n : ℕ) (ps : Pieces) (i : ℕ) → i < length ps → slice_get (starts_from n ps) i ≡ Some (n + length (joined (take i ps)))
starts-get n [] i h = absurd (omega (arith, h))
starts-get n (p ∷ ps) zero h = let e : n ≡ n + 0 = omega arith in ap Some e
starts-get n (p ∷ ps) (suc i) h =
    let len = length-append p (joined (take i ps)) in
    let e : (n + length p) + length (joined (take i ps)) ≡ n + length (p ++ joined (take i ps)) = omega (arith, len) in
    starts-get (n + length p) ps i (omega (arith, h)) ∙ ap Some e

-- a piece begins behind those before it
start-at : (ps : Pieces) (i : ℕ) → i < length ps → slice_get (starts_of ps) i ≡ Some (length (joined (take i ps)))
start-at ps i h = starts-get 0 ps i h ∙ ap Some (let e : 0 + length (joined (take i ps)) ≡ length (joined (take i ps)) = omega arith in e)

-- ---- the piece of an event

get-front : {A : Type 0} (xs ys : List A) (i : ℕ) (x : A) → slice_get xs i ≡ Some x → slice_get (xs ++ ys) i ≡ Some x
get-front [] ys i x e = absurd cc
get-front (y ∷ xs) ys zero x e = e
get-front (y ∷ xs) ys (suc i) x e = get-front xs ys i x e

get-behind : {A : Type 0} (xs : List A) (x : A) → slice_get (xs ++ x ∷ []) (length xs) ≡ Some x
get-behind [] x = refl
get-behind (y ∷ xs) x = get-behind xs x

-- an event of a sealed piece stands there in all pieces
pub place-sealed : (place number inside : ℕ) (ps : Pieces) (last : List Event) → IsPlaceIn ps place number inside → IsPlaceIn (ps ++ last ∷ []) place number inside
place-sealed place number inside ps last h =
    let below = slice_get_within ps number h.piece h.here in
    record {
      piece = h.piece;
      here = get-front ps (last ∷ []) number h.piece h.here;
      within = h.within;
      ahead = h.ahead ∙ ap (λ qs. length (joined qs) + inside) (sym (take-append-le number ps (last ∷ []) (omega (arith, below))));
    }

-- the events behind those of the sealed pieces stand in the last one
pub place-last : (place : ℕ) (ps : Pieces) (last : List Event) (ahead : ℕ) → ahead ≡ length (joined ps) → ahead ≤ place → place < length (joined (ps ++ last ∷ [])) →
    IsPlaceIn (ps ++ last ∷ []) place (length ps) (place - ahead)
place-last place ps last ahead e behind within =
    let len = length-joined-push ps last in
    let front = take-append-le (length ps) ps (last ∷ []) (omega arith) ∙ take_all (length ps) ps (omega arith) in
    record {
      piece = last;
      here = get-behind ps last;
      within = omega (arith, e, behind, within, len);
      ahead = (let n : place ≡ length (joined ps) + (place - ahead) = omega (arith, e, behind) in n) ∙ ap (λ qs. length (joined qs) + (place - ahead)) (sym front);
    }

piece-short : (ps : Pieces) (i : ℕ) (p : List Event) → slice_get ps i ≡ Some p → All IsShort ps → length p ≤ piece_length
piece-short ps i p e short =
    subst IsShort (get_or_from_slice_get ps i p p e) (All-get_or IsShort ps i p (slice_get_within ps i p e) short)

-- the next piece begins behind this one
next-start : (n : ℕ) (ps : Pieces) (i m : ℕ) (p : List Event) → slice_get ps i ≡ Some p → slice_get (starts_from n ps) (suc i) ≡ Some m →
    m ≡ (n + length (joined (take i ps))) + length p
next-start n [] i m p e behind = absurd cc
next-start n (q ∷ []) zero m p e behind = absurd cc
next-start n (q ∷ r ∷ ps) zero m p e behind =
    let same : length q ≡ length p = cc in
    let here : n + length q ≡ m = cc in
    omega (arith, same, here)
next-start n (q ∷ ps) (suc i) m p e behind =
    let len = length-append q (joined (take i ps)) in
    let h = next-start (n + length q) ps i m p e behind in
    omega (arith, len, h)

-- its piece begins near, and the next one behind it
pub piece-near : (place number inside : ℕ) (ps : Pieces) → IsPlaceIn ps place number inside → All IsShort ps → IsPieceOf place (starts_of ps) number
piece-near place number inside ps h short =
    let most = piece-short ps number h.piece h.here short in
    let within = h.within in
    let ahead = h.ahead in (
      length (joined (take number ps)),
      start-at ps number (slice_get_within ps number h.piece h.here),
      omega (arith, ahead),
      omega (arith, ahead, within, most),
      (λ m behind. let next = next-start 0 ps number m h.piece h.here behind in omega (arith, ahead, within, next)),
    )

-- ---- one event taken out

joined-without : (ps : Pieces) (i k : ℕ) (p : List Event) → slice_get ps i ≡ Some p → k < length p →
    joined (set ps i (remove p k)) ≡ remove (joined ps) (length (joined (take i ps)) + k)
joined-without [] i k p e h = absurd cc
joined-without (q ∷ ps) zero k p e h =
    let same : q ≡ p = cc in
    let n : length (joined (take 0 (q ∷ ps))) + k ≡ k = omega arith in
    sym (remove-append_left p (joined ps) k h) ∙ ap (λ r. remove (r ++ joined ps) k) (sym same) ∙ ap (remove (joined (q ∷ ps))) (sym n)
joined-without (q ∷ ps) (suc i) k p e h =
    let len = length-append q (joined (take i ps)) in
    let m : (length (q ++ joined (take i ps)) + k) - length q ≡ length (joined (take i ps)) + k = omega (arith, len) in
    ap (λ r. q ++ r) (joined-without ps i k p e h ∙ ap (remove (joined ps)) (sym m))
    ∙ sym (remove-append_right q (joined ps) (length q) (length (q ++ joined (take i ps)) + k) refl (omega (arith, len)))

-- a start that is not above the place stays
start_stays : (place n : ℕ) → n ≤ place → (if nat_lt place n then n - 1 else n) ≡ n
start_stays place n h = grind (arith, nat_tests, h)

start_falls : (place n : ℕ) → place < n → (if nat_lt place n then n - 1 else n) ≡ n - 1
start_falls place n h = grind (arith, nat_tests, h)

-- all pieces behind the place begin one place earlier
starts_fall : (place n : ℕ) (ps : Pieces) → place < n → starts_from (n - 1) ps ≡ starts_without place (starts_from n ps)
starts_fall place n [] h = refl
starts_fall place n (p ∷ ps) h =
    let next : (n - 1) + length p ≡ (n + length p) - 1 = omega (arith, h) in
    ap₂ (λ m ms. m ∷ ms) (sym (start_falls place n h)) (ap (λ m. starts_from m ps) next ∙ starts_fall place (n + length p) ps (omega (arith, h)))

starts-without : (n : ℕ) (ps : Pieces) (i k : ℕ) (p : List Event) → slice_get ps i ≡ Some p → k < length p →
    starts_from n (set ps i (remove p k)) ≡ starts_without (n + (length (joined (take i ps)) + k)) (starts_from n ps)
starts-without n [] i k p e h = absurd cc
starts-without n (q ∷ ps) zero k p e h =
    let same : q ≡ p = cc in
    let here : n ≡ (if nat_lt (n + (0 + k)) n then n - 1 else n) = sym (start_stays (n + (0 + k)) n (omega arith)) in
    let fewer = length-remove p k h in
    let len = ap length same in
    let next : n + length (remove p k) ≡ (n + length q) - 1 = omega (arith, fewer, len, h) in
    ap₂ (λ m ms. m ∷ ms) here (ap (λ m. starts_from m ps) next ∙ starts_fall (n + (0 + k)) (n + length q) ps (omega (arith, len, h)))
starts-without n (q ∷ ps) (suc i) k p e h =
    let len = length-append q (joined (take i ps)) in
    let place : (n + length q) + (length (joined (take i ps)) + k) ≡ n + (length (q ++ joined (take i ps)) + k) = omega (arith, len) in
    let here : n ≡ (if nat_lt (n + (length (q ++ joined (take i ps)) + k)) n then n - 1 else n) =
    sym (start_stays (n + (length (q ++ joined (take i ps)) + k)) n (omega arith)) in
    ap₂ (λ m ms. m ∷ ms) here (starts-without (n + length q) ps i k p e h ∙ ap (λ m. starts_without m (starts_from (n + length q) ps)) place)

module _ (place : ℕ) (old new : Pieces) (w : IsWithout place old new) where
  -- pieces without the event at a place are the list without it
  pub without-joined : joined new ≡ remove (joined old) place
  without-joined =
      ap joined w.changed ∙ joined-without old w.number w.inside w.at.piece w.at.here w.at.within ∙ ap (remove (joined old)) (sym w.at.ahead)

  -- and those behind it begin one place earlier
  pub without-starts : starts_of new ≡ starts_without place (starts_of old)
  without-starts =
      let e : 0 + (length (joined (take w.number old)) + w.inside) ≡ place = let h = w.at.ahead in omega (arith, h) in
      ap starts_of w.changed ∙ starts-without 0 old w.number w.inside w.at.piece w.at.here w.at.within ∙ ap (λ n. starts_without n (starts_of old)) e

  -- they are short too
  pub without-short : AreShort old → AreShort new
  without-short short =
      let fewer = length-remove w.at.piece w.inside w.at.within in
      let most = piece-short old w.number w.at.piece w.at.here short.1 in
      let len = length-set old w.number (remove w.at.piece w.inside) in
      let few = short.0 in
      subst AreShort (sym w.changed) (omega (arith, len, few), All-set IsShort old w.number (remove w.at.piece w.inside) (omega (arith, fewer, most)) short.1)

  -- and have one event less
  pub without-ahead : place < length (joined old) → length (joined new) + 1 ≡ length (joined old)
  without-ahead h = let e = ap length without-joined in let len = length-remove (joined old) place h in omega (arith, e, len)

  -- also with a last piece behind them
  pub without-sealed : (last : List Event) → IsWithout place (old ++ last ∷ []) (new ++ last ∷ [])
  unfolding place-sealed
  without-sealed last = record {
    number = w.number;
    inside = w.inside;
    at = place-sealed place w.number w.inside old last w.at;
    changed = ap (λ ps. ps ++ last ∷ []) w.changed
        ∙ sym (set-append_left old (last ∷ []) w.number (remove w.at.piece w.inside) (slice_get_within old w.number w.at.piece w.at.here));
  }

-- an event of the last piece is out
pub without-last : (place : ℕ) (ps : Pieces) (last : List Event) (ahead : ℕ) → ahead ≡ length (joined ps) → ahead ≤ place → place < length (joined (ps ++ last ∷ [])) →
    IsWithout place (ps ++ last ∷ []) (ps ++ remove last (place - ahead) ∷ [])
unfolding place-last
without-last place ps last ahead e behind within = record {
  number = length ps;
  inside = place - ahead;
  at = place-last place ps last ahead e behind within;
  changed = sym (set_at ps last [] (remove last (place - ahead)) (length ps) refl);
}

-- ---- the last event

last_or-append : (o : Option Event) (xs ys : List Event) → last_or o (xs ++ ys) ≡ last_or (last_or o xs) ys
last_or-append o [] ys = refl
last_or-append o (x ∷ xs) ys = last_or-append (Some x) xs ys

last_or-get : (o : Option Event) (e : Event) (xs : List Event) → last_or o (e ∷ xs) ≡ slice_get (e ∷ xs) (length (e ∷ xs) - 1)
last_or-get o e [] = refl
last_or-get o e (x ∷ xs) =
    let n : suc (suc (length xs)) - 1 ≡ suc (suc (length xs) - 1) = omega arith in
    last_or-get (Some e) x xs ∙ sym (ap (slice_get (e ∷ x ∷ xs)) n)

last_or-last : (xs : List Event) → last_or None xs ≡ slice_get xs (length xs - 1)
last_or-last [] = refl
last_or-last (x ∷ xs) = last_or-get None x xs

-- the last of some events, and what was last before where there is none
pub last_or-some : (o : Option Event) (xs : List Event) (e : Event) → Some e ≡ slice_get xs (length xs - 1) → Some e ≡ last_or o xs
last_or-some o [] e h = absurd cc
last_or-some o (x ∷ xs) e h = h ∙ sym (last_or-get o x xs)

last_or-none : (o : Option Event) (xs : List Event) → None ≡ slice_get xs (length xs - 1) → o ≡ last_or o xs
last_or-none o [] h = refl
last_or-none o (x ∷ xs) h = absurd (let e = h ∙ sym (last_or-get None x xs) in let k = last_some None x xs in cc)
  where
    last_some : (o : Option Event) (e : Event) (xs : List Event) → (f : Event) × (last_or o (e ∷ xs) ≡ Some f)
    last_some o e [] = (e, refl)
    last_some o e (x ∷ xs) = last_some (Some e) x xs

last-joined : (ps : Pieces) (last : List Event) →
    last_or (last_or None (joined ps)) last ≡ slice_get (joined (ps ++ last ∷ [])) (length (joined (ps ++ last ∷ [])) - 1)
last-joined ps last = sym (last_or-append None (joined ps) last) ∙ ap (last_or None) (sym (joined-push ps last)) ∙ last_or-last (joined (ps ++ last ∷ []))

-- the last event of the last piece is the last of all
pub last-there : (ps : Pieces) (last : List Event) (e : Event) → Some e ≡ slice_get last (length last - 1) →
    Some e ≡ slice_get (joined (ps ++ last ∷ [])) (length (joined (ps ++ last ∷ [])) - 1)
last-there ps last e h = last_or-some (last_or None (joined ps)) last e h ∙ last-joined ps last

-- and where the last piece is empty, that of the others
pub last-before : (ps : Pieces) (last : List Event) (o : Option Event) → None ≡ slice_get last (length last - 1) → o ≡ last_or None (joined ps) →
    o ≡ slice_get (joined (ps ++ last ∷ [])) (length (joined (ps ++ last ∷ [])) - 1)
last-before ps last o h e = e ∙ last_or-none (last_or None (joined ps)) last h ∙ last-joined ps last

-- ---- shared pieces

abbrev Shared : Type 0
Shared = Arc (Listed Event) Global

abbrev pub events_in : Shared → List Event
events_in p = (arc_value {X = Listed Event} p).items

pub length-pieces_of : (ps : List Shared) → length (pieces_of ps) ≡ length ps
length-pieces_of ps = length-map ps events_in

-- a shared piece at its place
pub shared-at : (ps : List Shared) (i : ℕ) (p : Shared) → i < length ps → p ≡ slice_index_or ps i p → slice_get (pieces_of ps) i ≡ Some (events_in p)
shared-at ps i p lt at = slice_get-map events_in ps i ∙ ap (option_map events_in) (index_get ps i p lt at)

length-pieces : (ps : List Shared) (last : List Event) → length (pieces_of ps ++ last ∷ []) ≡ length ps + 1
length-pieces ps last = length-append (pieces_of ps) (last ∷ []) ∙ ap (λ n. n + 1) (length-pieces_of ps)

-- a sealed piece or the last one begins behind the sealed ones before it
pub start-there : (ps : List Shared) (last : List Event) (i n : ℕ) → i < length (pieces_of ps ++ last ∷ []) → n ≡ length (joined (pieces_of (take i ps))) →
    slice_get (starts_of (pieces_of ps ++ last ∷ [])) i ≡ Some n
start-there ps last i n lt e =
    let len = length-pieces ps last in
    let count = length-pieces_of ps in
    start-at (pieces_of ps ++ last ∷ []) i lt
    ∙ ap (λ qs. Some (length (joined qs))) (take-append-le i (pieces_of ps) (last ∷ []) (omega (arith, lt, len, count)) ∙ take-map events_in i ps)
    ∙ ap Some (sym e)

length-front : (ps : Pieces) (i : ℕ) → length (take i ps) ≤ length ps
length-front [] zero = omega arith
length-front [] (suc i) = omega arith
length-front (p ∷ ps) zero = omega arith
length-front (p ∷ ps) (suc i) = let h = length-front ps i in omega (arith, h)

-- the first of shared pieces are short too
pub front-short : (ps : List Shared) (i : ℕ) → AreShort (pieces_of ps) → AreShort (pieces_of (take i ps))
front-short ps i short =
    let few = length-front (pieces_of ps) i in
    let most = short.0 in
    subst AreShort (take-map events_in i ps) (omega (arith, few, most), All-take IsShort i (pieces_of ps) short.1)

-- ---- along the pieces

pub place-next : (ps : Pieces) (i place left : ℕ) (p : List Event) → slice_get ps i ≡ Some p → place ≡ length (joined (take i ps)) + left → length p ≤ left →
    place ≡ length (joined (take (i + 1) ps)) + (left - length p)
place-next ps i place left p e h far = let len = length-more i ps p e in omega (arith, h, far, len)

-- the pieces up to a place are no more than all
front-within : (ps : Pieces) (i : ℕ) → length (joined (take i ps)) ≤ length (joined ps)
front-within ps i =
    let whole = ap (λ qs. length (joined qs)) (sym (take-append-drop i ps)) ∙ ap length (flat_map-append (λ p. p) (take i ps) (drop i ps)) in
    let len = length-append (joined (take i ps)) (joined (drop i ps)) in
    omega (arith, whole, len)

pub count-fits : (ps : Pieces) (i : ℕ) (p : List Event) → AreShort ps → slice_get ps i ≡ Some p → length (joined (take i ps)) + length p ≤ most_pieces * piece_length
count-fits ps i p short e =
    let len = length-more i ps p e in
    let within = front-within ps (i + 1) in
    let most = joined-short ps short.1 in
    let few = short.0 in
    omega (arith, len, within, most, few)

pub count-next : (ps : Pieces) (i count : ℕ) (p : List Event) → slice_get ps i ≡ Some p → count ≡ length (joined (take i ps)) → count + length p ≡ length (joined (take (i + 1) ps))
count-next ps i count p e h = let len = length-more i ps p e in omega (arith, len, h)

pub last-next : (ps : Pieces) (i : ℕ) (p : List Event) (o : Option Event) → slice_get ps i ≡ Some p → o ≡ last_or None (joined (take i ps)) → last_or o p ≡ last_or None (joined (take (i + 1) ps))
last-next ps i p o e h =
    ap (λ o. last_or o p) h ∙ sym (last_or-append None (joined (take i ps)) p) ∙ ap (last_or None) (pieces-more i ps p e)
