-- What is owed ahead of each piece of a trace.
use Rattle.std.proofs.Common.{◌≡◌, ℕ, zero, suc, ◌+◌, ◌-◌, ◌≤◌, ◌<◌, Bool, nat_lt, List, [], ◌∷◌, ◌++◌, Some, length, map, take, drop, get_or, remove, slice_get, refl, sym, ◌∙◌, ap, ap₂, subst, arith, append_assoc}
use Rattle.std.specs.Prelude.{if◌then◌else◌}
use Rattle.std.specs.List.{AllZip}
use Rattle.std.proofs.lemmas.List.{length-append, length-drop, length-take-le, take-append-drop, take_all}
use Rattle.std.proofs.Math.Seq.{take-append_seam, drop-append_seam}
use Rattle.std.proofs.lemmas.Bool.{le-ltb}
use Rattle.poets_value.specs.declared.event.Event.{Event}
use Rattle.poets_syntax.specs.Book.{book_of}
use Rattle.poets_syntax.specs.Contract.{Contract, contract_of}
use Rattle.poets_syntax.specs.declared.term.Term.{Term}
use Rattle.poets_meaning.specs.Studied.{StudiedBook, marks_of}
use Rattle.poets_calculus.specs.Normal.{normal}
use Rattle.poets_cons.specs.declared.node.Node.{Node}
use Rattle.poets_cons.specs.Table.{contract_of_rows}
use Rattle.poets_table.specs.Pieces.{AreNear, AreStarts, joined, starts_from, starts_without}
use Rattle.poets_table.specs.TableView.{RowView}
use Rattle.poets_engine.specs.Rows.{owed_after}
use Rattle.poets_engine.specs.code.Renewals.{residual_from, ArePoints}
use Rattle.poets_engine.proofs.Renewing.{residual_from-append}

-- ---- where pieces begin

pub joined-append : (ps qs : List (List Event)) → joined (ps ++ qs) ≡ joined ps ++ joined qs
joined-append [] qs = refl
joined-append (p ∷ ps) qs = ap (λ es. p ++ es) (joined-append ps qs) ∙ sym (append_assoc p (joined ps) (joined qs))

pub starts_from-append : (n : ℕ) (ps qs : List (List Event)) → starts_from n (ps ++ qs) ≡ starts_from n ps ++ starts_from (n + length (joined ps)) qs
starts_from-append n [] qs = ap (λ m. starts_from m qs) (let z : n ≡ n + 0 = omega arith in z)
starts_from-append n (p ∷ ps) qs =
    let further : (n + length p) + length (joined ps) ≡ n + length (p ++ joined ps) = simp length-append (omega arith) in
    ap (λ ms. n ∷ ms) (starts_from-append (n + length p) ps qs ∙ ap (λ m. starts_from (n + length p) ps ++ starts_from m qs) further)

-- the piece with a number begins behind those before it
pub start_is : (n k m : ℕ) (ps : List (List Event)) → slice_get (starts_from n ps) k ≡ Some m → m ≡ n + length (joined (take k ps))
start_is n k m [] e = absurd cc
start_is n zero m (p ∷ ps) e = let z : n ≡ m = cc in omega (arith, z)
start_is n (suc k) m (p ∷ ps) e =
    let later = start_is (n + length p) k m ps e in
    let further : length (p ++ joined (take k ps)) ≡ length p + length (joined (take k ps)) = simp length-append refl in
    omega (arith, later, further)

pub take-starts_from : (n k : ℕ) (ps : List (List Event)) → take k (starts_from n ps) ≡ starts_from n (take k ps)
take-starts_from n zero ps = refl
take-starts_from n (suc k) [] = refl
take-starts_from n (suc k) (p ∷ ps) = ap (λ ms. n ∷ ms) (take-starts_from (n + length p) k ps)

-- the pieces from a number up to a place
abbrev pub between : (number place : ℕ) → List (List Event) → List (List Event)
between n place pieces = take (place - n) (drop n pieces)

take_one_more : {A : Type 0} (k : ℕ) (xs : List A) (x : A) → slice_get xs k ≡ Some x → take (suc k) xs ≡ take k xs ++ x ∷ []
take_one_more k [] x e = absurd cc
take_one_more zero (y ∷ xs) x e = ap (λ z. z ∷ []) (let z : y ≡ x = cc in z)
take_one_more (suc k) (y ∷ xs) x e = ap (λ ys. y ∷ ys) (take_one_more k xs x e)

get_behind : {A : Type 0} (n k : ℕ) (xs : List A) (x : A) → slice_get xs (n + k) ≡ Some x → slice_get (drop n xs) k ≡ Some x
get_behind zero k xs x e = subst (λ i. slice_get xs i ≡ Some x) (let z : 0 + k ≡ k = omega arith in z) e
get_behind (suc n) k [] x e = absurd cc
get_behind (suc n) k (y ∷ xs) x e =
    get_behind n k xs x (subst (λ i. slice_get (y ∷ xs) i ≡ Some x) (let z : suc n + k ≡ suc (n + k) = omega arith in z) e)

-- one piece more
pub between-more : (n place : ℕ) (pieces : List (List Event)) (piece : List Event) → n ≤ place → slice_get pieces place ≡ Some piece →
    between n (place + 1) pieces ≡ between n place pieces ++ piece ∷ []
between-more n place pieces piece le e =
    let count : place + 1 - n ≡ suc (place - n) = omega (arith, le) in
    let back : n + (place - n) ≡ place = omega (arith, le) in
    ap (λ k. take k (drop n pieces)) count
    ∙ take_one_more (place - n) (drop n pieces) piece (get_behind n (place - n) pieces piece (ap (slice_get pieces) back ∙ e))

pub between-none : (n : ℕ) (pieces : List (List Event)) → between n n pieces ≡ []
between-none n pieces = ap (λ k. take k (drop n pieces)) (let z : n - n ≡ 0 = omega arith in z)

-- up to the end
pub between-all : (n place : ℕ) (pieces : List (List Event)) → length pieces ≤ place → between n place pieces ≡ drop n pieces
between-all n place pieces le =
    take_all (place - n) (drop n pieces) (let z : length (drop n pieces) ≡ length pieces - n = length-drop n pieces in omega (arith, le, z))

-- what a function makes of the item at a place
pub mapped_at : {A B : Type 0} (f : A → B) (xs : List A) (n : ℕ) (x : A) (d : B) → n < length xs → x ≡ get_or xs n x → get_or (map f xs) n d ≡ f x
mapped_at f [] n x d lt e = absurd (omega (arith, lt))
mapped_at f (y ∷ xs) zero x d lt e = ap f (sym e)
mapped_at f (y ∷ xs) (suc n) x d lt e = mapped_at f xs n x d (omega (arith, lt)) e

-- ---- ahead of the event that is out

-- a place in the trace up to the event is one of what remains
pub take-remove : {A : Type 0} (n p : ℕ) (xs : List A) → n ≤ p → p ≤ length xs → take n (remove xs p) ≡ take n xs
take-remove zero p xs le within = refl
take-remove (suc n) zero xs le within = absurd (omega (arith, le))
take-remove (suc n) (suc p) [] le within = absurd (omega (arith, within))
take-remove (suc n) (suc p) (x ∷ xs) le within = ap (λ ys. x ∷ ys) (take-remove n p xs (omega (arith, le)) (omega (arith, within)))

-- so many first items, and then some more
pub take-both : {A : Type 0} (m n : ℕ) (xs : List A) → take m xs ++ take n (drop m xs) ≡ take (m + n) xs
take-both zero n xs = ap (λ i. take i xs) (let z : n ≡ 0 + n = omega arith in z)
take-both (suc m) n [] = take_all n [] (omega arith) ∙ sym (take_all (suc m + n) [] (omega arith))
take-both (suc m) n (x ∷ xs) = ap (λ ys. x ∷ ys) (take-both m n xs) ∙ ap (λ i. take i (x ∷ xs)) (let z : suc (m + n) ≡ suc m + n = omega arith in z)

-- a piece that does not begin behind the event begins where it began
pub start_stays : (p m k : ℕ) (starts : List ℕ) → m ≤ p → slice_get starts k ≡ Some m → slice_get (starts_without p starts) k ≡ Some m
start_stays p m k [] le e = absurd cc
start_stays p m zero (n ∷ starts) le e =
    let same : n ≡ m = cc in
    ap (λ b. Some (if b then n - 1 else n)) (le-ltb p n (omega (arith, same, le))) ∙ ap Some same
start_stays p m (suc k) (n ∷ starts) le e = start_stays p m k starts le e

-- pieces begin in order
before_start : (n k m : ℕ) (starts : List ℕ) (count : ℕ) → AreNear n (starts ++ count ∷ []) → slice_get starts k ≡ Some m → n ≤ m
before_start n k m [] count h e = absurd cc
before_start n zero m (j ∷ starts) count h e = let z : j ≡ m = cc in omega (arith, h.0, z)
before_start n (suc k) m (j ∷ starts) count h e = let later = before_start j k m starts count h.2 e in omega (arith, h.0, later)

module _ (s : StudiedBook) (r : RowView Term (List Node)) (p : ℕ) (within : p < length r.events) where
  -- what remains of the events
  abbrev left : List Event
  left = remove r.events p

  abbrev Was : ℕ → List Node → Type 0
  Was n point = contract_of_rows point ≡ owed_after s r (take n r.events)

  abbrev Is : ℕ → List Node → Type 0
  Is n point = contract_of_rows point ≡ owed_after s r (take n left)

  stays : (n : ℕ) (point : List Node) → n ≤ p → Was n point → Is n point
  stays n point le h = h ∙ ap (owed_after s r) (sym (take-remove n p r.events le (omega (arith, within))))

  -- the start of a piece that does not begin behind the event
  unmoved : (n : ℕ) → n ≤ p → (if nat_lt p n then n - 1 else n) ≡ n
  unmoved n le = ap (λ b. if b then n - 1 else n) (le-ltb p n le)

  -- so the points ahead of the piece with the event stand
  front_near : (n k m : ℕ) (starts : List ℕ) (points : List (List Node)) (count : ℕ) → AreNear n (starts ++ count ∷ []) → slice_get starts k ≡ Some m → m ≤ p →
      AllZip Was starts points → AllZip Is (take k (starts_without p starts)) (take k points)
  front_near n zero m starts points count near at le h = tt
  front_near n (suc k) m [] points count near at le h = absurd cc
  front_near n (suc k) m (j ∷ starts) [] count near at le h = elim h [ ]
  front_near n (suc k) m (j ∷ starts) (point ∷ points) count near at le h =
      let before = before_start j k m starts count near.2 at in
      let ahead : j ≤ p = omega (arith, before, le) in (
        subst (λ i. Is i point) (sym (unmoved j ahead)) (stays j point ahead h.0),
        front_near j k m starts points count near.2 at le h.1,
      )

  pub front_points : (k m : ℕ) → AreStarts r.starts (length r.events) → slice_get r.starts k ≡ Some m → m ≤ p → AllZip Was r.starts r.points →
      AllZip Is (take k (starts_without p r.starts)) (take k r.points)
  front_points k m are at le h = by r.starts r.points are at h
    where
      by : (starts : List ℕ) (points : List (List Node)) → AreStarts starts (length r.events) → slice_get starts k ≡ Some m → AllZip Was starts points →
          AllZip Is (take k (starts_without p starts)) (take k points)
      by [] points are at h = elim are [ ]
      by (n ∷ starts) points are at h = front_near 0 k m (n ∷ starts) points (length r.events) (omega (arith, are.0), omega (arith, are.0), are.1) at le h

  -- ---- from the piece with the event on

  owed_after-append : (xs ys : List Event) → owed_after s r (xs ++ ys) ≡ residual_from s (owed_after s r xs) ys
  owed_after-append xs ys = residual_from-append s (normal (book_of s.book) (marks_of s) (contract_of r.original)) xs ys

  pub later_points : (qs : List (List Event)) (points : List (List Node)) (c : Contract) (m : ℕ) → m ≤ length left → drop m left ≡ joined qs →
      c ≡ owed_after s r (take m left) → ArePoints s c qs points → AllZip Is (starts_from m qs) points
  later_points [] [] c m le e is h = tt
  later_points [] (point ∷ points) c m le e is h = elim h [ ]
  later_points (q ∷ qs) [] c m le e is h = elim h [ ]
  later_points (q ∷ qs) (point ∷ points) c m le e is h =
      let whole : left ≡ (take m left ++ q) ++ joined qs = sym (take-append-drop m left) ∙ ap (λ es. take m left ++ es) e ∙ sym (append_assoc (take m left) q (joined qs)) in
      let count : length (take m left ++ q) ≡ m + length q = length-append (take m left) q ∙ ap (λ i. i + length q) (length-take-le m left le) in
      let next : take (m + length q) left ≡ take m left ++ q = ap₂ take (sym count) whole ∙ take-append_seam (take m left ++ q) (joined qs) in
      let rest : drop (m + length q) left ≡ joined qs = ap₂ drop (sym count) whole ∙ drop-append_seam (take m left ++ q) (joined qs) in
      let owed : residual_from s c q ≡ owed_after s r (take (m + length q) left) =
      ap (λ d. residual_from s d q) is ∙ sym (owed_after-append (take m left) q) ∙ ap (owed_after s r) (sym next) in
      let longer : length left ≡ length (take m left ++ q) + length (joined qs) = ap length whole ∙ length-append (take m left ++ q) (joined qs) in
      (h.0 ∙ is, later_points qs points (residual_from s c q) (m + length q) (omega (arith, count, longer)) rest owed h.1)

-- one point more
pub points-last : (s : StudiedBook) (c : Contract) (ps : List (List Event)) (points : List (List Node)) (q : List Event) (point : List Node) → ArePoints s c ps points →
    contract_of_rows point ≡ residual_from s c (joined ps) → ArePoints s c (ps ++ q ∷ []) (points ++ point ∷ [])
points-last s c [] [] q point h e = (e, tt)
points-last s c [] (p ∷ points) q point h e = elim h [ ]
points-last s c (p ∷ ps) [] q point h e = elim h [ ]
points-last s c (p ∷ ps) (r ∷ points) q point h e =
    (h.0, points-last s (residual_from s c p) ps points q point h.1 (e ∙ residual_from-append s c p (joined ps)))
