-- Bags in a table, each known by what it counts.
use Rattle.std.proofs.Common.{◌≡◌, ℕ, zero, suc, ◌+◌, ◌*◌, ◌-◌, ◌/◌, ◌%◌, ◌<◌, ◌≤◌, true, false, ◌&&◌, nat_eq, arith, List, [], ◌∷◌, ◌++◌, length, map, replicate, get_or, slice_get, Some, refl, sym, ◌∙◌, ap, ap₂, subst, inl, inr, append-nil, eqb-true, eq-eqb}
use Rattle.std.specs.List.{AllByRecursion, IsDistinct}
use Rattle.std.proofs.lemmas.Bool.{cases_lt}
use Rattle.std.proofs.lemmas.Bool.Decides.{nat_tests}
use Rattle.std.proofs.lemmas.List.{get_or_past}
use Rattle.std.proofs.lemmas.List.Folds.{sum_by-replicate}
use Rattle.std.proofs.lemmas.List.Sums.{sum_by-cons, sum_by-append}
use Rattle.std.proofs.lemmas.Option.{slice_get-get_or, slice_get_within}
use Rattle.indexmap.specs.IndexSet.{insert_key}
use Rattle.poets_expr.proofs.SameTrees.{both_true}
use Rattle.poets_syntax.proofs.Replacing.{truth}
use Rattle.poets_cons.specs.declared.bag.Bag.{Bag}
use Rattle.poets_cons.specs.code.Built.{built}
use Rattle.poets_cons.specs.code.Bags.{one_if, times, forked, forked_at, bag_by, bag_at, same_bag, AreBags, AreSame, IsBagAt, IsBagOf, IsBagOfBoth, IsLonger}
use Rattle.poets_cons.proofs.Built.{length-built, built-later, built-at, at_push, inserted, same_place}

-- ---- how often a number stands in a list

pub times_cons : (n x : ℕ) (xs : List ℕ) → times n (x ∷ xs) ≡ one_if (nat_eq n x) + times n xs
times_cons n x xs = sum_by-cons (λ m. one_if (nat_eq n m)) x xs

pub times_first : (n : ℕ) (xs : List ℕ) → times n (n ∷ xs) ≡ 1 + times n xs
times_first n xs = times_cons n n xs ∙ ap (λ b. one_if b + times n xs) (eq-eqb n n refl)

times-append : (n : ℕ) (xs ys : List ℕ) → times n (xs ++ ys) ≡ times n xs + times n ys
times-append n xs ys = sum_by-append (λ m. one_if (nat_eq n m)) xs ys

stands : (P : ℕ → Type 0) (ks : List ℕ) → AllByRecursion P ks → (n : ℕ) → 0 < times n ks → P n
stands P [] h n l = absurd (omega arith)
stands P (k ∷ ks) h n l = elim (truth (nat_eq n k)) [
  | inl t ↦ subst P (sym (eqb-true n k t)) h.0
  | inr t ↦ stands P ks h.1 n (let p = times_cons n k ks in let q = ap one_if t in omega (arith, l, p, q))
]

-- what all numbers have, those of another list have in which each stands as often
pub all_counted : (P : ℕ → Type 0) (ks ls : List ℕ) → AllByRecursion P ks → AreSame ls ks → AllByRecursion P ls
all_counted P ks ls h e = each ls (λ n l. stands P ks h n (let s = e n in omega (arith, l, s)))
  where
    each : (ls : List ℕ) → ((n : ℕ) → 0 < times n ls → P n) → AllByRecursion P ls
    each [] f = tt
    each (l ∷ ls) f = (
      f l (let p = times_first l ls in omega (arith, p)),
      each ls (λ n m. f n (let p = times_cons n l ls in omega (arith, m, p))),
    )

-- numbers that were made of others, one each
times_made : (f : ℕ → ℕ) (n v : ℕ) → ((m : ℕ) → nat_eq v (f m) ≡ nat_eq n m) → (xs : List ℕ) → times v (map f xs) ≡ times n xs
times_made f n v e [] = refl
times_made f n v e (x ∷ xs) =
    let p = times_cons v (f x) (map f xs) in
    let q = times_cons n x xs in
    let h = ap one_if (e x) in
    omega (arith, p, q, h, times_made f n v e xs)

times_none : (f : ℕ → ℕ) (v : ℕ) → ((m : ℕ) → nat_eq v (f m) ≡ false) → (xs : List ℕ) → times v (map f xs) ≡ 0
times_none f v e [] = refl
times_none f v e (x ∷ xs) = let p = times_cons v (f x) (map f xs) in let h = ap one_if (e x) in omega (arith, p, h, times_none f v e xs)

-- ---- what a row counts

module _ (c : ℕ) (os es : List ℕ) where
  parts_counted : (v : ℕ) → times v (forked c os es) ≡ c * one_if (nat_eq v 0) + (times v (map (λ m. 1 + 2 * m) os) + times v (map (λ m. 2 + 2 * m) es))
  parts_counted v =
      let odds = map (λ m. 1 + 2 * m) os in
      let evens = map (λ m. 2 + 2 * m) es in
      let p = times-append v (replicate c 0) (odds ++ evens) in
      let q = times-append v odds evens in
      let r = sum_by-replicate (λ m. one_if (nat_eq v m)) c 0 in
      cc

  times_zero : times 0 (forked c os es) ≡ c
  times_zero =
      let q = times_none (λ m. 1 + 2 * m) 0 (λ m. grind (arith, nat_tests)) os in
      let r = times_none (λ m. 2 + 2 * m) 0 (λ m. grind (arith, nat_tests)) es in
      omega (arith, parts_counted 0, q, r)

  times_odd : (n : ℕ) → times (1 + 2 * n) (forked c os es) ≡ times n os
  times_odd n =
      let z : nat_eq (1 + 2 * n) 0 ≡ false = grind (arith, nat_tests) in
      let q = times_made (λ m. 1 + 2 * m) n (1 + 2 * n) (λ m. grind (arith, nat_tests)) os in
      let r = times_none (λ m. 2 + 2 * m) (1 + 2 * n) (λ m. grind (arith, nat_tests)) es in
      omega (arith, parts_counted (1 + 2 * n), q, r, ap (λ b. c * one_if b) z)

  times_even : (n : ℕ) → times (2 + 2 * n) (forked c os es) ≡ times n es
  times_even n =
      let z : nat_eq (2 + 2 * n) 0 ≡ false = grind (arith, nat_tests) in
      let q = times_none (λ m. 1 + 2 * m) (2 + 2 * n) (λ m. grind (arith, nat_tests)) os in
      let r = times_made (λ m. 2 + 2 * m) n (2 + 2 * n) (λ m. grind (arith, nat_tests)) es in
      omega (arith, parts_counted (2 + 2 * n), q, r, ap (λ b. c * one_if b) z)

-- a number is 0, odd, or even above 0
each_number : (P : ℕ → Type 0) → P 0 → ((n : ℕ) → P (1 + 2 * n)) → ((n : ℕ) → P (2 + 2 * n)) → (v : ℕ) → P v
each_number P z o e zero = z
each_number P z o e (suc v) = elim (truth (nat_eq (v % 2) 0)) [
  | inl t ↦ (let h = eqb-true (v % 2) 0 t in subst P (omega (arith, h)) (o (v / 2)))
  | inr t ↦ (let h : v % 2 ≡ 1 = grind (arith, nat_tests) in subst P (omega (arith, h)) (e (v / 2)))
]

-- a row counts what two do, where its parts do
fork_joined : (c d : ℕ) (o p x e q y : List ℕ) → AreSame o (p ++ x) → AreSame e (q ++ y) → AreSame (forked (c + d) o e) (forked c p q ++ forked d x y)
fork_joined c d o p x e q y h g = each_number (λ v. times v (forked (c + d) o e) ≡ times v (forked c p q ++ forked d x y))
    (let a = times-append 0 (forked c p q) (forked d x y) in omega (arith, a, times_zero (c + d) o e, times_zero c p q, times_zero d x y))
    (λ n.
    let a = times-append (1 + 2 * n) (forked c p q) (forked d x y) in
    omega (arith, a, times-append n p x, h n, times_odd (c + d) o e n, times_odd c p q n, times_odd d x y n))
    (λ n.
    let a = times-append (2 + 2 * n) (forked c p q) (forked d x y) in
    omega (arith, a, times-append n q y, g n, times_even (c + d) o e n, times_even c p q n, times_even d x y n))

-- ---- tables of bags

pub bag_later : (old new : List Bag) → IsLonger old new → (n : ℕ) → n ≤ length old → bag_at new n ≡ bag_at old n
bag_later old new g n l = ap (λ bags. bag_at bags n) g.1 ∙ built-later [] bag_by ([] ∷ []) old g.0 n (omega (arith, l))

pub bag_zero : (bags : List Bag) → bag_at bags 0 ≡ []
bag_zero bags = built-later [] bag_by ([] ∷ []) [] bags 0 (omega arith)

-- a bag that counts something has a row
pub number_within : (bags : List Bag) (n : ℕ) → 1 ≤ length (bag_at bags n) → n ≤ length bags
number_within bags n l = elim (cases_lt (length bags) n) [
  | inl m ↦ (
      let none = ap length (get_or_past (built [] bag_by ([] ∷ []) bags) n [] (omega (arith, m, length-built [] bag_by ([] ∷ []) bags))) in
      absurd (omega (arith, l, none))
      )
  | inr m ↦ m
]

row_one : (b d : Bag) → same_bag b d ≡ true → b ≡ d
row_one b d e =
    let h = both_true (nat_eq b.count d.count) (nat_eq b.odd d.odd && nat_eq b.even d.even) e in
    let k = both_true (nat_eq b.odd d.odd) (nat_eq b.even d.even) h.1 in
    let count = eqb-true b.count d.count h.0 in
    let odd = eqb-true b.odd d.odd k.0 in
    let even = eqb-true b.even d.even k.1 in
    λ i. record { count = count i; odd = odd i; even = even i }

pub no_bags : AreBags []
unfolding IsDistinct
no_bags = record { each = λ i b e. absurd cc; distinct = tt }

module _ (bags : List Bag) (each : (i : ℕ) (b : Bag) → slice_get bags i ≡ Some b → IsBagAt i b) where
  bag_of_row : (n : ℕ) (b : Bag) → 1 ≤ n → slice_get bags (n - 1) ≡ Some b → bag_at bags n ≡ bag_by (bag_at bags) b
  bag_of_row n b l e =
      let x = each (n - 1) b e in
      let number : n ≡ 1 + (n - 1) = omega (arith, l) in
      ap (bag_at bags) number
      ∙ built-at [] bag_by ([] ∷ []) bags (n - 1) b e (λ f g a. ap₂ (forked b.count) (a b.odd (omega (arith, x.0))) (a b.even (omega (arith, x.1))))

  -- what stands at a number, the empty bag for 0
  record Stands (n : ℕ) : Type 0 where
    row : Bag
    counts : bag_at bags n ≡ bag_by (bag_at bags) row
    odd : row.odd ≤ n - 1
    even : row.even ≤ n - 1
    none : n ≡ 0 → row.count + row.odd + row.even ≡ 0
    some : 1 ≤ n → (slice_get bags (n - 1) ≡ Some row) × (1 ≤ row.count + row.odd + row.even)

  standing : (n : ℕ) → n ≤ length bags → Stands n
  standing zero l = record {
    row = record { count = 0; odd = 0; even = 0 };
    counts = let e = bag_zero bags in e ∙ ap (λ ks. forked 0 ks ks) (sym e);
    odd = omega arith;
    even = omega arith;
    none = λ e. refl;
    some = λ m. absurd (omega (arith, m));
  }
  standing (suc k) l =
      let empty : Bag = record { count = 0; odd = 0; even = 0 } in
      let b = get_or bags (suc k - 1) empty in
      let at = slice_get-get_or bags (suc k - 1) empty (omega (arith, l)) in
      let x = each (suc k - 1) b at in
      record { row = b; counts = bag_of_row (suc k) b (omega arith) at; odd = x.0; even = x.1; none = λ e. absurd (omega (arith, e)); some = λ m. (at, x.2) }

  -- a bag has one number
  one_below : IsDistinct same_bag bags → (n a b : ℕ) → a + b < n → a ≤ length bags → b ≤ length bags → AreSame (bag_at bags a) (bag_at bags b) → a ≡ b
  one_below apart zero a b k l m h = absurd (omega arith)
  one_below apart (suc n) a b k l m h = elim (cases_lt 0 (a + b)) [
    | inr z ↦ omega (arith, z)
    | inl p ↦ (
        let x = standing a l in
        let y = standing b m in
        let r = x.row in
        let s = y.row in
        let part = bag_at bags in
        let same : AreSame (bag_by part r) (bag_by part s) = λ v. ap (times v) (sym x.counts) ∙ h v ∙ ap (times v) y.counts in
        let count : r.count ≡ s.count = sym (times_zero r.count (part r.odd) (part r.even)) ∙ same 0 ∙ times_zero s.count (part s.odd) (part s.even) in
        let odds : AreSame (part r.odd) (part s.odd) =
        λ v. sym (times_odd r.count (part r.odd) (part r.even) v) ∙ same (1 + 2 * v) ∙ times_odd s.count (part s.odd) (part s.even) v in
        let evens : AreSame (part r.even) (part s.even) =
        λ v. sym (times_even r.count (part r.odd) (part r.even) v) ∙ same (2 + 2 * v) ∙ times_even s.count (part s.odd) (part s.even) v in
        let i = x.odd in
        let j = y.odd in
        let odd = one_below apart n r.odd s.odd (omega (arith, i, j, k, p)) (omega (arith, i, l)) (omega (arith, j, m)) odds in
        let i = x.even in
        let j = y.even in
        let even = one_below apart n r.even s.even (omega (arith, i, j, k, p)) (omega (arith, i, l)) (omega (arith, j, m)) evens in
        let one : r ≡ s = λ i. record { count = count i; odd = odd i; even = even i } in
        let itself : same_bag r r ≡ true = rw (eq-eqb r.count r.count refl, eq-eqb r.odd r.odd refl, eq-eqb r.even r.even refl) refl in
        elim (cases_lt 0 a) [
          | inl u ↦ (
              let w : 1 ≤ b = elim (cases_lt 0 b) [
                | inl w ↦ w
                | inr w ↦ (let f = y.none (omega (arith, w)) in let g = (x.some u).1 in absurd (omega (arith, f, g, count, odd, even)))
              ] in
              let place = same_place same_bag bags apart (a - 1) (b - 1) r r (x.some u).0 ((y.some w).0 ∙ ap Some (sym one)) itself itself in
              omega (arith, place, u, w)
              )
          | inr u ↦ (
              let f = x.none (omega (arith, u)) in
              let g = (y.some (omega (arith, p, u))).1 in
              absurd (omega (arith, f, g, count, odd, even))
              )
        ]
        )
  ]

pub one_number : (bags : List Bag) → AreBags bags → (a b : ℕ) → a ≤ length bags → b ≤ length bags → AreSame (bag_at bags a) (bag_at bags b) → a ≡ b
one_number bags all a b l m h = one_below bags all.each all.distinct (1 + a + b) a b (omega arith) l m h

-- ---- a row is inserted

module _ (old new : List Bag) (row : Bag) (all : AreBags old) (right : IsBagAt (length old) row)
    (made : new ≡ insert_key same_bag old row) (unique : IsDistinct same_bag new) where
  -- what holds before, and with the row at the end, holds after
  after : (P : List Bag → Type 0) → P old → P (old ++ row ∷ []) → P new
  after P h g = subst P (sym made) (inserted same_bag old row P h g)

  row_grows : IsLonger old new
  row_grows = after (IsLonger old) ([], sym (append-nil old)) (row ∷ [], refl)

  pub row_inserted : AreBags new
  row_inserted = record {
    each = after (λ bags. (i : ℕ) (b : Bag) → slice_get bags i ≡ Some b → IsBagAt i b) all.each
        (λ i b e. elim (at_push old row i b e) [
          | inl h ↦ all.each i b h
          | inr h ↦ subst (λ j. IsBagAt j b) (sym h.0) (subst (IsBagAt (length old)) (sym h.1) right)
        ]);
    distinct = unique;
  }

  pub row_number : (i n : ℕ) (b : Bag) → slice_get new i ≡ Some b → same_bag row b ≡ true → n ≡ i + 1 → IsBagOf new (bag_by (bag_at old) row) n
  row_number i n b e t f =
      let place : n - 1 ≡ i = omega (arith, f) in
      let here = ap (slice_get new) place ∙ e ∙ ap Some (sym (row_one row b t)) in (
        omega (arith, f),
        omega (arith, slice_get_within new i b e, f),
        bag_of_row new row_inserted.each n row (omega (arith, f)) here
            ∙ ap₂ (forked row.count) (bag_later old new row_grows row.odd right.0) (bag_later old new row_grows row.even right.1),
      )

-- ---- one part

pub one_first : (bags : List Bag) → forked_at bags 1 0 0 ≡ 0 ∷ []
one_first bags = ap (λ ks. forked 1 ks ks) (bag_zero bags)

pub one_odd : (bags : List Bag) (n k class : ℕ) → bag_at bags n ≡ k ∷ [] → class ≡ 1 + 2 * k → forked_at bags 0 n 0 ≡ class ∷ []
one_odd bags n k class e f = rw (bag_zero bags, e, f) refl

pub one_even : (bags : List Bag) (n k class : ℕ) → bag_at bags n ≡ k ∷ [] → class ≡ 2 + 2 * k → forked_at bags 0 0 n ≡ class ∷ []
one_even bags n k class e f = rw (bag_zero bags, e, f) refl

-- ---- both parts

-- where one is not empty, no more are they both
pub some_joined : (c d o e x y : ℕ) → 1 ≤ c + o + e → (1 ≤ o → 1 ≤ x) → (1 ≤ e → 1 ≤ y) → 1 ≤ (c + d) + x + y
some_joined c d o e x y h f g = elim (cases_lt 0 o) [
  | inl l ↦ (let p = f l in omega (arith, p))
  | inr l ↦ elim (cases_lt 0 e) [ inl m ↦ (let p = g m in omega (arith, p)) | inr m ↦ omega (arith, h, l, m) ]
]

-- a number's bag is not the empty one, and this is its row
abbrev pub HasRow : List Bag → ℕ → Bag → Type 0
HasRow bags a r = (1 ≤ a) × (slice_get bags (a - 1) ≡ Some r)

-- a table that grew twice
module _ (old mid new : List Bag) (all : AreBags old) (first : IsLonger old mid) (second : IsLonger mid new) where
  pub both_joined : (a b : ℕ) (r s : Bag) → HasRow old a r → HasRow old b s → (count o e : ℕ) → count ≡ r.count + s.count →
      IsBagOfBoth old r.odd s.odd mid o → IsBagOfBoth mid r.even s.even new e → AreSame (forked_at new count o e) (bag_at old a ++ bag_at old b)
  both_joined a b r s at_a at_b count o e sum odd even =
      let part = bag_at old in
      let below_a = all.each (a - 1) r at_a.1 in
      let below_b = all.each (b - 1) s at_b.1 in
      let within_a = slice_get_within old (a - 1) r at_a.1 in
      let within_b = slice_get_within old (b - 1) s at_b.1 in
      let x = bag_later old mid first r.even (omega (arith, below_a.1, within_a)) in
      let y = bag_later old mid first s.even (omega (arith, below_b.1, within_b)) in
      rw (bag_of_row old all.each a r at_a.0 at_a.1, bag_of_row old all.each b s at_b.0 at_b.1, sum, bag_later mid new second o odd.1)
      (fork_joined r.count s.count (bag_at mid o) (part r.odd) (part s.odd) (bag_at new e) (part r.even) (part s.even) odd.2 (rw (x, y) at even.2))
