-- Alike contracts: an equivalence, and performed by the same traces.
use Rattle.std.proofs.Common.{◌≡◌, ℕ, ◌+◌, List, [], ◌∷◌, ◌++◌, refl, sym, subst, arith, inl, inr}
use Rattle.poets_value.specs.declared.event.Event.{Event}
use Rattle.poets_expr.specs.Env.{Env}
use Rattle.poets_syntax.specs.Contract.{Contract}
use Rattle.poets_syntax.specs.Contract as C
use Rattle.poets_syntax.specs.Plain.{Book}
use Rattle.poets_meaning.specs.Between.{Between}
use Rattle.poets_meaning.specs.May.{May}
use Rattle.poets_meaning.proofs.Lists.{Between-none, Between-swap, Between-all}
use Rattle.poets_meaning.proofs.Interleavings.{Between-group, Between-regroup, Between-exchange, Between-append, Between-onto, two_taken}
use Rattle.poets_calculus.specs.Alike.{Alike, AreAlike, parts}

-- ---- an equivalence

first_of_one : {x c : Contract} {xs : List Contract} → x ∷ xs ≡ c ∷ [] → (x ≡ c) × (xs ≡ [])
first_of_one e = (cc, cc)

-- one contract more on both sides, each at a place of its own
put_in : {c d : Contract} {one cs all : List Contract} → Between one cs all → one ≡ c ∷ [] → Alike c d →
    {ds more : List Contract} → Between (d ∷ []) ds more → AreAlike cs ds → AreAlike all more
put_in Between.Empty e h j k = absurd cc
put_in {d = d} (Between.First {x = x} i) e h {ds = ds} j k =
    let p = first_of_one e in
    AreAlike.One (subst (λ y. Alike y d) (sym p.0) h) j (subst (λ xs. AreAlike xs ds) (Between-none i p.1) k)
put_in (Between.Second i) e h j (AreAlike.One f l k) =
    let m = Between-exchange j l in
    AreAlike.One f m.2 (put_in i e h m.1 k)

-- a contract that is alike to a given one, and the others
record Found (d : Contract) (rest es : List Contract) : Type 0 where
  pub one : Contract
  pub others : List Contract
  pub is : Alike d one
  pub place : Between (one ∷ []) others es
  pub are : AreAlike rest others

-- what is alike to a contract of the first list is found in the second
taken_out : {es : List Contract} {d : Contract} {one rest ds : List Contract} → Between one rest ds → one ≡ d ∷ [] → AreAlike ds es → Found d rest es
taken_out Between.Empty e k = absurd cc
taken_out (Between.First i) e (AreAlike.One {d = y} {rest = ys} h j k) =
    let p = first_of_one e in
    record {
      one = y;
      others = ys;
      is = subst (λ z. Alike z y) p.0 h;
      place = j;
      are = subst (λ zs. AreAlike zs ys) (sym (Between-none i p.1)) k;
    }
taken_out (Between.Second i) e (AreAlike.One h j k) =
    let f = taken_out i e k in
    let m = Between-exchange j f.place in
    record { one = f.one; others = m.0; is = f.is; place = m.2; are = AreAlike.One h m.1 f.are }

pub AreAlike-append : {es fs : List Contract} → AreAlike es fs → {cs ds : List Contract} → AreAlike cs ds → AreAlike (cs ++ es) (ds ++ fs)
AreAlike-append k AreAlike.None = k
AreAlike-append {fs = fs} k (AreAlike.One h i j) = AreAlike.One h (Between-onto i fs) (AreAlike-append k j)

pub AreAlike-one : {c d : Contract} → Alike c d → AreAlike (c ∷ []) (d ∷ [])
AreAlike-one h = AreAlike.One h (Between.First Between.Empty) AreAlike.None

both_ways : {c : Contract} → Alike c c → Alike c c × AreAlike (c ∷ []) (c ∷ [])
both_ways h = (h, AreAlike-one h)

alike_itself : (c : Contract) → Alike c c × AreAlike (parts c) (parts c)
alike_itself C.Success = both_ways Alike.Success
alike_itself C.Failure = both_ways Alike.Failure
alike_itself (C.Transmit b p c) = both_ways (Alike.Transmit (alike_itself c).0)
alike_itself (C.Plus a b) = both_ways (Alike.Plus (alike_itself a).0 (alike_itself b).0)
alike_itself (C.Par a b) = let h = AreAlike-append (alike_itself b).1 (alike_itself a).1 in (Alike.Par h, h)
alike_itself (C.Seq a b) = both_ways (Alike.Seq (alike_itself a).0 (alike_itself b).0)
alike_itself (C.App f args) = both_ways Alike.App

pub Alike-refl : (c : Contract) → Alike c c
Alike-refl c = (alike_itself c).0

pub AreAlike-itself : (c : Contract) → AreAlike (parts c) (parts c)
AreAlike-itself c = (alike_itself c).1

mutual
  pub Alike-sym : {c d : Contract} → Alike c d → Alike d c
  Alike-sym Alike.Success = Alike.Success
  Alike-sym Alike.Failure = Alike.Failure
  Alike-sym (Alike.Transmit h) = Alike.Transmit (Alike-sym h)
  Alike-sym (Alike.Plus h k) = Alike.Plus (Alike-sym h) (Alike-sym k)
  Alike-sym (Alike.Par h) = Alike.Par (AreAlike-sym h)
  Alike-sym (Alike.Seq h k) = Alike.Seq (Alike-sym h) (Alike-sym k)
  Alike-sym Alike.App = Alike.App

  pub AreAlike-sym : {cs ds : List Contract} → AreAlike cs ds → AreAlike ds cs
  AreAlike-sym AreAlike.None = AreAlike.None
  AreAlike-sym (AreAlike.One {cs = cs} h i k) = put_in i refl (Alike-sym h) (Between.First (Between-all cs)) (AreAlike-sym k)

mutual
  pub Alike-trans : {c d e : Contract} → Alike c d → Alike d e → Alike c e
  Alike-trans Alike.Success k = k
  Alike-trans Alike.Failure k = k
  Alike-trans (Alike.Transmit h) (Alike.Transmit k) = Alike.Transmit (Alike-trans h k)
  Alike-trans (Alike.Plus h i) (Alike.Plus j k) = Alike.Plus (Alike-trans h j) (Alike-trans i k)
  Alike-trans (Alike.Par h) (Alike.Par k) = Alike.Par (AreAlike-trans h k)
  Alike-trans (Alike.Seq h i) (Alike.Seq j k) = Alike.Seq (Alike-trans h j) (Alike-trans i k)
  Alike-trans Alike.App k = k

  pub AreAlike-trans : {cs ds es : List Contract} → AreAlike cs ds → AreAlike ds es → AreAlike cs es
  AreAlike-trans AreAlike.None k = k
  AreAlike-trans (AreAlike.One h i k) w = let f = taken_out i refl w in AreAlike.One (Alike-trans h f.is) f.place (AreAlike-trans k f.are)

-- of alike lists one contract may be taken out on both sides
pub AreAlike-rest : {x y : Contract} {xs rest ys : List Contract} → Alike x y → Between (y ∷ []) rest ys → AreAlike (x ∷ xs) ys → AreAlike xs rest
AreAlike-rest {y = y} {xs = xs} g j (AreAlike.One {d = d} h i k) = elim (two_taken d y refl refl i j) [
  | inl p ↦ subst (λ zs. AreAlike xs zs) p.1 k
  | inr p ↦
      let f = taken_out p.second refl (AreAlike-sym k) in
      put_in f.place refl (Alike-trans (Alike-sym f.is) (Alike-trans (Alike-sym g) h)) p.first (AreAlike-sym f.are)
]

-- ---- performed by the same traces

-- contracts side by side, as a list
pub data Together (book : Book) (env : Env) : List Contract → List Event → ℕ → Type 0 where
  None : Together book env [] [] 0
  One :
      {c : Contract} {cs : List Contract} {s₁ s₂ s : List Event} {n₁ n₂ n : ℕ} →
      Between s₁ s₂ s → n ≡ n₁ + n₂ → May book env c s₁ n₁ → Together book env cs s₂ n₂ → Together book env (c ∷ cs) s n

-- contracts of a list that is taken apart take the trace and the granted steps apart
record Split (book : Book) (env : Env) (cs ds : List Contract) (s : List Event) (n : ℕ) : Type 0 where
  pub front : List Event
  pub back : List Event
  pub front_count : ℕ
  pub back_count : ℕ
  pub events : Between front back s
  pub count : n ≡ front_count + back_count
  pub first : Together book env cs front front_count
  pub second : Together book env ds back back_count

module _ {book : Book} where
  moved : {env : Env} {cs : List Contract} {s s' : List Event} {n n' : ℕ} → s ≡ s' → n ≡ n' → Together book env cs s n → Together book env cs s' n'
  moved {env} {cs} {s} {s'} {n} {n'} e q t = subst (λ u. Together book env cs u n') e (subst (λ k. Together book env cs s k) q t)

  joined : {env : Env} {cs ds es : List Contract} → Between cs ds es → {s₁ s₂ s : List Event} {n₁ n₂ n : ℕ} → Between s₁ s₂ s → n ≡ n₁ + n₂ →
      Together book env cs s₁ n₁ → Together book env ds s₂ n₂ → Together book env es s n
  joined Between.Empty i q Together.None Together.None = moved (Between-none i refl) (omega arith) Together.None
  joined (Between.First b) i q (Together.One j r m t) u =
      let k = Between-regroup j i in
      Together.One k.2 (omega arith) m (joined b k.1 refl t u)
  joined (Between.Second b) i q t (Together.One j r m u) =
      let k = Between-exchange i j in
      Together.One k.2 (omega arith) m (joined b k.1 refl t u)

  split : {env : Env} {cs ds es : List Contract} → Between cs ds es → {s : List Event} {n : ℕ} → Together book env es s n → Split book env cs ds s n
  split Between.Empty Together.None = record {
    front = [];
    back = [];
    front_count = 0;
    back_count = 0;
    events = Between.Empty;
    count = omega arith;
    first = Together.None;
    second = Together.None;
  }
  split (Between.First b) (Together.One {n₁ = n} i q m t) =
      let k = split b t in
      let e = Between-group i k.events in
      record {
        front = e.0;
        back = k.back;
        front_count = n + k.front_count;
        back_count = k.back_count;
        events = e.2;
        count = omega (arith, k.count);
        first = Together.One e.1 refl m k.first;
        second = k.second;
      }
  split (Between.Second b) (Together.One {n₁ = n} i q m t) =
      let k = split b t in
      let e = Between-exchange i k.events in
      record {
        front = k.front;
        back = e.0;
        front_count = k.front_count;
        back_count = n + k.back_count;
        events = e.2;
        count = omega (arith, k.count);
        first = k.first;
        second = Together.One e.1 refl m k.second;
      }

  alone : {env : Env} {c : Contract} {s : List Event} {n : ℕ} → May book env c s n → Together book env (c ∷ []) s n
  alone {s = s} m = Together.One (Between-swap (Between-all s)) (omega arith) m Together.None

  only : {env : Env} {c : Contract} {s : List Event} {n : ℕ} → Together book env (c ∷ []) s n → May book env c s n
  only {env} {c} {s} {n} (Together.One {s₁ = r} {n₁ = k} i q m Together.None) =
      let e : k ≡ n = omega arith in
      subst (λ u. May book env c u n) (Between-none (Between-swap i) refl) (subst (λ l. May book env c r l) e m)

  pub May-parts : {env : Env} (c : Contract) {s : List Event} {n : ℕ} → May book env c s n → Together book env (parts c) s n
  May-parts (C.Par a b) (May.Beside i q m k) = joined (Between-append (parts a) (parts b)) i q (May-parts a m) (May-parts b k)
  May-parts C.Success m = alone m
  May-parts C.Failure m = alone m
  May-parts (C.Transmit b p c) m = alone m
  May-parts (C.Plus a b) m = alone m
  May-parts (C.Seq a b) m = alone m
  May-parts (C.App f args) m = alone m

  pub parts-May : {env : Env} (c : Contract) {s : List Event} {n : ℕ} → Together book env (parts c) s n → May book env c s n
  parts-May (C.Par a b) t =
      let k = split (Between-append (parts a) (parts b)) t in
      May.Beside k.events k.count (parts-May a k.first) (parts-May b k.second)
  parts-May C.Success t = only t
  parts-May C.Failure t = only t
  parts-May (C.Transmit b p c) t = only t
  parts-May (C.Plus a b) t = only t
  parts-May (C.Seq a b) t = only t
  parts-May (C.App f args) t = only t

  mutual
    pub Alike-performed : {c d : Contract} → Alike c d → {env : Env} {s : List Event} {n : ℕ} → May book env c s n → May book env d s n
    Alike-performed Alike.Success m = m
    Alike-performed Alike.Failure m = m
    Alike-performed (Alike.Transmit h) (May.Taken q m) = May.Taken q (Alike-performed h m)
    Alike-performed (Alike.Transmit h) (May.Granted m) = May.Granted (Alike-performed h m)
    Alike-performed (Alike.Plus h k) (May.Left m) = May.Left (Alike-performed h m)
    Alike-performed (Alike.Plus h k) (May.Right m) = May.Right (Alike-performed k m)
    Alike-performed (Alike.Par {a = a} {b = b} {c = c} {d = d} h) m = parts-May (C.Par c d) (AreAlike-performed h (May-parts (C.Par a b) m))
    Alike-performed (Alike.Seq h k) (May.Then q m l) = May.Then q (Alike-performed h m) (Alike-performed k l)
    Alike-performed (Alike.Seq h k) (May.ThenGranted q m l) = May.ThenGranted q (Alike-performed h m) (Alike-performed k l)
    Alike-performed Alike.App m = m

    AreAlike-performed : {cs ds : List Contract} → AreAlike cs ds → {env : Env} {s : List Event} {n : ℕ} → Together book env cs s n → Together book env ds s n
    AreAlike-performed AreAlike.None t = t
    AreAlike-performed (AreAlike.One h b k) (Together.One i q m t) = joined b i q (alone (Alike-performed h m)) (AreAlike-performed k t)
