-- Classes are apart: contracts of two are never alike.
use Rattle.std.proofs.Common.{◌≡◌, ℕ, ◌+◌, ◌<◌, Bool, true, false, nat_eq, arith, List, [], ◌∷◌, map, refl, sym, ◌∙◌, ap, ap₂, subst, eqb-true}
use Rattle.std.specs.List.{AllByRecursion}
use Rattle.poets_syntax.specs.Contract.{Contract}
use Rattle.poets_syntax.specs.Contract as C
use Rattle.poets_meaning.specs.Between.{Between}
use Rattle.poets_calculus.proofs.Multisets.{Alike-refl}
use Rattle.poets_cons.specs.Row.{Transmit, Plus, Par, Seq}
use Rattle.poets_calculus.specs.Alike.{Alike, AreAlike, parts}
use Rattle.poets_cons.specs.code.Classes.{Shape, Single, Parallel, contract_of_shape, IsShapeAt}
use Rattle.poets_cons.specs.code.Bags.{one_if, times, AreSame}
use Rattle.poets_cons.proofs.Bags.{times_cons, times_first}
use Rattle.poets_cons.proofs.Shapes.{side_parts, singles_below, singles_within, of_success, of_failure, of_transmit, of_plus, of_seq, of_app}

-- an interleaving with nothing
nothing_between : {xs ys zs : List Contract} → Between xs ys zs → xs ≡ [] → zs ≡ ys
nothing_between Between.Empty e = refl
nothing_between (Between.First b) e = absurd cc
nothing_between (Between.Second {x = x} b) e = ap (λ l. x ∷ l) (nothing_between b e)

-- the numbers are below another
abbrev AllBelow : ℕ → List ℕ → Type 0
AllBelow n ks = AllByRecursion (λ k. k < n) ks

module _ (n : ℕ) (part : ℕ → Contract) where
  -- one of the numbers, taken out
  record Taken (d : Contract) (rest : List Contract) (ls : List ℕ) : Type 0 where
    item : ℕ
    others : List ℕ
    item_below : item < n
    others_below : AllBelow n others
    is : d ≡ part item
    rest_is : rest ≡ map part others
    counts : (v : ℕ) → times v ls ≡ one_if (nat_eq v item) + times v others

  taken : {xs rest ds : List Contract} → Between xs rest ds → (d : Contract) → xs ≡ d ∷ [] → (ls : List ℕ) → AllBelow n ls → ds ≡ map part ls → Taken d rest ls
  taken Between.Empty d e ls bs f = absurd cc
  taken (Between.First {x = x} {s₁ = s₁} {s₂ = s₂} {s = s} b) d e [] bs f = absurd cc
  taken (Between.First {x = x} {s₁ = s₁} {s₂ = s₂} {s = s} b) d e (l ∷ ls) bs f =
      let first : x ≡ d = cc in
      let none : s₁ ≡ [] = cc in
      let here : x ≡ part l = cc in
      let after : s ≡ map part ls = cc in
      record {
        item = l;
        others = ls;
        item_below = bs.0;
        others_below = bs.1;
        is = sym first ∙ here;
        rest_is = sym (nothing_between b none) ∙ after;
        counts = λ v. times_cons v l ls;
      }
  taken (Between.Second {x = x} {s₁ = s₁} {s₂ = s₂} {s = s} b) d e [] bs f = absurd cc
  taken (Between.Second {x = x} {s₁ = s₁} {s₂ = s₂} {s = s} b) d e (l ∷ ls) bs f =
      let here : x ≡ part l = cc in
      let after : s ≡ map part ls = cc in
      let t = taken b d e ls bs.1 after in
      record {
        item = t.item;
        others = l ∷ t.others;
        item_below = t.item_below;
        others_below = (bs.0, t.others_below);
        is = t.is;
        rest_is = ap₂ (λ z zs. z ∷ zs) here t.rest_is;
        counts = λ v. let p = times_cons v l ls in let q = times_cons v l t.others in omega (arith, p, q, t.counts v);
      }

-- the shapes are one, but for the order of parallel parts
abbrev pub AreOne : Shape → Shape → Type 0
AreOne (Single r) (Single s) = r ≡ s
AreOne (Parallel ks) (Parallel ls) = AreSame ks ls
AreOne _ _ = ⊥

one_itself : (s : Shape) → AreOne s s
one_itself (Single r) = refl
one_itself (Parallel ks) = λ n. refl

module _ (n : ℕ) (part : ℕ → Contract) (shape : ℕ → Shape)
    (stands : (i : ℕ) → i < n → part i ≡ contract_of_shape part (shape i))
    (right : (i : ℕ) → i < n → IsShapeAt shape i (shape i))
    (one_class : (i j : ℕ) → i < n → j < n → AreOne (shape i) (shape j) → i ≡ j) where
  one_shape : (i j : ℕ) → i < n → j < n → shape i ≡ shape j → i ≡ j
  one_shape i j l m e = one_class i j l m (subst (AreOne (shape i)) e (one_itself (shape i)))

  -- a class whose contract is a `||`
  record OfPar (i : ℕ) (a b : Contract) : Type 0 where
    classes : List ℕ
    is : shape i ≡ Parallel classes
    below : AllBelow n classes
    are_parts : parts (C.Par a b) ≡ map part classes

  of_par : (i : ℕ) → i < n → (a b : Contract) → C.Par a b ≡ part i → OfPar i a b
  of_par i l a b e = by (shape i) refl (right i l)
    where
      by : (s : Shape) → shape i ≡ s → IsShapeAt shape i s → OfPar i a b
      by (Single (Par x y)) f h = absurd h.0
      by (Parallel ks) f h =
          let all = singles_within shape shape i n ks (omega arith) (λ k m. refl) h.1 in
          record {
            classes = ks;
            is = f;
            below = singles_below shape n ks all;
            are_parts = ap parts (e ∙ stands i l ∙ ap (contract_of_shape part) f) ∙ side_parts n part shape stands ks all (omega (arith, h.0));
          }
      by s f h = let g : C.Par a b ≡ contract_of_shape part s = e ∙ stands i l ∙ ap (contract_of_shape part) f in absurd cc

  mutual
    one : {c d : Contract} → Alike c d → (i j : ℕ) → i < n → j < n → c ≡ part i → d ≡ part j → i ≡ j
    one Alike.Success i j l m e f =
        one_shape i j l m (of_success part shape i (shape i) (right i l) (sym (stands i l) ∙ sym e)
        ∙ sym (of_success part shape j (shape j) (right j m) (sym (stands j m) ∙ sym f)))
    one Alike.Failure i j l m e f =
        one_shape i j l m (of_failure part shape i (shape i) (right i l) (sym (stands i l) ∙ sym e)
        ∙ sym (of_failure part shape j (shape j) (right j m) (sym (stands j m) ∙ sym f)))
    one (Alike.Transmit {b = b} {p = p} {c = c} {d = d} h) i j l m e f =
        let x = of_transmit part shape i (shape i) (right i l) b p c (sym (stands i l) ∙ sym e) in
        let y = of_transmit part shape j (shape j) (right j m) b p d (sym (stands j m) ∙ sym f) in
        let same = one h x.0 y.0 (omega (arith, x.1, l)) (omega (arith, y.1, m)) x.3 y.3 in
        one_shape i j l m (x.2 ∙ ap (λ k. Single (Transmit b p k)) same ∙ sym y.2)
    one (Alike.Plus {a = a} {b = b} {c = c} {d = d} h k) i j l m e f =
        let x = of_plus part shape i (shape i) (right i l) a b (sym (stands i l) ∙ sym e) in
        let y = of_plus part shape j (shape j) (right j m) c d (sym (stands j m) ∙ sym f) in
        let first = one h x.0 y.0 (omega (arith, x.2, l)) (omega (arith, y.2, m)) x.5 y.5 in
        let second = one k x.1 y.1 (omega (arith, x.3, l)) (omega (arith, y.3, m)) x.6 y.6 in
        one_shape i j l m (x.4 ∙ ap₂ (λ v w. Single (Plus v w)) first second ∙ sym y.4)
    one (Alike.Par {a = a} {b = b} {c = c} {d = d} h) i j l m e f =
        let x = of_par i l a b e in
        let y = of_par j m c d f in
        let same = all_one h x.classes y.classes x.below y.below x.are_parts y.are_parts in
        one_class i j l m (subst (AreOne (shape i)) (sym y.is) (subst (λ s. AreOne s (Parallel y.classes)) (sym x.is) same))
    one (Alike.Seq {a = a} {b = b} {c = c} {d = d} h k) i j l m e f =
        let x = of_seq part shape i (shape i) (right i l) a b (sym (stands i l) ∙ sym e) in
        let y = of_seq part shape j (shape j) (right j m) c d (sym (stands j m) ∙ sym f) in
        let first = one h x.0 y.0 (omega (arith, x.2, l)) (omega (arith, y.2, m)) x.5 y.5 in
        let second = one k x.1 y.1 (omega (arith, x.3, l)) (omega (arith, y.3, m)) x.6 y.6 in
        one_shape i j l m (x.4 ∙ ap₂ (λ v w. Single (Seq v w)) first second ∙ sym y.4)
    one (Alike.App {f = g} {args = args}) i j l m e f =
        one_shape i j l m (of_app part shape i (shape i) (right i l) g args (sym (stands i l) ∙ sym e)
        ∙ sym (of_app part shape j (shape j) (right j m) g args (sym (stands j m) ∙ sym f)))

    all_one : {cs ds : List Contract} → AreAlike cs ds → (ks ls : List ℕ) → AllBelow n ks → AllBelow n ls → cs ≡ map part ks → ds ≡ map part ls →
        AreSame ks ls
    all_one AreAlike.None [] [] p q e f v = refl
    all_one AreAlike.None [] (k ∷ ls) p q e f v = absurd cc
    all_one AreAlike.None (k ∷ ks) ls p q e f v = absurd cc
    all_one (AreAlike.One h b r) [] ls p q e f v = absurd cc
    all_one (AreAlike.One {c = c} {d = d} {cs = cs} {ds = ds} {rest = rest} h b r) (k ∷ ks) ls p q e f v =
        let first : c ≡ part k = cc in
        let others : cs ≡ map part ks = cc in
        let t = taken n part b d refl ls q f in
        let same = one h k t.item p.0 t.item_below first t.is in
        let more = all_one r ks t.others p.1 t.others_below others t.rest_is v in
        let here = ap (λ j. one_if (nat_eq v j)) same in
        let counted = times_cons v k ks in
        omega (arith, t.counts v, more, here, counted)

  pub classes_apart : (i j : ℕ) → i < n → j < n → Alike (part i) (part j) → i ≡ j
  classes_apart i j l m h = one h i j l m refl refl

-- a number that stands in a list, taken out
record Split (k : ℕ) (ls : List ℕ) : Type 0 where
  others : List ℕ
  between : (part : ℕ → Contract) → Between (part k ∷ []) (map part others) (map part ls)
  counts : (v : ℕ) → times v ls ≡ one_if (nat_eq v k) + times v others

beside_nothing : (xs : List Contract) → Between [] xs xs
beside_nothing [] = Between.Empty
beside_nothing (x ∷ xs) = Between.Second (beside_nothing xs)

split : (k : ℕ) (ls : List ℕ) → 0 < times k ls → Split k ls
split k [] h = absurd (omega arith)
split k (l ∷ ls) h = by (nat_eq k l) refl (split k ls)
  where
    by : (b : Bool) → nat_eq k l ≡ b → (0 < times k ls → Split k ls) → Split k (l ∷ ls)
    by true e rest =
        let same : k ≡ l = eqb-true k l e in
        record {
          others = ls;
          between = λ part. subst (λ j. Between (part k ∷ []) (map part ls) (part j ∷ map part ls)) same (Between.First (beside_nothing (map part ls)));
          counts = λ v. times_cons v l ls ∙ ap (λ j. one_if (nat_eq v j) + times v ls) (sym same);
        }
    by false e rest =
        let p = times_cons k l ls in
        let gone = ap one_if e in
        let t = rest (omega (arith, h, p, gone)) in
        record {
          others = l ∷ t.others;
          between = λ part. Between.Second (t.between part);
          counts = λ v. let x = times_cons v l ls in let y = times_cons v l t.others in omega (arith, x, y, t.counts v);
        }

no_times : (ls : List ℕ) → ((v : ℕ) → times v ls ≡ 0) → ls ≡ []
no_times [] h = refl
no_times (l ∷ ls) h = absurd (omega (arith, h l, times_first l ls))

-- contracts of classes are alike to those of the same classes in another order
pub in_any_order : (part : ℕ → Contract) (ks ls : List ℕ) → AreSame ks ls → AreAlike (map part ks) (map part ls)
in_any_order part [] ls e = subst (λ zs. AreAlike [] (map part zs)) (sym (no_times ls (λ v. sym (e v)))) AreAlike.None
in_any_order part (k ∷ ks) ls e =
    let some = times_first k ks in
    let h = e k in
    let t = split k ls (omega (arith, h, some)) in
    let rest = in_any_order part ks t.others (λ v. let g = e v in let p = times_cons v k ks in let q = t.counts v in omega (arith, g, p, q)) in
    AreAlike.One (Alike-refl (part k)) (t.between part) rest
