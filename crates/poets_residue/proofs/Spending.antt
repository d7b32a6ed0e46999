-- What derivations ask, by the contracts that they begin.
use Rattle.std.proofs.Common.{◌≡◌, ℕ, ◌+◌, ◌≤◌, ◌<◌, nat_eq, cond, arith, List, [], ◌∷◌, ◌++◌, length, refl, sym, ◌∙◌, ap, subst, Option, Some, None, inl, inr, ◌⊎◌, Result, Ok, Err, IfOk, IsErr}
use Rattle.std.specs.List.{IsDistinct}
use Rattle.poets_value.proofs.DistinctSums.{sum_by-le_unique_keys}
use Rattle.poets_cons.specs.code.SameRows.{contract_laws}
use Rattle.poets_syntax.proofs.SameContracts.{contract_one}
use Rattle.std.proofs.lemmas.List.Sums.{sum_by-cons, sum_by-append}
use borrow.Author.Tests.{eq-eqb}
use Rattle.poets_syntax.specs.Contract.{Contract}
use Rattle.poets_syntax.specs.Same.{same_contract}
use Rattle.poets_syntax.specs.Plain.{Book}
use Rattle.poets_syntax.proofs.Replacing.{truth}
use Rattle.poets_meaning.specs.Marks.{Marks}
use Rattle.poets_cons.specs.declared.node.Node.{Node}
use Rattle.std.proofs.lemmas.List.{length-map}
use Rattle.poets_cons.specs.Row.{row_of}
use Rattle.poets_cons.specs.Table.{contract_at, rows_of, IsTable, Extends}
use Rattle.poets_cons.proofs.Places.{one_place}
use Rattle.poets_cons.proofs.Reaching.{one_ok}
use Rattle.poets_cons.proofs.Standing.{contract_at-later}
use Rattle.poets_residue.specs.Once.{ready, asked_of, once, IsAmong}
use Rattle.poets_residue.specs.code.Spent.{IsNoted, IsNotedBut, IsSpent}
use Rattle.poets_residue.proofs.Ready.{among_one, among_two, distinct_more, distinct_both, ReadyIn}

-- what holds in any case
pub always : {A E P : Type 0} (r : Result A E) → P → IfOk r (λ _. P)
always (Ok p) h = h
always (Err e) h = tt

-- nothing is asked of a failure
pub failed : {A E : Type 0} (r : Result A E) → IsErr r → (P : A → Type 0) → IfOk r P
failed (Ok p) w P = absurd cc
failed (Err e) w P = tt

no_two : IsDistinct same_contract []
unfolding IsDistinct
no_two = tt

module _ (book : Book) (marks : Marks) where
  module _ (c : Contract) (Before After : Contract → Type 0) (x : ℕ) {E : Type 0} where
    -- nothing is asked
    pub none_spent : (y : ℕ) → y ≤ x → (r : Result ℕ E) → IfOk r (λ _. (d : Contract) → Before d → After d) → IsSpent book marks c Before After x y r
    none_spent y l r k = record {
      begun = [];
      different = no_two;
      standing = λ d m. absurd cc;
      fresh = λ d m. absurd cc;
      noted = none_noted r;
      kept = k;
      asks = omega (arith, l);
    }
      where
        none_noted : (r : Result ℕ E) → IfOk r (λ _. (d : Contract) → IsAmong d [] → After d)
        none_noted (Ok p) = λ d m. absurd cc
        none_noted (Err e) = tt

    -- one contract pays
    pub one_spent : (y : ℕ) → y ≤ x + asked_of book c → IsAmong c (ready book marks c) → (Before c → ⊥) → (r : Result ℕ E) →
        IfOk r (λ _. (d : Contract) → Before d → After d) → IfOk r (λ _. After c) → IsSpent book marks c Before After x y r
    one_spent y l m n r k s = record {
      begun = c ∷ [];
      different = distinct_more c [] (λ e. absurd cc) no_two;
      standing = λ d h. alone d h (λ z. IsAmong z (ready book marks c)) m;
      fresh = λ d h. alone d h (λ z. Before z → ⊥) n;
      noted = one_noted r s;
      kept = k;
      asks = omega (arith, l, sum_by-cons (asked_of book) c []);
    }
      where
        alone : (d : Contract) → IsAmong d (c ∷ []) → (P : Contract → Type 0) → P c → P d
        alone d h P p = elim (among_one d c [] h) [ inl e ↦ subst P (sym e) p | inr k ↦ absurd cc ]

        one_noted : (r : Result ℕ E) → IfOk r (λ _. After c) → IfOk r (λ _. (d : Contract) → IsAmong d (c ∷ []) → After d)
        one_noted (Ok p) s = λ d h. alone d h After s
        one_noted (Err e) s = tt

  -- what a part asked before it failed
  pub part_failed : (a c : Contract) (Before Mid After : Contract → Type 0) (x y : ℕ) {A B E F : Type 0} (r : Result A E) (q : Result B F) → IsErr q →
      ReadyIn book marks a c → IsSpent book marks a Before Mid x y r → IsSpent book marks c Before After x y q
  part_failed a c Before Mid After x y r q w m s = record {
    begun = s.begun;
    different = s.different;
    standing = λ d h. m d (s.standing d h);
    fresh = s.fresh;
    noted = failed q w (λ _. (d : Contract) → IsAmong d s.begun → After d);
    kept = failed q w (λ _. (d : Contract) → Before d → After d);
    asks = s.asks;
  }

  -- what one part asked, where a result was made of it
  pub part_spent : (a c : Contract) (Before Mid After : Contract → Type 0) (x y : ℕ) {A B E : Type 0} (p : A) (r : Result B E) →
      ReadyIn book marks a c → IfOk r (λ _. (d : Contract) → Mid d → After d) → IsSpent book marks a Before Mid x y {E = E} (Ok p) →
      IsSpent book marks c Before After x y r
  part_spent a c Before Mid After x y p r m k s = record {
    begun = s.begun;
    different = s.different;
    standing = λ d h. m d (s.standing d h);
    fresh = s.fresh;
    noted = one_ok (λ _. (d : Contract) → Mid d → After d) (λ _. (d : Contract) → IsAmong d s.begun → After d) r (λ q f d h. f d (s.noted d h)) k;
    kept = one_ok (λ _. (d : Contract) → Mid d → After d) (λ _. (d : Contract) → Before d → After d) r (λ q f d h. f d (s.kept d h)) k;
    asks = s.asks;
  }

  -- what one contract asked, told of another, before whose notes there were fewer and after whose there are more
  module _ (a c : Contract) (Before Before' After After' : Contract → Type 0) where
    pub same_spent : (x y : ℕ) {E : Type 0} (r : Result ℕ E) → ReadyIn book marks a c → ((d : Contract) → Before d → Before' d) →
        ((d : Contract) → After' d → After d) → IsSpent book marks a Before' After' x y r → IsSpent book marks c Before After x y r
    same_spent x y r m f g s = record {
      begun = s.begun;
      different = s.different;
      standing = λ d h. m d (s.standing d h);
      fresh = λ d h k. s.fresh d h (f d k);
      noted = one_ok (λ _. (d : Contract) → IsAmong d s.begun → After' d) (λ _. (d : Contract) → IsAmong d s.begun → After d) r (λ q n d h. g d (n d h)) s.noted;
      kept = one_ok (λ _. (d : Contract) → Before' d → After' d) (λ _. (d : Contract) → Before d → After d) r (λ q n d h. g d (n d (f d h))) s.kept;
      asks = s.asks;
    }

  module _ (a b c : Contract) (Before Mid : Contract → Type 0) (x y z : ℕ) {E : Type 0} (p : ℕ) (m : ReadyIn book marks a c) (n : ReadyIn book marks b c)
      (s : IsSpent book marks a Before Mid x y {E = E} (Ok p)) where
    -- what two parts asked; what the first began is noted when the second begins
    pub two_spent : (After : Contract → Type 0) (r : Result ℕ E) → IsSpent book marks b Mid After y z r → IsSpent book marks c Before After x z r
    two_spent After r t = record {
      begun = s.begun ++ t.begun;
      different = distinct_both s.begun t.begun s.different t.different (λ d h k. t.fresh d k (s.noted d h));
      standing = λ d h. elim (among_two d s.begun t.begun h) [ inl k ↦ m d (s.standing d k) | inr k ↦ n d (t.standing d k) ];
      fresh = λ d h w. elim (among_two d s.begun t.begun h) [ inl k ↦ s.fresh d k w | inr k ↦ t.fresh d k (s.kept d w) ];
      noted = both r t.noted t.kept;
      kept = over r t.kept;
      asks = omega (arith, s.asks, t.asks, sum_by-append (asked_of book) s.begun t.begun);
    }
      where
        both : (r : Result ℕ E) → IfOk r (λ _. (d : Contract) → IsAmong d t.begun → After d) → IfOk r (λ _. (d : Contract) → Mid d → After d) →
            IfOk r (λ _. (d : Contract) → IsAmong d (s.begun ++ t.begun) → After d)
        both (Ok q) f g = λ d h. elim (among_two d s.begun t.begun h) [ inl k ↦ g d (s.noted d k) | inr k ↦ f d k ]
        both (Err e) f g = tt

        over : (r : Result ℕ E) → IfOk r (λ _. (d : Contract) → Mid d → After d) → IfOk r (λ _. (d : Contract) → Before d → After d)
        over (Ok q) g = λ d h. g d (s.kept d h)
        over (Err e) g = tt

  -- what an application asked, with the body that it is unfolded to
  module _ (a c : Contract) (Before After : Contract → Type 0) where
    pub body_spent : (x y z : ℕ) {E : Type 0} (r : Result ℕ E) → y ≤ x + asked_of book c →
        IsAmong c (ready book marks c) → (IsAmong c (ready book marks a) → ⊥) → (Before c → ⊥) → ReadyIn book marks a c →
        IsSpent book marks a Before After y z r → IsSpent book marks c Before (λ d. (d ≡ c) ⊎ After d) x z r
    body_spent x y z r l here apart new m s = record {
      begun = c ∷ s.begun;
      different = distinct_more c s.begun (λ h. apart (s.standing c h)) s.different;
      standing = λ d h. elim (among_one d c s.begun h) [
        | inl e ↦ subst (λ k. IsAmong k (ready book marks c)) (sym e) here
        | inr k ↦ m d (s.standing d k)
      ];
      fresh = λ d h. elim (among_one d c s.begun h) [ inl e ↦ subst (λ k. Before k → ⊥) (sym e) new | inr k ↦ s.fresh d k ];
      noted = either r s.noted;
      kept = further r s.kept;
      asks = omega (arith, l, s.asks, sum_by-cons (asked_of book) c s.begun);
    }
      where
        either : {E : Type 0} (r : Result ℕ E) → IfOk r (λ _. (d : Contract) → IsAmong d s.begun → After d) →
            IfOk r (λ _. (d : Contract) → IsAmong d (c ∷ s.begun) → (d ≡ c) ⊎ After d)
        either (Ok q) f = λ d h. elim (among_one d c s.begun h) [ inl e ↦ inl e | inr k ↦ inr (f d k) ]
        either (Err e) f = tt

        further : {E : Type 0} (r : Result ℕ E) → IfOk r (λ _. (d : Contract) → Before d → After d) → IfOk r (λ _. (d : Contract) → Before d → (d ≡ c) ⊎ After d)
        further (Ok q) f = λ d h. inr (f d h)
        further (Err e) f = tt

  -- in all no more than once
  pub spent_once : (c : Contract) (Before After : Contract → Type 0) (x y : ℕ) {E : Type 0} (r : Result ℕ E) → IsSpent book marks c Before After x y r →
      y ≤ x + once book marks c
  spent_once c Before After x y r s =
      omega (arith, s.asks, sum_by-le_unique_keys contract_laws (asked_of book) (λ d k q. ap (asked_of book) (contract_one d k q)) s.begun (ready book marks c) s.different s.standing)

-- notes stay while rows are added
pub noted_later : (old new : List Node) → Extends old new → (memo : ℕ → Option ℕ) → ((k v : ℕ) → memo k ≡ Some v → k < length old) → (d : Contract) →
    IsNoted old memo d → IsNoted new memo d
noted_later old new x memo within d h =
    (h.0, h.1, h.2, contract_at-later old new x h.0 (within h.0 h.1 h.2) ∙ h.3)

-- a row that is not noted has a contract that is not
pub new_contract : (nodes : List Node) → IsTable nodes → (memo : ℕ → Option ℕ) → ((k v : ℕ) → memo k ≡ Some v → k < length nodes) → (place : ℕ) → place < length nodes →
    memo place ≡ None → IsNoted nodes memo (contract_at nodes place) → ⊥
new_contract nodes table memo within place l none h =
    let rows = rows_of nodes in
    let same : h.0 ≡ place = one_place rows table.earlier table.distinct h.0 place (omega (arith, within h.0 h.1 h.2, length-map nodes row_of)) (omega (arith, l, length-map nodes row_of)) h.3 in
    let found : memo place ≡ Some h.1 = ap memo (sym same) ∙ h.2 in
    absurd cc

-- a row that is noted beside the others
pub noted_besides : (old new : List Node) → Extends old new → (place next : ℕ) → place < length old → (memo more : ℕ → Option ℕ) →
    ((k : ℕ) → more k ≡ cond (nat_eq place k) (Some next) (memo k)) → (d : Contract) → IsNotedBut (contract_at old place) new memo d → IsNoted new more d
noted_besides old new x place next l memo more m d (inl e) =
    (place, next, m place ∙ ap (λ b. cond b (Some next) (memo place)) (eq-eqb place place refl), contract_at-later old new x place l ∙ sym e)
noted_besides old new x place next l memo more m d (inr h) = elim (truth (nat_eq place h.0)) [
  | inl t ↦ (h.0, next, m h.0 ∙ ap (λ b. cond b (Some next) (memo h.0)) t, h.3)
  | inr t ↦ (h.0, h.1, m h.0 ∙ ap (λ b. cond b (Some next) (memo h.0)) t ∙ h.2, h.3)
]

-- what was asked for a row, once that is noted
module _ (book : Book) (marks : Marks) (old new : List Node) (grows : Extends old new) (place next : ℕ) (l : place < length old) where
  pub noted_spent : (before mid more : ℕ → Option ℕ) (x y : ℕ) {E : Type 0} (r : Result ℕ E) →
      IsSpent book marks (contract_at old place) (IsNoted old before) (IsNotedBut (contract_at old place) new mid)
      x y {E = E} (Ok next) → IfOk r (λ _. (k : ℕ) → more k ≡ cond (nat_eq place k) (Some next) (mid k)) →
      IsSpent book marks (contract_at old place) (IsNoted old before) (IsNoted new more) x y r
  noted_spent before mid more x y r s m =
      let here = contract_at old place in
      let After = IsNotedBut here new mid in
      part_spent book marks here here (IsNoted old before) After (IsNoted new more) x y next r (λ d h. h)
      (one_ok (λ _. (k : ℕ) → more k ≡ cond (nat_eq place k) (Some next) (mid k))
      (λ _. (d : Contract) → After d → IsNoted new more d) r
      (λ p n d h. noted_besides old new grows place next l mid more n d h) m) s
