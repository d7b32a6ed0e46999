-- Operands that links join: what is read of them, and what is right.
use Rattle.std.proofs.Common.{◌≡◌, ◌⊎◌, inl, inr, ℕ, zero, suc, pred, ◌+◌, ◌<◌, ◌≤◌, List, [], ◌∷◌, length, Some, None, Ok, Err, refl, sym, ap, ◌∙◌, arith}
use Rattle.poets_lex.specs.declared.token.Tok.{Tok}
use Rattle.poets_grammar.specs.Reading.{Reading, Link, ◌>>=◌, turn, more, joined}
use Rattle.poets_grammar.proofs.Readers.{SameFirst, at_token, at_end, fronts, Begins, Fuel, Outcome, IsReader, Then, followed, stays, takes, fewer, refuelled, weaker_reader}

-- what may join operands is one token
pub record IsLink {J : Type 0} (link : List Tok → Link J) : Type 0 where
  pub never_at_end : link [] ≡ None
  pub by_token : (t : Tok) → ((us : List Tok) → link (t ∷ us) ≡ None) ⊎ ((j : J) × ((us : List Tok) → link (t ∷ us) ≡ Some (j, us)))

-- R is what operands O with links between them are
pub record IsLevel {J A : Type 0} (link : List Tok → Link J) (join : J → A → A → A) (R O : List Tok → A → List Tok → Type 0) : Type 0 where
  pub one : (ts rest : List Tok) (a : A) → O ts a rest → R ts a rest
  pub more : {ts mid behind rest : List Tok} {a b : A} {j : J} → R ts a mid → link mid ≡ Some (j, behind) → O behind b rest → R ts (join j a b) rest

module _ {J A : Type 0} (link : List Tok → Link J) (join : J → A → A → A) (operand : List Tok → Reading A) where
  -- ---- what is right is read

  -- a link and an operand follow
  one_turn : (k : ℕ) (left right : A) (j : J) (ts behind rest : List Tok) → link ts ≡ Some (j, behind) → operand behind ≡ Ok (right, rest) →
      more link join operand (suc k) left ts ≡ more link join operand k (join j left right) rest
  unfolding more
  one_turn k left right j ts behind rest e q =
      ap (turn join operand (more link join operand k) left ts) e ∙ ap (λ x. x >>= λ b. more link join operand k (join j left b.0) b.1) q

  -- before the first turn
  joined_begins : (a : A) (ts rest : List Tok) → operand ts ≡ Ok (a, rest) → more link join operand (length rest + 1) a rest ≡ joined link join operand ts
  unfolding joined
  joined_begins a ts rest e = rw e refl

  pub joined_fails : (ts : List Tok) (left : ℕ) → operand ts ≡ Err left → joined link join operand ts ≡ Err left
  unfolding joined
  joined_fails ts left e = rw e refl

  -- reading the tokens is to go on with the value at the rest
  pub record Goes (f : List Tok → Reading A) (ts : List Tok) (a : A) (rest : List Tok) : Type 0 where
    pub turns : ℕ
    pub enough : length rest < turns
    pub same : f ts ≡ more link join operand turns a rest

  pub begins : (ts : List Tok) (a : A) (rest : List Tok) → operand ts ≡ Ok (a, rest) → Goes (joined link join operand) ts a rest
  begins ts a rest e = record { turns = length rest + 1; enough = omega arith; same = sym (joined_begins a ts rest e) }

  module _ (f : List Tok → Reading A) (ts : List Tok) where
    goes_at : (mid behind rest : List Tok) (a b : A) (j : J) (k : ℕ) → length mid < k → f ts ≡ more link join operand k a mid →
        link mid ≡ Some (j, behind) → operand behind ≡ Ok (b, rest) → length rest < length mid → Goes f ts (join j a b) rest
    goes_at mid behind rest a b j zero lt e m q l = absurd (omega arith)
    goes_at mid behind rest a b j (suc k) lt e m q l =
        record { turns = k; enough = omega arith; same = e ∙ one_turn k a b j mid behind rest m q }

  pub goes_on : {f : List Tok → Reading A} {ts mid behind rest : List Tok} {a b : A} {j : J} → Goes f ts a mid → link mid ≡ Some (j, behind) →
      operand behind ≡ Ok (b, rest) → length rest < length mid → Goes f ts (join j a b) rest
  goes_on {f} {ts} {mid} {behind} {rest} {a} {b} {j} g m q l = goes_at f ts mid behind rest a b j g.turns g.enough g.same m q l

  -- no link follows
  pub ends_at : (k : ℕ) (a : A) (rest : List Tok) → length rest < k → link rest ≡ None → more link join operand k a rest ≡ Ok (a, rest)
  unfolding more
  ends_at zero a rest lt e = absurd (omega arith)
  ends_at (suc k) a rest lt e = ap (turn join operand (more link join operand k) a rest) e

  -- a link follows, and no operand
  pub fails_at : (k : ℕ) (a : A) (j : J) (rest behind : List Tok) (left : ℕ) → length rest < k → link rest ≡ Some (j, behind) → operand behind ≡ Err left → more link join operand k a rest ≡ Err left
  unfolding more
  fails_at zero a j rest behind left lt e q = absurd (omega arith)
  fails_at (suc k) a j rest behind left lt e q =
      ap (turn join operand (more link join operand k) a rest) e ∙ ap (λ x. x >>= λ b. more link join operand k (join j a b.0) b.1) q

  pub ends : {f : List Tok → Reading A} {ts rest : List Tok} {a : A} → Goes f ts a rest → link rest ≡ None → f ts ≡ Ok (a, rest)
  ends {f} {ts} {rest} {a} g e = g.same ∙ ends_at g.turns a rest g.enough e

  -- a turn at a link
  turns_on : (k : ℕ) (a : A) (j : J) (ts behind : List Tok) → length ts < k → link ts ≡ Some (j, behind) → more link join operand k a ts ≡ (operand behind >>= λ b. more link join operand (pred k) (join j a b.0) b.1)
  unfolding more
  turns_on zero a j ts behind lt e = absurd (omega arith)
  turns_on (suc k) a j ts behind lt e = ap (turn join operand (more link join operand k) a ts) e

-- ---- what is read is right, and stops where nothing else can stand

-- fuel with a number of turns
abbrev with_turns : {I : Type 0} → Fuel I → Fuel (I × ℕ)
with_turns fuel = record { Lasts = λ p a. fuel.Lasts p.0 a × (a < p.1); less = λ p a b l h. (fuel.less p.0 a b l h.0, omega (arith, h.1)) }

-- the same after one turn
abbrev turned : {I : Type 0} → Fuel I → Fuel (I × ℕ)
turned fuel = record { Lasts = λ p a. fuel.Lasts p.0 a × (a < pred p.1); less = λ p a b l h. (fuel.less p.0 a b l h.0, omega (arith, h.1)) }

one_less : (k a : ℕ) → suc a < k → a < pred k
one_less zero a l = absurd (omega arith)
one_less (suc k) a l = omega arith

begins_more : {A : Type 0} (R : List Tok → A → List Tok → Type 0) (a : A) → Begins (λ rest. Unit {0}) (Then R R a) []
begins_more R a = record { more = []; value = a; is = λ rest stop us r. r }

module _ {I J A : Type 0} {fuel : Fuel I} {link : List Tok → Link J} {join : J → A → A → A} {R O : List Tok → A → List Tok → Type 0} {operand : I → List Tok → Reading A} {n : ℕ}
    (h : IsReader n fuel fronts O operand) (is_link : IsLink link) (level : IsLevel link join R O) where
  -- what is read after the operand a
  abbrev IsMore : ℕ → A → Type 0
  IsMore m a = IsReader m (with_turns fuel) fronts (Then R R a) (λ p us. more link join (operand p.0) p.1 a us)

  abbrev Going : A → List Tok → Type 0
  Going a ts = Outcome (with_turns fuel) fronts (Then R R a) (λ p us. more link join (operand p.0) p.1 a us) ts

  ends_more : (a : A) (ts : List Tok) → ((us : List Tok) → SameFirst ts us → link us ≡ None) → Going a ts
  ends_more a ts none = stays ts a (λ more stop us r. r) tt (λ p us s l. ends_at link join (operand p.0) p.1 a us l.1 (none us s))

  more_behind : (m : ℕ) → m ≤ n → ((a : A) → IsMore m a) → (a : A) (j : J) (t : Tok) → ((us : List Tok) → link (t ∷ us) ≡ Some (j, us)) →
      IsReader m (turned fuel) fronts (λ us y rest. Then R R a (t ∷ us) y rest) (λ p us. operand p.0 us >>= λ b. more link join (operand p.0) (pred p.1) (join j a b.0) b.1)
  more_behind m le again a j t some =
      followed (λ p b. more link join (operand p.0) (pred p.1) (join j a b.0) b.1)
      (refuelled (λ p us. p.0) (λ p us l. l.0) (λ p us l. refl) (fewer le h))
      (λ b. weaker_reader (λ us rest y q ws o vs r. q vs (level.more r (some ws) o))
      (refuelled (λ p us. (p.0, pred p.1)) (λ p us l. l) (λ p us l. refl) (again (join j a b))))

  at_turn : (m : ℕ) → m ≤ n → ((a : A) → IsMore m a) → (a : A) (t : Tok) (us : List Tok) → length us < m →
      ((vs : List Tok) → link (t ∷ vs) ≡ None) ⊎ ((j : J) × ((vs : List Tok) → link (t ∷ vs) ≡ Some (j, vs))) → Going a (t ∷ us)
  at_turn m le again a t us lt (inl none) = ends_more a (t ∷ us) (λ vs s. at_token (λ ws. link ws ≡ None) none s)
  at_turn m le again a t us lt (inr some) =
      takes t us (λ p vs l. turns_on link join (operand p.0) p.1 a some.0 (t ∷ vs) vs l.1 (some.1 vs))
      (λ p b l. (fuel.less p.0 b (suc b) (omega arith) l.0, one_less p.1 b l.1))
      ((more_behind m le again a some.0 t some.1).reads us lt)

  at_more : (m : ℕ) → m ≤ n → ((a : A) → IsMore m a) → (a : A) (ts : List Tok) → length ts < suc m → Going a ts
  at_more m le again a [] lt = ends_more a [] (λ us s. at_end (λ ws. link ws ≡ None) is_link.never_at_end s)
  at_more m le again a (t ∷ us) lt = at_turn m le again a t us (omega arith) (is_link.by_token t)

  more_reader : (m : ℕ) → m ≤ n → (a : A) → IsMore m a
  more_reader zero le a = record { reads = λ ts lt. absurd (omega arith); some = begins_more R a }
  more_reader (suc m) le a = record { reads = λ ts lt. at_more m (omega arith) (λ b. more_reader m (omega arith) b) a ts lt; some = begins_more R a }

  pub joined_reader : IsReader n fuel fronts R (λ i us. joined link join (operand i) us)
  unfolding joined
  joined_reader =
      followed (λ i left. more link join (operand i) (length left.1 + 1) left.0 left.1) h
      (λ a. weaker_reader (λ us rest y q ws o. q ws (level.one ws us a o))
      (refuelled (λ i us. (i, length us + 1)) (λ i us l. (l, omega arith)) (λ i us l. refl) (more_reader n (omega arith) a)))
