-- What a contract has where its parts have it, the builders of normal forms keep.
use Rattle.std.proofs.Common.{◌≡◌, List, [], refl, sym, subst, ◌⊎◌, inl, inr}
use Rattle.std.specs.List.{All}
use Rattle.std.proofs.lemmas.List.Elements.{All-nil, All-cons, All-append}
use Rattle.poets_value.specs.declared.value.Name.{Name}
use Rattle.poets_expr.specs.Expression.{Expression}
use Rattle.poets_syntax.specs.declared.term.Binders.{Binders}
use Rattle.poets_syntax.specs.Contract.{Contract, Success, Failure, Transmit, Plus, Par, Seq, App}
use Rattle.poets_syntax.specs.Plain.{Book}
use Rattle.poets_syntax.proofs.Replacing.{truth}
use Rattle.poets_meaning.specs.Marks.{Marks}
use Rattle.poets_calculus.specs.Normal.{alternatives, plus, par, seq, send, folded, params_in, normal}
use Rattle.poets_calculus.proofs.Choosing.{plus-keeps}
use Rattle.poets_calculus.proofs.Regrouping.{par-keeps}
use Rattle.poets_norm.specs.Choices.{regrouped}
pub use Rattle.poets_calculus.proofs.Choosing.{All-distinct, All-choice}

-- the builders of `||` and `;` give one of the two, or join both
pub par-failure : (a : Contract) → par a Failure ≡ Failure
par-failure Failure = refl
par-failure _ = refl

seq-failure : (a : Contract) → seq a Failure ≡ Failure
seq-failure Failure = refl
seq-failure _ = refl

-- a contract that is neither `Failure` nor `Success`
abbrev pub IsProper : Contract → Type 0
IsProper Failure = ⊥
IsProper Success = ⊥
IsProper _ = Unit {0}

pub proper : (c : Contract) → (c ≡ Failure) ⊎ (c ≡ Success) ⊎ IsProper c
proper Failure = inl refl
proper Success = inr (inl refl)
proper _ = inr (inr tt)

-- both are proper, and their parts are joined
abbrev pub AreJoined : Contract → Contract → Type 0
AreJoined a b = (par a b ≡ regrouped (Par a b)) × IsProper a × IsProper b

pub par_is : (a b : Contract) → (par a b ≡ a) ⊎ (par a b ≡ b) ⊎ AreJoined a b
par_is Failure b = inl refl
par_is a Failure = inr (inl (par-failure a))
par_is Success b = inr (inl refl)
par_is a Success = inl refl
par_is _ _ = inr (inr (refl, tt, tt))

pub par_joined : (a b : Contract) → IsProper a → IsProper b → par a b ≡ regrouped (Par a b)
par_joined Failure b h k = absurd h
par_joined a Failure h k = absurd k
par_joined Success b h k = absurd h
par_joined a Success h k = absurd k
par_joined _ _ h k = refl

pub seq_is : (a b : Contract) → (seq a b ≡ a) ⊎ (seq a b ≡ b) ⊎ (seq a b ≡ Seq a b)
seq_is Failure b = inl refl
seq_is a Failure = inr (inl (seq-failure a))
seq_is Success b = inr (inl refl)
seq_is a Success = inl refl
seq_is _ _ = inr (inr refl)

-- what both parts have, and the whole has where it joins them
by_part : (P : Contract → Type 0) {a b c d : Contract} → (c ≡ a) ⊎ (c ≡ b) ⊎ (c ≡ d) → P a → P b → (c ≡ d → P d) → P c
by_part P (inl e) h k both = subst P (sym e) h
by_part P (inr (inl e)) h k both = subst P (sym e) k
by_part P (inr (inr e)) h k both = subst P (sym e) (both e)

by_side : (P : Contract → Type 0) {a b : Contract} → (par a b ≡ a) ⊎ (par a b ≡ b) ⊎ AreJoined a b → P a → P b →
    (IsProper a → IsProper b → P (regrouped (Par a b))) → P (par a b)
by_side P (inl e) h k both = subst P (sym e) h
by_side P (inr (inl e)) h k both = subst P (sym e) k
by_side P (inr (inr j)) h k both = subst P (sym j.0) (both j.1 j.2)

-- a choice, `||` or `;` has it exactly where both parts have it, and `Failure` has it
pub record IsOfParts (P : Contract → Type 0) : Type 0 where
  pub failure : P Failure
  pub plus : (a b : Contract) → P a → P b → P (Plus a b)
  pub par : (a b : Contract) → P a → P b → P (Par a b)
  pub seq : (a b : Contract) → P a → P b → P (Seq a b)
  pub plus_parts : (a b : Contract) → P (Plus a b) → P a × P b
  pub par_parts : (a b : Contract) → P (Par a b) → P a × P b
  pub seq_parts : (a b : Contract) → P (Seq a b) → P a × P b

module _ (P : Contract → Type 0) (of : IsOfParts P) where
  pub kept_by_plus : (a b : Contract) → P a → P b → P (plus a b)
  kept_by_plus = plus-keeps P (record { failure = of.failure; plus = of.plus; plus_parts = of.plus_parts })

  pub kept_by_par : (a b : Contract) → P a → P b → P (par a b)
  kept_by_par a b h k = par-keeps P (record { join = of.par; sides = of.par_parts }) a b h k

  pub kept_by_seq : (a b : Contract) → P a → P b → P (seq a b)
  kept_by_seq a b h k = by_part P (seq_is a b) h k (λ e. of.seq a b h k)

-- and the normal form keeps it, where it looks at binders and predicates one by one and folding arguments keeps it
pub record IsKept (book : Book) (P : Contract → Type 0) : Type 0 where
  pub of_parts : IsOfParts P
  pub below : (b : Binders) (p : Expression) (c : Contract) → P (Transmit b p c) → P c
  pub before : (b : Binders) (p : Expression) (c d : Contract) → P (Transmit b p c) → P d → P (Transmit b p d)
  pub folded : (f : Name) (args : List Expression) → P (App f args) → P (App f (folded book.declared (params_in book f) args))

module _ (book : Book) (marks : Marks) (P : Contract → Type 0) (is : IsKept book P) where
  kept_by_send : (b : Binders) (p : Expression) (c : Contract) → P (Transmit b p c) → (d : Contract) → P d → P (send b p d)
  kept_by_send b p c h Failure k = is.of_parts.failure
  kept_by_send b p c h d k = is.before b p c d h k

  pub kept_by_normal : (c : Contract) → P c → P (normal book marks c)
  kept_by_normal Success h = h
  kept_by_normal Failure h = h
  kept_by_normal (Transmit b p c) h = kept_by_send b p c h (normal book marks c) (kept_by_normal c (is.below b p c h))
  kept_by_normal (Plus a b) h =
      let k = is.of_parts.plus_parts a b h in
      kept_by_plus P is.of_parts (normal book marks a) (normal book marks b) (kept_by_normal a k.0) (kept_by_normal b k.1)
  kept_by_normal (Par a b) h =
      let k = is.of_parts.par_parts a b h in
      kept_by_par P is.of_parts (normal book marks a) (normal book marks b) (kept_by_normal a k.0) (kept_by_normal b k.1)
  kept_by_normal (Seq a b) h =
      let k = is.of_parts.seq_parts a b h in
      kept_by_seq P is.of_parts (normal book marks a) (normal book marks b) (kept_by_normal a k.0) (kept_by_normal b k.1)
  kept_by_normal (App f args) h = elim (truth (marks.hopeful f)) [
    | inl e ↦ rw e (is.folded f args h)
    | inr e ↦ rw e is.of_parts.failure
  ]

-- what every contract is that the builders make, but for `Failure`
abbrev pub FailureOr : (Contract → Type 0) → Contract → Type 0
FailureOr Q c = (c ≡ Failure) ⊎ Q c

module _ (Q : Contract → Type 0) where
  -- each alternative has what `Failure` has not, where both parts of a choice have it
  pub FailureOr-alternatives : (Q Failure → ⊥) → ((a b : Contract) → Q (Plus a b) → Q a × Q b) →
      (c : Contract) → FailureOr Q c → All Q (alternatives c)
  FailureOr-alternatives none parts c (inl e) = rw e (All-nil Q)
  FailureOr-alternatives none parts c (inr h) = each c h
    where
      each : (c : Contract) → Q c → All Q (alternatives c)
      each Failure h = absurd (none h)
      each (Plus a b) h = All-append Q (alternatives a) (alternatives b) (each a (parts a b h).0) (each b (parts a b h).1)
      each c h = All-cons Q c [] h (All-nil Q)

  pub FailureOr-par : ((a b : Contract) → Q a → Q b → IsProper a → IsProper b → Q (regrouped (Par a b))) →
      (a b : Contract) → FailureOr Q a → FailureOr Q b → FailureOr Q (par a b)
  FailureOr-par both a b (inl e) k = inl (rw e refl)
  FailureOr-par both a b (inr h) (inl e) = inl (rw e (par-failure a))
  FailureOr-par both a b (inr h) (inr k) = inr (by_side Q (par_is a b) h k (both a b h k))

  pub FailureOr-seq : ((a b : Contract) → Q a → Q b → seq a b ≡ Seq a b → Q (Seq a b)) →
      (a b : Contract) → FailureOr Q a → FailureOr Q b → FailureOr Q (seq a b)
  FailureOr-seq both a b (inl e) k = inl (rw e refl)
  FailureOr-seq both a b (inr h) (inl e) = inl (rw e (seq-failure a))
  FailureOr-seq both a b (inr h) (inr k) = inr (by_part Q (seq_is a b) h k (both a b h k))

  pub FailureOr-send : ((b : Binders) (p : Expression) (c : Contract) → Q c → Q (send b p c)) →
      (b : Binders) (p : Expression) (c : Contract) → FailureOr Q c → FailureOr Q (send b p c)
  FailureOr-send one b p c (inl e) = inl (rw e refl)
  FailureOr-send one b p c (inr h) = inr (one b p c h)

-- what the builders keep, but for `Failure`, and the parts have
pub record IsKeptOrFailure (Q : Contract → Type 0) : Type 0 where
  pub plus : (a b : Contract) → FailureOr Q a → FailureOr Q b → FailureOr Q (plus a b)
  pub par : (a b : Contract) → FailureOr Q a → FailureOr Q b → FailureOr Q (par a b)
  pub seq : (a b : Contract) → FailureOr Q a → FailureOr Q b → FailureOr Q (seq a b)
  pub plus_parts : (a b : Contract) → Q (Plus a b) → Q a × Q b
  pub par_parts : (a b : Contract) → Q (Par a b) → Q a × Q b
  pub seq_parts : (a b : Contract) → Q (Seq a b) → Q a × Q b
