-- What the five builders of normal forms mean.
use Rattle.std.proofs.Common.{◌≡◌, ℕ, List, refl, sym, ◌∙◌, subst, inl, inr, arith, append-nil}
use Rattle.poets_value.specs.declared.event.Event.{Event}
use Rattle.poets_expr.specs.Env.{Env}
use Rattle.poets_expr.specs.Expression.{Expression}
use Rattle.poets_syntax.specs.declared.term.Binders.{Binders}
use Rattle.poets_syntax.specs.Contract.{Contract, Success, Failure, Transmit, Plus, Par, Seq}
use Rattle.poets_syntax.specs.Plain.{Book}
use Rattle.poets_meaning.specs.May.{May}
use Rattle.poets_meaning.proofs.Inversions.{of_plus}
use Rattle.poets_meaning.proofs.Lists.{Between-none, Between-swap, Between-all}
use Rattle.poets_calculus.proofs.Multisets.{Alike-sym, Alike-performed}
use Rattle.poets_calculus.proofs.Regrouping.{Alike-regrouped}
use Rattle.poets_calculus.specs.Normal.{plus, par, seq, send}
use Rattle.poets_norm.proofs.SomePart as SomePart
use Rattle.poets_norm.proofs.SomePart.{IsOfSomePart}

module _ {book : Book} {env : Env} {s : List Event} {n : ℕ} where
  May-of_some_part : IsOfSomePart (λ c. May book env c s n)
  May-of_some_part = record {
    none = λ m. elim m [ ];
    left = λ a b m. May.Left m;
    right = λ a b m. May.Right m;
    parts = λ a b m. of_plus m inl inr;
    alike = λ a b h m. Alike-performed h m;
  }

  pub plus_in : (a b : Contract) → May book env (Plus a b) s n → May book env (plus a b) s n
  plus_in = SomePart.plus_in (λ c. May book env c s n) May-of_some_part

  pub plus_out : (a b : Contract) → May book env (plus a b) s n → May book env (Plus a b) s n
  plus_out = SomePart.plus_out (λ c. May book env c s n) May-of_some_part

module _ {book : Book} {env : Env} where
  moved : {c : Contract} {s s' : List Event} {n n' : ℕ} → s ≡ s' → n ≡ n' → May book env c s n → May book env c s' n'
  moved {c} {s} {s'} {n} {n'} e q m = subst (λ u. May book env c u n') e (subst (λ k. May book env c s k) q m)

  pub par_in : {s : List Event} {n : ℕ} (a b : Contract) → May book env (Par a b) s n → May book env (par a b) s n
  par_in Failure b (May.Beside i q m₁ m₂) = elim m₁ [ ]
  par_in a Failure (May.Beside i q m₁ m₂) = elim m₂ [ ]
  par_in Success b (May.Beside i q May.Done m) = moved (Between-none i refl) (omega arith) m
  par_in a Success (May.Beside i q m May.Done) = moved (Between-none (Between-swap i) refl) (omega arith) m
  par_in a b m = Alike-performed (Alike-regrouped (Par a b)) m

  pub par_out : {s : List Event} {n : ℕ} (a b : Contract) → May book env (par a b) s n → May book env (Par a b) s n
  par_out Failure b m = elim m [ ]
  par_out a Failure m = elim m [ ]
  par_out {s} Success b m = May.Beside (Between-all s) (omega arith) May.Done m
  par_out {s} a Success m = May.Beside (Between-swap (Between-all s)) (omega arith) m May.Done
  par_out a b m = Alike-performed (Alike-sym (Alike-regrouped (Par a b))) m

  pub seq_in : {s : List Event} {n : ℕ} (a b : Contract) → May book env (Seq a b) s n → May book env (seq a b) s n
  seq_in Failure b (May.Then q m₁ m₂) = elim m₁ [ ]
  seq_in Failure b (May.ThenGranted q m₁ m₂) = elim m₁ [ ]
  seq_in a Failure (May.Then q m₁ m₂) = elim m₂ [ ]
  seq_in a Failure (May.ThenGranted q m₁ m₂) = elim m₂ [ ]
  seq_in Success b (May.Then q May.Done m) = moved (sym q) refl m
  seq_in Success b (May.ThenGranted q May.Done m) = moved refl (omega arith) m
  seq_in a Success (May.Then {s₁ = s₁} q m May.Done) = moved (sym (q ∙ append-nil s₁)) refl m
  seq_in a Success (May.ThenGranted q m May.Done) = moved refl (omega arith) m
  seq_in _ _ m = m

  pub seq_out : {s : List Event} {n : ℕ} (a b : Contract) → May book env (seq a b) s n → May book env (Seq a b) s n
  seq_out Failure b m = elim m [ ]
  seq_out a Failure m = elim m [ ]
  seq_out Success b m = May.Then refl May.Done m
  seq_out a Success m = May.ThenGranted (omega arith) m May.Done
  seq_out _ _ m = m

  pub send_in : {s : List Event} {n : ℕ} (b : Binders) (p : Expression) (c : Contract) → May book env (Transmit b p c) s n → May book env (send b p c) s n
  send_in b p Failure (May.Taken h m) = elim m [ ]
  send_in b p Failure (May.Granted m) = elim m [ ]
  send_in b p _ m = m

  pub send_out : {s : List Event} {n : ℕ} (b : Binders) (p : Expression) (c : Contract) → May book env (send b p c) s n → May book env (Transmit b p c) s n
  send_out b p Failure m = elim m [ ]
  send_out b p _ m = m
