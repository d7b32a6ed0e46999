-- The normal form says what the contract says.
use Rattle.std.proofs.Common.{◌≡◌, ℕ, ◌+◌, true, List, [], ◌∷◌, map, length, refl, ◌∙◌, ap₂, inl, inr}
use Rattle.poets_value.specs.declared.value.Name.{Name}
use Rattle.poets_value.specs.declared.event.Event.{Event}
use Rattle.poets_expr.specs.Env.{Declared, Env}
use Rattle.poets_expr.specs.Expression.{Expression}
use Rattle.poets_expr.specs.Val.{val}
use Rattle.poets_expr.specs.Fold.{KeepsDeclared}
use Rattle.poets_expr.proofs.FoldClosed.{fold-val}
use Rattle.poets_syntax.specs.declared.term.Binders.{Binders}
use Rattle.poets_syntax.specs.declared.term.Param.{Param}
use Rattle.poets_syntax.specs.Contract.{Contract, Success, Failure, Transmit, Plus, Par, Seq, App}
use Rattle.poets_syntax.specs.Plain.{Book}
use Rattle.poets_syntax.specs.Book.{BinderValues, values_of, undefined_values, bound}
use Rattle.poets_syntax.specs.Replace.{AreUndeclared}
use Rattle.poets_syntax.proofs.Replacing.{truth, bound-free, declared_free}
use Rattle.poets_syntax.specs.WellFormed.{HaveDeclaredLiterals, IsWellFormed}
use Rattle.poets_meaning.specs.May.{May}
use Rattle.poets_meaning.proofs.Granting.{May-granted, May-anywhere}
use Rattle.poets_meaning.proofs.Saying.{SaysSame, SaysSame-May, SaysSame-sym}
use Rattle.poets_meaning.specs.Marks.{Marks, AreRight}
use Rattle.poets_calculus.specs.Normal.{normal, folded, app, params_in}
use Rattle.poets_norm.proofs.Counts.{length-folded}
use Rattle.poets_norm.proofs.Builders.{plus_in, plus_out, par_in, par_out, seq_in, seq_out, send_in, send_out}

-- binders that are no declared names keep those
pub Keeps-bound : (declared : Declared) (b : Binders) (v : BinderValues) (env : Env) → AreUndeclared declared b → KeepsDeclared declared env →
    KeepsDeclared declared (bound b v env)
Keeps-bound declared b v env f k x h = bound-free declared b v env x (declared_free declared b x f h) ∙ k x h

folded_vals : (declared : Declared) (env : Env) → KeepsDeclared declared env → (params : List Param) (args : List Expression) → HaveDeclaredLiterals declared args →
    map (val declared env) (folded declared params args) ≡ map (val declared env) args
folded_vals declared env k [] [] h = refl
folded_vals declared env k [] (a ∷ args) h = refl
folded_vals declared env k (p ∷ params) [] h = refl
folded_vals declared env k (p ∷ params) (a ∷ args) h =
    ap₂ (λ x xs. x ∷ xs) (fold-val declared env k a p.ty h.0) (folded_vals declared env k params args h.1)

-- an application that is performed is of a hopeful template
hopeful_here : (book : Book) (marks : Marks) → AreRight book marks → {env : Env} {f : Name} {args : List Expression} {s : List Event} {n : ℕ} →
    May book env (App f args) s n → marks.hopeful f ≡ true
hopeful_here book marks right {f = f} {s = s} {n = n} (May.Body {t = t} q l m) =
    (right.hopeful f).1 (t, q, (length s + n, May-anywhere (May-granted m) refl []))

-- what one contract may be performed by, another may, under every environment that keeps the declared names
abbrev pub Implies : Book → Contract → Contract → Type 0
Implies book c d = (env : Env) → KeepsDeclared book.declared env → (s : List Event) (n : ℕ) → May book env c s n → May book env d s n

module _ {book : Book} where
  pub Implies-transmit : (b : Binders) (p : Expression) {c d : Contract} → AreUndeclared book.declared b → Implies book c d → Implies book (Transmit b p c) (Transmit b p d)
  Implies-transmit b p f i env k _ _ (May.Taken {e = e} {s = s} {n = n} q m) =
      May.Taken q (i (bound b (values_of e) env) (Keeps-bound book.declared b (values_of e) env f k) s n m)
  Implies-transmit b p f i env k _ _ (May.Granted {n = n} m) =
      May.Granted (i (bound b undefined_values env) (Keeps-bound book.declared b undefined_values env f k) [] n m)

  pub Implies-plus : {a b c d : Contract} → Implies book a c → Implies book b d → Implies book (Plus a b) (Plus c d)
  Implies-plus i j env k s n (May.Left m) = May.Left (i env k s n m)
  Implies-plus i j env k s n (May.Right m) = May.Right (j env k s n m)

  pub Implies-par : {a b c d : Contract} → Implies book a c → Implies book b d → Implies book (Par a b) (Par c d)
  Implies-par i j env k s n (May.Beside {s₁ = s₁} {s₂ = s₂} {n₁ = n₁} {n₂ = n₂} w q m₁ m₂) = May.Beside w q (i env k s₁ n₁ m₁) (j env k s₂ n₂ m₂)

  pub Implies-seq : {a b c d : Contract} → Implies book a c → Implies book b d → Implies book (Seq a b) (Seq c d)
  Implies-seq i j env k s n (May.Then {s₁ = s₁} {s₂ = s₂} q m₁ m₂) = May.Then q (i env k s₁ 0 m₁) (j env k s₂ n m₂)
  Implies-seq i j env k s n (May.ThenGranted {n₁ = n₁} {n₂ = n₂} q m₁ m₂) = May.ThenGranted q (i env k s n₁ m₁) (j env k [] n₂ m₂)

module _ (book : Book) (marks : Marks) (right : AreRight book marks) where
  app_alike : (env : Env) → KeepsDeclared book.declared env → (f : Name) (args : List Expression) → HaveDeclaredLiterals book.declared args →
      SaysSame book.declared env (App f (folded book.declared (params_in book f) args)) env (App f args)
  app_alike env k f args h =
      SaysSame.App (length-folded book.declared (params_in book f) args) (folded_vals book.declared env k (params_in book f) args h)

  app_in : (f : Name) (args : List Expression) → HaveDeclaredLiterals book.declared args → Implies book (App f args) (app book marks f args)
  app_in f args h env k s n m =
      rw (hopeful_here book marks right m) (SaysSame-May (SaysSame-sym (app_alike env k f args h)) m)

  app_out : (f : Name) (args : List Expression) → HaveDeclaredLiterals book.declared args → Implies book (app book marks f args) (App f args)
  app_out f args h env k s n m = elim (truth (marks.hopeful f)) [
    | inl e ↦ SaysSame-May (app_alike env k f args h) (rw e at m)
    | inr e ↦ (let l : May book env Failure s n = rw e at m in elim l [ ])
  ]

  pub normal_in : (c : Contract) → IsWellFormed book.declared c → Implies book c (normal book marks c)
  normal_in Success h env k s n m = m
  normal_in Failure h env k s n m = m
  normal_in (Transmit b p c) h env k s n m =
      send_in b p (normal book marks c) (Implies-transmit b p h.0 (normal_in c h.1) env k s n m)
  normal_in (Plus a b) h env k s n m =
      plus_in (normal book marks a) (normal book marks b) (Implies-plus (normal_in a h.0) (normal_in b h.1) env k s n m)
  normal_in (Par a b) h env k s n m =
      par_in (normal book marks a) (normal book marks b) (Implies-par (normal_in a h.0) (normal_in b h.1) env k s n m)
  normal_in (Seq a b) h env k s n m =
      seq_in (normal book marks a) (normal book marks b) (Implies-seq (normal_in a h.0) (normal_in b h.1) env k s n m)
  normal_in (App f args) h env k s n m = app_in f args h env k s n m

  pub normal_out : (c : Contract) → IsWellFormed book.declared c → Implies book (normal book marks c) c
  normal_out Success h env k s n m = m
  normal_out Failure h env k s n m = m
  normal_out (Transmit b p c) h env k s n m =
      Implies-transmit b p h.0 (normal_out c h.1) env k s n (send_out b p (normal book marks c) m)
  normal_out (Plus a b) h env k s n m =
      Implies-plus (normal_out a h.0) (normal_out b h.1) env k s n (plus_out (normal book marks a) (normal book marks b) m)
  normal_out (Par a b) h env k s n m =
      Implies-par (normal_out a h.0) (normal_out b h.1) env k s n (par_out (normal book marks a) (normal book marks b) m)
  normal_out (Seq a b) h env k s n m =
      Implies-seq (normal_out a h.0) (normal_out b h.1) env k s n (seq_out (normal book marks a) (normal book marks b) m)
  normal_out (App f args) h env k s n m = app_out f args h env k s n m
