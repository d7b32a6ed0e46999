-- The ways in which a contract of each form is performed.
use Rattle.std.proofs.Common.{◌≡◌, ℕ, ◌+◌, List, [], ◌∷◌, ◌++◌, map, subst, Some}
use Rattle.poets_value.specs.declared.value.Name.{Name}
use Rattle.poets_value.specs.declared.event.Event.{Event}
use Rattle.poets_expr.specs.Env.{Env}
use Rattle.poets_expr.specs.Expression.{Expression}
use Rattle.poets_expr.specs.Val.{val}
use Rattle.poets_syntax.specs.declared.term.Binders.{Binders}
use Rattle.poets_syntax.specs.Contract.{Contract}
use Rattle.poets_syntax.specs.Plain.{Book, Template}
use Rattle.poets_syntax.specs.Book.{template_in, parameter_env, taken}
use Rattle.poets_meaning.specs.Between.{Between}
use Rattle.poets_meaning.specs.Perf.{Perf, Holds}
use Rattle.poets_meaning.specs.May.{May}

pub of_plus : {book : Book} {env : Env} {a b : Contract} {s : List Event} {n : ℕ} {P : Type 0} → May book env (Contract.Plus a b) s n →
    (May book env a s n → P) → (May book env b s n → P) → P
of_plus (May.Left m) left right = left m
of_plus (May.Right m) left right = right m

pub of_par : {book : Book} {env : Env} {a b : Contract} {s : List Event} {n : ℕ} {P : Type 0} → May book env (Contract.Par a b) s n →
    ((s₁ s₂ : List Event) (n₁ n₂ : ℕ) → Between s₁ s₂ s → n ≡ n₁ + n₂ → May book env a s₁ n₁ → May book env b s₂ n₂ → P) → P
of_par (May.Beside {s₁ = s₁} {s₂ = s₂} {n₁ = n₁} {n₂ = n₂} i q m₁ m₂) beside = beside s₁ s₂ n₁ n₂ i q m₁ m₂

pub of_seq : {book : Book} {env : Env} {a b : Contract} {s : List Event} {n : ℕ} {P : Type 0} → May book env (Contract.Seq a b) s n →
    ((s₁ s₂ : List Event) → s ≡ s₁ ++ s₂ → May book env a s₁ 0 → May book env b s₂ n → P) →
    ((n₁ n₂ : ℕ) → n ≡ n₁ + n₂ → May book env a s n₁ → May book env b [] n₂ → P) → P
of_seq (May.Then {s₁ = s₁} {s₂ = s₂} q m₁ m₂) then granted = then s₁ s₂ q m₁ m₂
of_seq (May.ThenGranted {n₁ = n₁} {n₂ = n₂} q m₁ m₂) then granted = granted n₁ n₂ q m₁ m₂

-- a transmit took the first event
pub of_transmit : {book : Book} {env : Env} {b : Binders} {p : Expression} {c : Contract} {e : Event} {s : List Event} →
    Perf book env (Contract.Transmit b p c) (e ∷ s) → Holds book (taken b e env) p × Perf book (taken b e env) c s
of_transmit (Perf.Taken h m) = (h, m)

-- an application is performed as its template's body
pub of_app : {book : Book} {env : Env} {f : Name} {args : List Expression} {t : Template} {s : List Event} →
    template_in book.templates f ≡ Some t → Perf book env (Contract.App f args) s →
    Perf book (parameter_env t.params (map (val book.declared env) args)) t.body s
of_app {book} {env} {f} {args} {t} {s} q (Perf.Body {t = u} r l m) =
    let same : u ≡ t = cc in
    subst (λ v. Perf book (parameter_env v.params (map (val book.declared env) args)) v.body s) same m
