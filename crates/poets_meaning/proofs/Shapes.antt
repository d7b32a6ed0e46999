-- What granted steps alone perform depends on the shape of a contract alone.
use Rattle.std.proofs.Common.{◌≡◌, ℕ, List, [], refl, sym, ◌∙◌}
use Rattle.poets_value.specs.declared.event.Event.{Event}
use Rattle.poets_expr.specs.Env.{Env}
use Rattle.poets_expr.specs.Subst.{Givens}
use Rattle.poets_syntax.specs.Contract.{Contract}
use Rattle.poets_syntax.specs.Plain.{Book}
use Rattle.poets_syntax.specs.Replace.{without, replace}
use Rattle.poets_syntax.proofs.Replacing.{args_count}
use Rattle.poets_meaning.specs.Between.{Between}
use Rattle.poets_meaning.specs.Perf.{Perf}
use Rattle.poets_meaning.specs.May.{May}
use Rattle.poets_meaning.specs.Shape.{SameShape}
use Rattle.poets_meaning.proofs.Lists.{parts_of_nil, Between-nil}
use Rattle.poets_meaning.proofs.Granting.{May-Perf, Perf-May, May-anywhere}

pub SameShape-sym : {c c' : Contract} → SameShape c c' → SameShape c' c
SameShape-sym SameShape.Success = SameShape.Success
SameShape-sym SameShape.Failure = SameShape.Failure
SameShape-sym (SameShape.Transmit h) = SameShape.Transmit (SameShape-sym h)
SameShape-sym (SameShape.Plus h k) = SameShape.Plus (SameShape-sym h) (SameShape-sym k)
SameShape-sym (SameShape.Par h k) = SameShape.Par (SameShape-sym h) (SameShape-sym k)
SameShape-sym (SameShape.Seq h k) = SameShape.Seq (SameShape-sym h) (SameShape-sym k)
SameShape-sym (SameShape.App l) = SameShape.App (sym l)

pub May-shape : {book : Book} {env : Env} {c c' : Contract} {s : List Event} {n : ℕ} →
    SameShape c c' → May book env c s n → s ≡ [] → (env' : Env) → May book env' c' [] n
May-shape SameShape.Success May.Done e env' = May.Done
May-shape SameShape.Failure m e env' = elim m [ ]
May-shape (SameShape.Transmit h) (May.Taken q m) e env' = absurd cc
May-shape (SameShape.Transmit h) (May.Granted m) e env' = May.Granted (May-shape h m refl _)
May-shape (SameShape.Plus h k) (May.Left m) e env' = May.Left (May-shape h m e env')
May-shape (SameShape.Plus h k) (May.Right m) e env' = May.Right (May-shape k m e env')
May-shape (SameShape.Par h k) (May.Beside b q m₁ m₂) e env' =
    let p = Between-nil b e in
    May.Beside Between.Empty q (May-shape h m₁ p.0 env') (May-shape k m₂ p.1 env')
May-shape (SameShape.Seq h k) (May.Then {s₁ = s₁} {s₂ = s₂} q m₁ m₂) e env' =
    let p = parts_of_nil s₁ s₂ (sym e ∙ q) in
    May.Then refl (May-shape h m₁ p.0 env') (May-shape k m₂ p.1 env')
May-shape (SameShape.Seq h k) (May.ThenGranted q m₁ m₂) e env' =
    May.ThenGranted q (May-shape h m₁ e env') (May-shape k m₂ refl env')
May-shape (SameShape.App l) (May.Body t r m) e env' = May.Body t (r ∙ l) (May-anywhere m e _)

pub Perf-shape : {book : Book} {env : Env} {c c' : Contract} → SameShape c c' → (env' : Env) → Perf book env c [] → Perf book env' c' []
Perf-shape h env' p = May-Perf (May-shape h (Perf-May p) refl env') refl

-- replacing names keeps the shape
pub SameShape-replace : (given : Givens) (c : Contract) → SameShape (replace given c) c
SameShape-replace given Contract.Success = SameShape.Success
SameShape-replace given Contract.Failure = SameShape.Failure
SameShape-replace given (Contract.Transmit b p c) = SameShape.Transmit (SameShape-replace (without b given) c)
SameShape-replace given (Contract.Plus c d) = SameShape.Plus (SameShape-replace given c) (SameShape-replace given d)
SameShape-replace given (Contract.Par c d) = SameShape.Par (SameShape-replace given c) (SameShape-replace given d)
SameShape-replace given (Contract.Seq c d) = SameShape.Seq (SameShape-replace given c) (SameShape-replace given d)
SameShape-replace given (Contract.App f args) = SameShape.App (args_count given args)
