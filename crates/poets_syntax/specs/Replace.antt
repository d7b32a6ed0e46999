-- Names in contracts that are replaced by literals.
use Rattle.std.specs.Prelude.{◌≡◌, Bool, not, ◌||◌, map, filter, None}
use Rattle.poets_value.specs.declared.value.Name.{Name}
use Rattle.poets_expr.specs.Env.{Declared, same_name}
use Rattle.poets_expr.specs.Subst.{Givens, subst}
pub use Rattle.poets_expr.specs.Subst.{env_of, AreDeclared}
use Rattle.poets_syntax.specs.declared.term.Binders.{Binders}
use Rattle.poets_syntax.specs.Contract.{Contract, Success, Failure, Transmit, Plus, Par, Seq, App}

-- whether the name is one of the four binders
abbrev pub binds : Binders → Name → Bool
binds b x = same_name b.day x || same_name b.what x || same_name b.receiver x || same_name b.sender x

-- what is replaced below the binders: all but their names
abbrev pub without : Binders → Givens → Givens
without b given = filter (λ p. not (binds b p.0)) given

-- the contract with its names replaced; below a transmit that binds the same name, that name stays
abbrev pub replace : Givens → Contract → Contract
replace given Success = Success
replace given Failure = Failure
replace given (Transmit b p c) = Transmit b (subst (without b given) p) (replace (without b given) c)
replace given (Plus c₁ c₂) = Plus (replace given c₁) (replace given c₂)
replace given (Par c₁ c₂) = Par (replace given c₁) (replace given c₂)
replace given (Seq c₁ c₂) = Seq (replace given c₁) (replace given c₂)
replace given (App f args) = App f (map (subst given) args)

-- the binders are no declared names
pub record AreUndeclared (declared : Declared) (b : Binders) : Type 0 where
  pub sender : declared b.sender ≡ None
  pub receiver : declared b.receiver ≡ None
  pub what : declared b.what ≡ None
  pub day : declared b.day ≡ None

-- no binder in the contract is a declared name
abbrev pub BindersAreUndeclared : Declared → Contract → Type 0
BindersAreUndeclared declared Success = Unit {0}
BindersAreUndeclared declared Failure = Unit {0}
BindersAreUndeclared declared (Transmit b p c) = AreUndeclared declared b × BindersAreUndeclared declared c
BindersAreUndeclared declared (Plus c₁ c₂) = BindersAreUndeclared declared c₁ × BindersAreUndeclared declared c₂
BindersAreUndeclared declared (Par c₁ c₂) = BindersAreUndeclared declared c₁ × BindersAreUndeclared declared c₂
BindersAreUndeclared declared (Seq c₁ c₂) = BindersAreUndeclared declared c₁ × BindersAreUndeclared declared c₂
BindersAreUndeclared declared (App f args) = Unit {0}
