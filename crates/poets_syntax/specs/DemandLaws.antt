-- The demands of typing, the rules of typing and the checks agree, as statements.
use Rattle.std.specs.Prelude.{◌≡◌, ◌↔◌, List}
use Rattle.poets_value.specs.declared.value.Name.{Name}
use Rattle.poets_value.specs.declared.value.Ty.{Ty}
use Rattle.poets_expr.specs.Expression.{Expression}
use Rattle.poets_expr.specs.Env.{Declared}
use Rattle.poets_syntax.specs.Contract.{Contract}
use Rattle.poets_syntax.specs.Plain.{Book, TypeCause}
use Rattle.poets_syntax.specs.TypeOf.{Fails, Scope, type_of}
use Rattle.poets_syntax.specs.Typed.{check_contract}
use Rattle.poets_syntax.specs.Typing.{Has, IsTyped}
use Rattle.poets_syntax.specs.Demands.{Demand, AreMet, FirstFault, demands_of, contract_demands}

-- an expression has a type exactly where all its demands are met
abbrev pub TypesByDemands : Type 0
TypesByDemands = (declared : Declared) (scope : Scope) (e : Expression) →
    ((t : Ty) × Has declared scope e t) ↔ AreMet declared (demands_of scope e)

-- an expression fails with the cause of the first demand that is not met, and else does not fail
abbrev pub TypeFaultsByDemands : Type 0
TypeFaultsByDemands = (declared : Declared) (scope : Scope) (e : Expression) (cause : TypeCause) →
    type_of declared scope e ≡ Fails cause ↔ FirstFault declared (demands_of scope e) cause

-- a contract is typed exactly where all its demands are met
abbrev pub ContractsByDemands : Type 0
ContractsByDemands = (book : Book) (reports : List Name) (scope : Scope) (c : Contract) →
    IsTyped book reports scope c ↔ AreMet book.declared (contract_demands book reports scope c)

-- a contract fails with the cause of the first demand that is not met, and else does not fail
abbrev pub ContractFaultsByDemands : Type 0
ContractFaultsByDemands = (book : Book) (reports : List Name) (scope : Scope) (c : Contract) (cause : TypeCause) →
    check_contract book reports scope c ≡ Fails cause
    ↔ FirstFault book.declared (contract_demands book reports scope c) cause

-- of given demands one cause is reported at most, and none where all are met
pub record OneCause : Type 0 where
  pub one : (declared : Declared) (demands : List Demand) (cause other : TypeCause) →
      FirstFault declared demands cause → FirstFault declared demands other → cause ≡ other
  pub none : (declared : Declared) (demands : List Demand) (cause : TypeCause) →
      AreMet declared demands → FirstFault declared demands cause → ⊥
