-- Contracts as the definitions see them: the trees of `Term` without their boxes.
use Rattle.std.specs.Prelude.{List, map}
use Rattle.poets_value.specs.declared.value.Name.{Name}
use Rattle.poets_expr.specs.Expression.{Expression, expression_of}
use Rattle.poets_syntax.specs.declared.term.Binders.{Binders}
use Rattle.poets_syntax.specs.declared.term.Term.{Term}
use Rattle.poets_syntax.specs.declared.term.Term.TheVariants as T

-- the seven forms of contracts
pub data Contract : Type 0 where
  Success : Contract
  Failure : Contract
  Transmit : Binders → Expression → Contract → Contract
  Plus : Contract → Contract → Contract
  Par : Contract → Contract → Contract
  Seq : Contract → Contract → Contract
  App : Name → List Expression → Contract

-- the tree of a `Term`
abbrev pub contract_of : Term → Contract
contract_of T.Success = Success
contract_of T.Failure = Failure
contract_of (T.Transmit' b e p c) = Transmit b (expression_of e) (contract_of c)
contract_of (T.Plus' p a q b) = Plus (contract_of a) (contract_of b)
contract_of (T.Par' p a q b) = Par (contract_of a) (contract_of b)
contract_of (T.Seq' p a q b) = Seq (contract_of a) (contract_of b)
contract_of (T.App n args) = App n (map expression_of args.items)
