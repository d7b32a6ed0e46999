-- Expressions and contracts worked by hand, most of them with more than one fault.
use Rattle.std.specs.Prelude.{ℕ, true, List, [], ◌∷◌, Some, None, if◌then◌else◌, pos}
use Rattle.poets_value.specs.declared.value.Name.{Name}
use Rattle.poets_value.specs.declared.value.Ty.{Ty}
use Rattle.poets_value.specs.declared.value.Ty.TheVariants as T
use Rattle.poets_value.specs.declared.value.Value.TheVariants as V
use Rattle.poets_expr.specs.declared.expr.Op.TheVariants as O
use Rattle.poets_expr.specs.Expression.{Expression, Not, Literal, Named, Unary, Binary, If}
use Rattle.poets_expr.specs.Env.{Declared, same_name}
use Rattle.poets_syntax.specs.Contract.{Contract, Success, Transmit, App}
use Rattle.poets_syntax.specs.Plain.{Book, TypeCause}
use Rattle.poets_syntax.specs.Demands.{FirstFault, demands_of, contract_demands}

abbrev pub name : ℕ → Name
name n = record { id = n }

-- an agent
abbrev pub ann : Name
ann = name 0

-- a template, `pay(n: Int, b: Bool)`
abbrev pub pay : Name
pay = name 1

-- a name that nothing has
abbrev pub nobody : Name
nobody = name 9

-- `ann` is an agent, and nothing else is declared
abbrev pub agents : Declared
agents x = if same_name ann x then Some T.Agent else None

-- pay(n : Int, b : Bool) = Success
abbrev pub book : Book
book = record {
  declared = agents;
  templates =
      record {
        name = pay;
        params = record { name = name 2; ty = T.Int } ∷ record { name = name 3; ty = T.Bool } ∷ [];
        body = Success;
      }
      ∷ [];
}

-- the expression's first fault is this
abbrev pub Faults : Expression → TypeCause → Type 0
Faults e cause = FirstFault agents (demands_of [] e) cause

-- the contract's first fault is this
abbrev pub ContractFaults : Contract → TypeCause → Type 0
ContractFaults c cause = FirstFault agents (contract_demands book [] [] c) cause

-- 1
abbrev pub one : Expression
one = Literal (V.Int (pos 1))

abbrev pub yes : Expression
yes = Literal (V.Bool true)

-- a literal of the type Day
abbrev pub some_day : Expression
some_day = Literal (V.Day (pos 0))

-- (not 1) + nobody
abbrev pub two_parts : Expression
two_parts = Binary O.Add (Unary Not one) (Named nobody)

-- true + nobody
abbrev pub part_and_node : Expression
part_and_node = Binary O.Add yes (Named nobody)

-- if 1 then 1 else true end
abbrev pub choice : Expression
choice = If one one yes

-- the expression less a day
abbrev pub less : Expression → Expression
less e = Binary O.Sub e some_day

-- transmit(ann, nobody, name 7, name 8 | 1). Success
abbrev pub transmission : Contract
transmission = Transmit (record { sender = ann; receiver = nobody; what = name 7; day = name 8 }) one Success

-- pay(true)
abbrev pub too_few : Contract
too_few = App pay (yes ∷ [])

-- pay(true, 1)
abbrev pub exchanged : Contract
exchanged = App pay (yes ∷ one ∷ [])

-- nobody(not 1)
abbrev pub of_nobody : Contract
of_nobody = App nobody (Unary Not one ∷ [])
