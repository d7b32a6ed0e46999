-- What calls return as rows, and the contracts of two rows joined.
use Rattle.std.specs.Prelude.{◌≡◌, ℕ, List, Result, IfOk}
use Rattle.poets_syntax.specs.Contract.{Contract}
use Rattle.poets_cons.specs.declared.node.Node.{Node}
use Rattle.poets_cons.specs.Table.{contract_at, contract_of_rows, Stands}

-- where there is a result, it is the number of a row of the table that stands for the contract
abbrev pub Enters : {E : Type 0} → List Node → Result ℕ E → Contract → Type 0
Enters nodes result c = IfOk result (λ p. Stands nodes p c)

-- where there is a result, it is the rows of the contract
abbrev pub GivesRows : {E : Type 0} → Result (List Node) E → Contract → Type 0
GivesRows result c = IfOk result (λ r. contract_of_rows r ≡ c)

-- the contracts of two rows, joined
abbrev pub joined_at : (Contract → Contract → Contract) → List Node → (a b : ℕ) → Contract
joined_at join nodes a b = join (contract_at nodes a) (contract_at nodes b)
