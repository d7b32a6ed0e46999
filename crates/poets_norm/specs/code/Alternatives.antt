-- Alternatives of choices.
use Rattle.std.specs.Prelude.{ℕ, Bool, List, if◌then◌else◌}
use Rattle.poets_syntax.specs.Contract.{Contract, Plus}
use Rattle.poets_calculus.specs.Normal.{alternatives}
use Rattle.poets_cons.specs.declared.node.Node.{Node}
use Rattle.poets_cons.specs.Table.{contract_at}
use Rattle.poets_norm.specs.Choices.{holds_alike}

-- whether an alternative of the choice at one row is alike to the contract at another
abbrev pub is_alternative : List Node → (choice place : ℕ) → Bool
is_alternative nodes choice place = holds_alike (alternatives (contract_at nodes choice)) (contract_at nodes place)

-- the choice with one more alternative at its end, unless it is known to have an alike one
abbrev pub added : (is_known : Bool) → (choice last : Contract) → Contract
added is_known choice last = if is_known then choice else Plus choice last
