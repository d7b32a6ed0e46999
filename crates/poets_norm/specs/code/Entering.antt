-- Normal forms that are entered in a table two at a time.
use Rattle.std.specs.Prelude.{◌+◌, ◌≤◌, ℕ, List}
use Rattle.poets_syntax.specs.declared.term.Term.{Term}
use Rattle.poets_syntax.specs.Contract.{Contract, contract_of}
use Rattle.poets_meaning.specs.Studied.{StudiedBook}
use Rattle.poets_calculus.specs.InStudied.{normal_in}
use Rattle.poets_calculus.specs.Normal.{par}
use Rattle.poets_cons.specs.declared.node.Node.{Node}
use Rattle.poets_cons.specs.Table.{contract_at, Stands}
use Rattle.poets_norm.specs.Questions.{questions}

-- the row with that number stands for the normal form of the tree
abbrev pub StandsNormal : StudiedBook → List Node → ℕ → Term → Type 0
StandsNormal s nodes place t = Stands nodes place (normal_in s (contract_of t))

-- a row beside the normal form of a contract
abbrev pub beside_normal : StudiedBook → List Node → ℕ → Contract → Contract
beside_normal s nodes first c = par (contract_at nodes first) (normal_in s c)

-- a number and the measures of two trees
abbrev pub with_both : (Contract → ℕ) → (a b : Term) → ℕ → ℕ
with_both measure a b n = n + measure (contract_of a) + measure (contract_of b)

-- what is asked for the normal forms of two trees is not asked again
abbrev pub AskBothOnce : StudiedBook → (a b : Term) → (old new : ℕ) → Type 0
AskBothOnce s a b old new =
    new + questions (normal_in s (contract_of a)) + questions (normal_in s (contract_of b))
    ≤ with_both questions a b old
