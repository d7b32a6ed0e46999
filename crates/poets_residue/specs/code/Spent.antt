-- What a call that derives a contract asks, by the transmits and applications that it begins.
use Rattle.std.specs.Prelude.{◌≡◌, ◌+◌, ◌≤◌, ◌⊎◌, ℕ, List, sum_by, Option, Some, Result, IfOk}
use Rattle.std.specs.List.{IsDistinct}
use Rattle.poets_syntax.specs.Contract.{Contract}
use Rattle.poets_syntax.specs.Same.{same_contract}
use Rattle.poets_syntax.specs.Plain.{Book}
use Rattle.poets_meaning.specs.Marks.{Marks}
use Rattle.poets_cons.specs.declared.node.Node.{Node}
use Rattle.poets_cons.specs.Table.{contract_at}
use Rattle.poets_residue.specs.Once.{ready, asked_of, IsAmong}

-- the residual of the contract is noted
abbrev pub IsNoted : List Node → (ℕ → Option ℕ) → Contract → Type 0
IsNoted nodes memo c = (k : ℕ) × (v : ℕ) × (memo k ≡ Some v) × (contract_at nodes k ≡ c)

-- or it is the contract itself
abbrev pub IsNotedBut : Contract → List Node → (ℕ → Option ℕ) → Contract → Type 0
IsNotedBut c nodes memo d = (d ≡ c) ⊎ IsNoted nodes memo d

-- different transmits and applications that stand ready in the contract and were not noted before
-- the call pay for what it asks; where it has a result they are noted after it, beside those that
-- were
pub record IsSpent (book : Book) (marks : Marks) (c : Contract) (Before After : Contract → Type 0) (old new : ℕ)
    {A E : Type 0} (r : Result A E) : Type 0 where
  pub begun : List Contract
  pub different : IsDistinct same_contract begun
  pub standing : (d : Contract) → IsAmong d begun → IsAmong d (ready book marks c)
  pub fresh : (d : Contract) → IsAmong d begun → Before d → ⊥
  pub noted : IfOk r (λ _. (d : Contract) → IsAmong d begun → After d)
  pub kept : IfOk r (λ _. (d : Contract) → Before d → After d)
  pub asks : new ≤ old + sum_by (asked_of book) begun
