-- The number of the different subterms of a contract.
use Rattle.std.specs.Prelude.{ℕ}
use Rattle.std.specs.Set.{distinct_count}
use Rattle.poets_syntax.specs.Contract.{Contract}
use Rattle.poets_syntax.specs.Same.{same_contract}
pub use Rattle.poets_meaning.specs.Subterms.{subterms}

-- the number of different subterms
abbrev pub subterm_count : Contract → ℕ
subterm_count c = distinct_count same_contract (subterms c)
