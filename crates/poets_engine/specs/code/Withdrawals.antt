-- What a withdrawal stands on.
use Rattle.std.specs.Prelude.{ℕ, zero, suc, List, Option, Some, None, length, nat_lt, if◌then◌else◌}
use Rattle.poets_value.specs.declared.event.Event.{Event}
use Rattle.poets_rules.specs.declared.rules.Rules.{Rules}
use Rattle.poets_history.specs.Ledger.{Ledger}
use Rattle.poets_engine.specs.Store.{StoreView}
use Rattle.poets_engine.specs.Rows.{IsLedger}

-- the place, counted from 0, of the event at a place that counts from 1, if there is one
abbrev pub place_from_nought : List Event → (place : ℕ) → Option ℕ
place_from_nought s zero = None
place_from_nought s (suc k) = if nat_lt k (length s) then Some k else None

-- what is kept is the ledger of some history
pub record IsKeptStore (rules : Rules) (store : StoreView) : Type 0 where
  pub ledger : Ledger
  pub is : IsLedger rules ledger store
