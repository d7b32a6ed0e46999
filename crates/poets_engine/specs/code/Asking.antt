-- How many evaluations a transmission takes.
use Rattle.std.specs.Prelude.{ℕ, ◌+◌, ◌*◌, length}
use Rattle.poets_value.specs.declared.value.Name.{Name}
use Rattle.poets_rules.specs.declared.rules.Rules.{Rules}
use Rattle.poets_engine.specs.Evaluations.{asked_owed}
use Rattle.poets_engine.specs.Store.{StoreView}

-- the most evaluations that a transmission on the contract with the name takes: those of its
-- residual, and two of each watch
abbrev pub asked_to_transmit : Rules → StoreView → Name → ℕ
asked_to_transmit rules store x = asked_owed rules.studied store.rows x + 2 * length store.watches
