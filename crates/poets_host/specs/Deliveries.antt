-- What changes when a delivery is recorded.
use Rattle.std.specs.Prelude.{◌≡◌, ℕ, [], ◌∷◌, ◌++◌, Some}
use Rattle.poets_value.specs.declared.event.Event.{Event}
use Rattle.poets_value.specs.declared.value.Name.{Name}
use Rattle.poets_table.specs.TableView.{number_named}
use Rattle.poets_engine.specs.Accounts.{AccountsAfterCalls}
use Rattle.poets_engine.specs.State.{State}
use Rattle.poets_engine.specs.declared.accounts.Account.{Account}

-- the event is recorded on the contract
pub record Records (contract : Name) (event : Event) (old new : State) : Type 0 where
  -- it is at the end of the log, under the contract's number
  pub number : ℕ
  pub named : number_named contract old.store.rows ≡ Some number
  pub log : new.store.log ≡ old.store.log ++ (number, event) ∷ []
  -- the contract's account has the events that it had, and then this one
  pub account :
      (before after : Account) → AccountsAfterCalls old contract (Some before) →
      AccountsAfterCalls new contract (Some after) → after.events.items ≡ before.events.items ++ event ∷ []
