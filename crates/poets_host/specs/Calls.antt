-- What a host learns of a call.
use Rattle.std.specs.Prelude.{◌≡◌, ◌⊎◌, ℕ, [], ◌∷◌, ◌++◌, Option}
use Rattle.poets_value.specs.declared.value.Name.{Name}
use Rattle.poets_command.specs.Plain.{Command, Reply}
use Rattle.poets_rules.specs.Rules.{book_of_rules, reports_of_rules}
use Rattle.poets_history.specs.Histories.{AnswersIn}
use Rattle.poets_engine.specs.Accounts.{AccountsAfterCalls}
use Rattle.poets_engine.specs.State.{State, plain_calls}
use Rattle.poets_engine.specs.declared.accounts.Account.{Account}

-- the reply to the command is right after the engine's calls
abbrev pub IsReplyAfter : State → Command → Reply → Type 0
IsReplyAfter e command reply =
    AnswersIn (book_of_rules e.rules) (reports_of_rules e.rules) (plain_calls e.calls) command reply

-- the history has one more call at its end, which is the clerk's, with the command
abbrev pub HasCallMore : (clerk : ℕ) → Command → (old new : State) → Type 0
HasCallMore clerk command old new = plain_calls new.calls ≡ plain_calls old.calls ++ (clerk, command) ∷ []

-- nothing changed, or the history has one more call
abbrev pub MayHaveCallMore : (clerk : ℕ) → Command → (old new : State) → Type 0
MayHaveCallMore clerk command old new = (new ≡ old) ⊎ HasCallMore clerk command old new

-- the engine keeps what it kept, and each of its accounts that was right is right
pub record KeepsAll (old new : State) : Type 0 where
  pub store : new.store ≡ old.store
  pub accounts : (x : Name) (found : Option Account) → AccountsAfterCalls old x found → AccountsAfterCalls new x found
