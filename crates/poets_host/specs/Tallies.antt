-- What a tally takes.
use Rattle.std.specs.Prelude.{◌≡◌, ℕ, ◌+◌, ◌*◌, ◌≤◌, List, length}
use Rattle.poets_command.specs.Calls.{calls_of}
use Rattle.poets_command.specs.Plain.{Entry}
use Rattle.poets_rules.specs.Rules.{book_of_rules, reports_of_rules}
use Rattle.poets_history.specs.Histories.{IsLegal}
use Rattle.poets_history.specs.Ledger.{ledger_of, events}
use Rattle.poets_engine.specs.State.{State, plain_calls}

-- one evaluation for the start of the report at most, and two for each recorded event of the
-- engine's history
abbrev pub AsksTwiceAnEvent : State → (asked asked' : ℕ) → Type 0
AsksTwiceAnEvent e asked asked' =
    (h : List Entry) → IsLegal (book_of_rules e.rules) (reports_of_rules e.rules) h →
    calls_of h ≡ plain_calls e.calls → asked' ≤ asked + (1 + 2 * length (events (ledger_of h)))
