-- How many evaluations a command takes.
use Rattle.std.specs.Prelude.{ℕ, zero, suc, ◌+◌, ◌*◌, ◌-◌, slice_get, length}
use Rattle.std.specs.Prelude.{min, Option, Some, None, List, remove, sum_by, take}
use Rattle.std.specs.declared.alloc.Global.{Global}
use Rattle.std.specs.declared.sync.Arc.{Arc}
use Rattle.std.specs.Arc.{arc_value}
use Rattle.poets_value.specs.declared.value.Name.{Name}
use Rattle.poets_syntax.specs.declared.term.Term.{Term}
use Rattle.poets_syntax.specs.Contract.{Contract}
use Rattle.poets_meaning.specs.InStudied.{width_in}
use Rattle.poets_meaning.specs.Studied.{StudiedBook}
use Rattle.poets_meaning.specs.Width.{size}
use Rattle.poets_cons.specs.declared.node.Node.{Node}
use Rattle.poets_cons.specs.Table.{contract_of_rows}
use Rattle.poets_residue.specs.Once.{once_in}
use Rattle.poets_table.specs.TableView.{RowView, number_named, place_in_log}
use Rattle.poets_live.specs.Watching.{asked_without}
use Rattle.poets_command.specs.declared.call.Command.{Command as CodeCommand}
use Rattle.poets_command.specs.Calls.{command_of}
use Rattle.poets_command.specs.Plain.{Command}
use Rattle.poets_rules.specs.declared.rules.Rules.{Rules}
use Rattle.poets_engine.specs.Rows.{owed_after}
use Rattle.poets_engine.specs.State.{State}
use Rattle.poets_engine.specs.Store.{StoreView}

-- the most evaluations that the residual of a contract takes: no more than it is wide, and no more
-- than where each different part is derived once
abbrev pub asked_in : StudiedBook → Contract → ℕ
asked_in s c = min (width_in s c) (once_in s c)

abbrev pub asked_of_row : StudiedBook → Option (RowView Term (List Node)) → ℕ
asked_of_row s None = 0
asked_of_row s (Some r) = asked_in s (contract_of_rows r.current)

abbrev pub asked_of_number : StudiedBook → List (RowView Term (List Node)) → Option ℕ → ℕ
asked_of_number s rows None = 0
asked_of_number s rows (Some n) = asked_of_row s (slice_get rows (n - 1))

-- the most evaluations that the residual of what is owed on the contract with a name takes; 0 where
-- there is none
abbrev pub asked_owed : StudiedBook → List (RowView Term (List Node)) → Name → ℕ
asked_owed s rows x = asked_of_number s rows (number_named x rows)

-- the sum of so many values of a function, from this number on
abbrev pub sum_from : (ℕ → ℕ) → (first count : ℕ) → ℕ
sum_from f first zero = 0
sum_from f first (suc count) = f first + sum_from f (suc first) count

-- the most evaluations that what is owed on a row takes without its event at a place, from 0: those
-- of the residuals from 255 events before it on
abbrev pub asked_to_renew : StudiedBook → RowView Term (List Node) → (place : ℕ) → ℕ
asked_to_renew s r place =
    let left = remove r.events place in
    sum_from (λ j. asked_in s (owed_after s r (take j left))) (place - 255) (length left - (place - 255))

-- the most evaluations that the watches take without the event at a place of the log, from 0
abbrev pub asked_of_watches : (place : ℕ) → StoreView → ℕ
asked_of_watches place store = sum_by (asked_without (length store.log) place) store.watches

abbrev pub asked_to_void_row : StudiedBook → StoreView → (number place : ℕ) → Option (RowView Term (List Node)) → ℕ
asked_to_void_row s store n place None = 0
asked_to_void_row s store n place (Some r) =
    asked_to_renew s r place + asked_of_watches (place_in_log n place store.log) store

abbrev pub asked_to_void_number : StudiedBook → StoreView → (place : ℕ) → Option ℕ → ℕ
asked_to_void_number s store place None = 0
asked_to_void_number s store place (Some n) = asked_to_void_row s store n place (slice_get store.rows (n - 1))

-- the most evaluations that a withdrawal of the event at a place, from 1, of the contract with a
-- name takes; 0 where there is no contract
abbrev pub asked_to_void : Rules → StoreView → Name → (place : ℕ) → ℕ
asked_to_void rules store x k = asked_to_void_number rules.studied store (k - 1) (number_named x store.rows)

-- the most evaluations that a command takes by the counter that is handed in: a transmission as
-- many as the residual takes, and for each watch its key and its next value; a withdrawal those for
-- what comes after the event; a tally its arguments, its start, and at each event its key and its
-- next value
abbrev pub most_evaluations : Rules → StoreView → Command → ℕ
most_evaluations rules store (Command.Register x c) = size c
most_evaluations rules store (Command.Transmit x e) = asked_owed rules.studied store.rows x + 2 * length store.watches
most_evaluations rules store (Command.Void x k) = asked_to_void rules store x k
most_evaluations rules store (Command.Tally x args) = length args + 1 + 2 * length store.log
most_evaluations rules store (Command.Portfolio x args over) = length args
most_evaluations rules store (Command.Watch x args) = length args
most_evaluations rules store _ = 0

-- the most evaluations that the command takes in the engine
abbrev pub most_evaluations_in : State → Arc CodeCommand Global → ℕ
most_evaluations_in e command = most_evaluations e.rules e.store (command_of (arc_value command))
