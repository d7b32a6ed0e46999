-- The ledger's four lists, each gathered from the history itself.
use Rattle.std.specs.Prelude.{◌≡◌, ℕ, List, [], ◌∷◌, ◌++◌, Option, Some, None, fold, map}
use Rattle.std.specs.List.{filter_map}
use Rattle.poets_value.specs.declared.value.Name.{Name}
use Rattle.poets_value.specs.declared.event.Event.{Event}
use Rattle.poets_expr.specs.Expression.{Expression}
use Rattle.poets_syntax.specs.Contract.{Contract}
use Rattle.poets_command.specs.Plain.{Command, Reply, Entry}
use Rattle.poets_history.specs.Ledger.{ledger_of, contract_from, number_in, without}

-- the name and the original of an accepted registration
abbrev pub registration : Command → Reply → Option (Name × Contract)
registration (Command.Register x c) (Reply.Registered n) = Some (x, c)
registration _ _ = None

-- the names and the originals of the accepted registrations
abbrev pub registered : List Entry → List (Name × Contract)
registered h = filter_map (λ e. registration e.command e.reply) h

-- the number, counted from 1, of the first contract with the name that these entries registered, or
-- 0
abbrev pub number_after : List Entry → Name → ℕ
number_after before x = number_in (contract_from 1 x (registered before))

-- each entry, with all entries before it
abbrev pub with_before : List Entry → List (List Entry × Entry)
with_before [] = []
with_before (e ∷ h) = ([], e) ∷ map (λ p. (e ∷ p.0, p.1)) (with_before h)

-- what an entry makes of the log: an accepted transmission adds the contract's number and the event
-- at the end, and an accepted withdrawal takes out the pair of the contract that has its place
abbrev pub logged : List Entry → Command → Reply → List (ℕ × Event) → List (ℕ × Event)
logged before (Command.Transmit x e) (Reply.Recorded count may_end) log = log ++ (number_after before x, e) ∷ []
logged before (Command.Void x k) (Reply.Voided count may_end) log = without (number_after before x) k log
logged before _ _ log = log

-- the history gone through in order: the contracts' numbers and the events that were recorded and
-- not withdrawn
abbrev pub log_of : List Entry → List (ℕ × Event)
log_of h = fold (λ log p. logged p.0 p.1.command p.1.reply log) [] (with_before h)

-- the number of a contract that was ended
abbrev pub ending : List Entry → Command → Reply → Option ℕ
ending before (Command.End x) Reply.EndedNow = Some (number_after before x)
ending before _ _ = None

-- the numbers of the ended contracts
abbrev pub ended : List Entry → List ℕ
ended h = filter_map (λ p. ending p.0 p.1.command p.1.reply) (with_before h)

-- the report and the arguments of a watch
abbrev pub watch : Command → Reply → Option (Name × List Expression)
watch (Command.Watch q args) (Reply.Watching n) = Some (q, args)
watch _ _ = None

-- the reports and the arguments of the watches
abbrev pub watching : List Entry → List (Name × List Expression)
watching h = filter_map (λ e. watch e.command e.reply) h

-- the ledger of a history is these four lists
abbrev pub LedgerIsGathered : Type 0
LedgerIsGathered = (h : List Entry) →
    ledger_of h ≡ record { contracts = registered h; log = log_of h; ends = ended h; watches = watching h }
