-- The ledger: the lists that are gathered from a history.
use Rattle.std.specs.Prelude.{ℕ, zero, suc, ◌-◌, Bool, true, false}
use Rattle.std.specs.Prelude.{Option, Some, None, nat_eq, if◌then◌else◌, ℤ, int_lt}
use Rattle.std.specs.Prelude.{List, [], ◌∷◌, ◌++◌, map, filter, fold, slice_get}
use Rattle.std.specs.List.{list_any}
use Rattle.poets_value.specs.declared.value.Name.{Name}
use Rattle.poets_value.specs.declared.event.Event.{Event}
use Rattle.poets_expr.specs.Expression.{Expression}
use Rattle.poets_expr.specs.Env.{same_name}
use Rattle.poets_syntax.specs.Contract.{Contract}
use Rattle.poets_command.specs.Plain.{Command, Reply, Entry}

pub record Ledger : Type 0 where
  -- the names and the originals of the accepted registrations; a contract's number is its place
  -- here, from 1
  pub contracts : List (Name × Contract)
  -- the contracts' numbers and the events of the accepted transmissions, but for the events that
  -- were withdrawn
  pub log : List (ℕ × Event)
  -- the numbers of the ended contracts
  pub ends : List ℕ
  -- the reports and the arguments of the watches
  pub watches : List (Name × List Expression)

abbrev pub empty_ledger : Ledger
empty_ledger = record { contracts = []; log = []; ends = []; watches = [] }

-- the number, counted from i, and the original of the first contract with the name
abbrev pub contract_from : ℕ → Name → List (Name × Contract) → Option (ℕ × Contract)
contract_from i x [] = None
contract_from i x (c ∷ contracts) = if same_name c.0 x then Some (i, c.1) else contract_from (suc i) x contracts

-- the number and the original of the contract with a name
abbrev pub contract_named : Ledger → Name → Option (ℕ × Contract)
contract_named ledger x = contract_from 1 x ledger.contracts

abbrev pub number_in : Option (ℕ × Contract) → ℕ
number_in None = 0
number_in (Some c) = c.0

-- the number of the contract with a name, or 0
abbrev pub number_of : Ledger → Name → ℕ
number_of ledger x = number_in (contract_named ledger x)

-- the log without the k-th pair, from 1, that has the number
abbrev pub without : ℕ → (k : ℕ) → List (ℕ × Event) → List (ℕ × Event)
without n k [] = []
without n k (p ∷ log) =
    if nat_eq p.0 n then (if nat_eq k 1 then log else p ∷ without n (k - 1) log) else p ∷ without n k log

-- the replies to commands that were accepted
abbrev pub is_accepted : Reply → Bool
is_accepted (Reply.Registered n) = true
is_accepted (Reply.Recorded count may_end) = true
is_accepted (Reply.Voided count may_end) = true
is_accepted Reply.EndedNow = true
is_accepted (Reply.Watching n) = true
is_accepted _ = false

-- the ledger with one more entry: only accepted commands change it
abbrev pub with_entry : Ledger → Command → Reply → Ledger
with_entry ledger (Command.Register x c) (Reply.Registered n) =
    record ledger { contracts = ledger.contracts ++ (x, c) ∷ [] }
with_entry ledger (Command.Transmit x e) (Reply.Recorded n may_end) =
    record ledger { log = ledger.log ++ (number_of ledger x, e) ∷ [] }
with_entry ledger (Command.Void x k) (Reply.Voided n may_end) =
    record ledger { log = without (number_of ledger x) k ledger.log }
with_entry ledger (Command.End x) Reply.EndedNow = record ledger { ends = ledger.ends ++ number_of ledger x ∷ [] }
with_entry ledger (Command.Watch q args) (Reply.Watching n) =
    record ledger { watches = ledger.watches ++ (q, args) ∷ [] }
with_entry ledger _ _ = ledger

-- the entries of a history taken in order
abbrev pub ledger_of : List Entry → Ledger
ledger_of h = fold (λ ledger e. with_entry ledger e.command e.reply) empty_ledger h

-- all recorded events that were not withdrawn
abbrev pub events : Ledger → List Event
events ledger = map (λ p. p.1) ledger.log

-- the recorded events of the contract with a number, without those that were withdrawn
abbrev pub trace : Ledger → ℕ → List Event
trace ledger n = map (λ p. p.1) (filter (λ p. nat_eq p.0 n) ledger.log)

abbrev pub is_ended : Ledger → ℕ → Bool
is_ended ledger n = list_any (λ m. nat_eq m n) ledger.ends

-- the day of the last event
abbrev pub last_day : List Event → Option ℤ
last_day [] = None
last_day (e ∷ []) = Some e.day
last_day (e ∷ e' ∷ s) = last_day (e' ∷ s)

abbrev pub if_after : ℤ → Option ℤ → Option ℤ
if_after day None = None
if_after day (Some last) = if int_lt day last then Some last else None

-- the last day of a trace, if the given day is before it
abbrev pub late_day : List Event → ℤ → Option ℤ
late_day s day = if_after day (last_day s)

abbrev pub absent_or : Name → Option (ℕ × Contract) → Option Name → Option Name
absent_or x None rest = Some x
absent_or x (Some c) rest = rest

-- the first of the names that no contract has
abbrev pub first_absent : Ledger → List Name → Option Name
first_absent ledger [] = None
first_absent ledger (x ∷ names) = absent_or x (contract_named ledger x) (first_absent ledger names)

-- the report and the arguments of the watch with a number, from 1
abbrev pub watch_at : Ledger → ℕ → Option (Name × List Expression)
watch_at ledger zero = None
watch_at ledger (suc n) = slice_get ledger.watches n
