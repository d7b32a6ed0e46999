-- What a table keeps.
use Rattle.std.specs.Prelude.{◌≡◌, ℕ, ◌+◌, ◌-◌, ◌<◌, ◌≤◌, List, All, length, map, slice_get, Some}
use Rattle.poets_value.specs.declared.value.Name.{Name}
use Rattle.poets_value.specs.declared.event.Event.{Event}
use Rattle.poets_value.specs.Listed.{Listed}
use Rattle.poets_table.specs.TableView.{RowView, events_with}
use Rattle.poets_table.specs.declared.table.Row.{Row}

-- the keys are the names of the rows, in their order
abbrev pub AreNames : {O T : Type 0} → List Name → List (Row O T) → Type 0
AreNames keys rows = keys ≡ map (λ r. r.name) rows

-- where a row is ready, it and the log have a free place
abbrev pub IsReady : {O T : Type 0} → ℕ → List (Row O T) → Listed (ℕ × Event) → Type 0
IsReady n rows log = 0 < n → (0 < log.room) × ((r : _) → slice_get rows (n - 1) ≡ Some r → 0 < r.events.room)

-- the events of each row are those with its number in the log, which has no other numbers
pub record AreOfLog {O T : Type 0} (rows : List (RowView O T)) (log : List (ℕ × Event)) : Type 0 where
  pub each : (i : ℕ) (r : RowView O T) → slice_get rows i ≡ Some r → r.events ≡ events_with (i + 1) log
  pub known : All (λ p. p.0 ≤ length rows) log
