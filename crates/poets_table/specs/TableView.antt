-- A table as plain data: its rows and its log.
use Rattle.std.specs.Prelude.{◌≡◌, ℕ, zero, suc, ◌+◌, ◌-◌, ◌<◌, ◌≤◌, Bool, true, false, List, []}
use Rattle.std.specs.Prelude.{◌∷◌, ◌++◌, Option, Some, filter, length, map, nat_eq, option_map}
use Rattle.std.specs.Prelude.{remove, slice_get, take}
use Rattle.std.specs.Prelude.{if◌then◌else◌}
use Rattle.std.specs.declared.alloc.Global.{Global}
use Rattle.std.specs.declared.sync.Arc.{Arc}
use Rattle.std.specs.List.{position}
use Rattle.std.specs.Arc.{arc_value}
use Rattle.poets_value.specs.Listed.{Listed}
use Rattle.poets_value.specs.declared.value.Name.{Name}
use Rattle.poets_value.specs.declared.event.Event.{Event}
use Rattle.poets_table.specs.Pieces.{AreStarts, is_full, joined, starts_of, starts_without}
use Rattle.poets_table.specs.declared.table.Row.{Row}

-- a row: the original contract and what is owed may be of two types
pub record RowView (O T : Type 0) : Type 0 where
  pub name : Name
  pub original : O
  pub current : T
  pub events : List Event
  -- where the pieces of the events begin
  pub starts : List ℕ
  -- what was owed before each piece
  pub points : List T
  pub ended : Bool

-- the values that are shared
abbrev pub values_of : {T : Type 0} → Listed (Arc T Global) → List T
values_of shared = map arc_value shared.items

-- a row of the code as plain data
abbrev pub row_view : {O T : Type 0} → Row O T → RowView O T
row_view r = record {
  name = r.name;
  original = arc_value r.original;
  current = arc_value r.current;
  events = joined r.events.pieces;
  starts = starts_of r.events.pieces;
  points = values_of r.points;
  ended = r.ended;
}

-- a table: its rows and its log; `ready` is the number of the row for which room was made, or 0
pub record TableView (O T : Type 0) : Type 0 where
  pub rows : List (RowView O T)
  pub log : List (ℕ × Event)
  pub ready : ℕ

-- a number that a row has
abbrev pub IsLive : {O T : Type 0} → ℕ → List (RowView O T) → Type 0
IsLive n rows = (0 < n) × (n ≤ length rows)

-- the same rows and the same log; room may have been made or given up
abbrev pub IsSameButRoom : {O T : Type 0} → (old new : TableView O T) → Type 0
IsSameButRoom old new = (new.rows ≡ old.rows) × (new.log ≡ old.log)

-- the events are those of the row with the number, if there is one
abbrev pub AreEventsOf : {O T : Type 0} → ℕ → List (RowView O T) → List Event → Type 0
AreEventsOf {O} {T} n rows events = (r : RowView O T) → slice_get rows (n - 1) ≡ Some r → events ≡ r.events

-- the row with the number has an event at the place, from 0
abbrev pub IsPlaceOf : {O T : Type 0} → ℕ → (place : ℕ) → List (RowView O T) → Type 0
IsPlaceOf {O} {T} n place rows = (r : RowView O T) → slice_get rows (n - 1) ≡ Some r → place < length r.events

-- the list with the item at a place changed
abbrev pub changed_at : {A : Type 0} → (A → A) → ℕ → List A → List A
changed_at f place [] = []
changed_at f zero (x ∷ xs) = f x ∷ xs
changed_at f (suc place) (x ∷ xs) = x ∷ changed_at f place xs

-- the row with a new last piece, which begins after all events, and before which the current
-- contract is owed
abbrev pub with_piece : {O T : Type 0} → RowView O T → RowView O T
with_piece r = record r { starts = r.starts ++ length r.events ∷ []; points = r.points ++ r.current ∷ [] }

-- the row with room for an event: where the last piece is full, a new one begins
abbrev pub with_room : {O T : Type 0} → RowView O T → RowView O T
with_room r = if is_full r.events r.starts then with_piece r else r

-- the row with one more event, and with what is owed after it
abbrev pub with_event : {O T : Type 0} → Event → T → RowView O T → RowView O T
with_event e c r = record r { current = c; events = r.events ++ e ∷ [] }

-- the rows, where the one with the number has one more event, and what is owed after it
abbrev pub recorded : {O T : Type 0} → ℕ → Event → Arc T Global → List (RowView O T) → List (RowView O T)
recorded n e c rows = changed_at (with_event e (arc_value c)) (n - 1) rows

-- the pieces of the row begin in order, the first at 0, and none is too long
abbrev pub HasStarts : {O T : Type 0} → RowView O T → Type 0
HasStarts r = AreStarts r.starts (length r.events)

-- the row, ended
abbrev pub finished : {O T : Type 0} → RowView O T → RowView O T
finished r = record r { ended = true }

-- the number of the row with a name, from 1
abbrev pub number_named : {O T : Type 0} → Name → List (RowView O T) → Option ℕ
number_named x rows = option_map (λ i. i + 1) (position (λ r. nat_eq x.id r.name.id) rows)

-- a new row, without events: what is owed at first is owed before its one piece
abbrev pub new_row : {O T : Type 0} → Name → O → T → RowView O T
new_row x o c = record {
  name = x;
  original = o;
  current = c;
  events = [];
  starts = 0 ∷ [];
  points = c ∷ [];
  ended = false;
}

-- the rows and a new one, without events
abbrev pub with_row : {O T : Type 0} → Name → Arc O Global → Arc T Global → List (RowView O T) → List (RowView O T)
with_row x o c rows = rows ++ new_row x (arc_value o) (arc_value c) ∷ []

-- the events with a number in the log
abbrev pub events_with : ℕ → List (ℕ × Event) → List Event
events_with n log = map (λ p. p.1) (filter (λ p. nat_eq p.0 n) log)

-- the place in the log of the pair that has the event at a place of those with a number
abbrev pub place_in_log : ℕ → (place : ℕ) → List (ℕ × Event) → ℕ
place_in_log n place [] = 0
place_in_log n zero (p ∷ log) = if nat_eq p.0 n then 0 else suc (place_in_log n zero log)
place_in_log n (suc place) (p ∷ log) =
    if nat_eq p.0 n then suc (place_in_log n place log) else suc (place_in_log n (suc place) log)

-- the pair is here in the log: it has the number, and there are so many with the number before it
abbrev pub IsPairOf : ℕ → (place here : ℕ) → List (ℕ × Event) → Type 0
IsPairOf n place here log =
    ((e : Event) × (slice_get log here ≡ Some (n, e))) × (length (events_with n (take here log)) ≡ place)

-- what takes an event out: the number of its row, its places in the row and in the log, and the
-- row's events without it, with the places where their pieces begin
pub record CutView : Type 0 where
  pub number : ℕ
  pub place : ℕ
  pub log_place : ℕ
  pub events : List Event
  pub starts : List ℕ

-- the cut has the events of this row without the one at its place, and where their pieces begin
-- then
pub record IsRowCut {O T : Type 0} (cut : CutView) (r : RowView O T) : Type 0 where
  pub place : cut.place < length r.events
  pub events : cut.events ≡ remove r.events cut.place
  pub starts : cut.starts ≡ starts_without cut.place r.starts

-- the cut is of these rows and this log: of the row with its number, and of the pair that has the
-- event
pub record IsCutOf {O T : Type 0} (rows : List (RowView O T)) (log : List (ℕ × Event)) (cut : CutView) : Type 0 where
  pub live : IsLive cut.number rows
  pub row : (r : RowView O T) → slice_get rows (cut.number - 1) ≡ Some r → IsRowCut cut r
  pub log_place : cut.log_place ≡ place_in_log cut.number cut.place log

-- the cut takes out the event at the place k of the row with the number n
pub record Cuts {O T : Type 0} (n k : ℕ) (table : TableView O T) (cut : CutView) : Type 0 where
  pub number : cut.number ≡ n
  pub place : cut.place ≡ k
  pub fits : IsCutOf table.rows table.log cut

-- the row without the event, with what is owed then, and what was owed before each piece
abbrev pub without_event : {O T : Type 0} → CutView → T → List T → RowView O T → RowView O T
without_event cut c points r =
    record r { current = c; events = remove r.events cut.place; starts = cut.starts; points = points }

-- the rows without the event
abbrev pub taken_out : {O T : Type 0} → CutView → Arc T Global → Listed (Arc T Global) →
    List (RowView O T) → List (RowView O T)
taken_out cut c points rows = changed_at (without_event cut (arc_value c) (values_of points)) (cut.number - 1) rows
