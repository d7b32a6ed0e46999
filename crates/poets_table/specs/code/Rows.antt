-- What the private functions say of the pieces of a list, and of the rows of a table.
use Rattle.std.specs.Prelude.{◌≡◌, ℕ, zero, suc, ◌+◌, ◌<◌, List, Bool, true, false}
use Rattle.std.specs.Prelude.{Option, Some, None, map, length, set, slice_get, take, remove}
use Rattle.std.specs.declared.alloc.Global.{Global}
use Rattle.std.specs.declared.sync.Arc.{Arc}
use Rattle.std.specs.Arc.{arc_value}
use Rattle.poets_value.specs.Listed.{Listed}
use Rattle.poets_value.specs.declared.event.Event.{Event}
use Rattle.poets_table.specs.Pieces.{EventsView, joined, starts_of}
use Rattle.poets_table.specs.TableView.{RowView, changed_at, row_view, values_of}
use Rattle.poets_table.specs.declared.table.Row.{Row}

-- the event at a place of the list stands in the piece with this number, at the place `inside` of
-- it
pub record IsPlaceIn (pieces : List (List Event)) (place number inside : ℕ) : Type 0 where
  pub piece : List Event
  pub here : slice_get pieces number ≡ Some piece
  pub within : inside < length piece
  pub ahead : place ≡ length (joined (take number pieces)) + inside

-- the same pieces without the event at a place of the list
pub record IsWithout (place : ℕ) (old new : List (List Event)) : Type 0 where
  pub number : ℕ
  pub inside : ℕ
  pub at : IsPlaceIn old place number inside
  pub changed : new ≡ set old number (remove at.piece inside)

-- ahead of a pair, how many of those behind the one that is looked for are left; none where it is
-- the pair
abbrev pub left_ahead : (is_one : Bool) → ℕ → Option ℕ
left_ahead false left = Some left
left_ahead true zero = None
left_ahead true (suc left) = Some left

module _ {O T : Type 0} where
  -- for how many events more each row has room
  abbrev pub rooms_of : List (Row O T) → List ℕ
  rooms_of rows = map (λ r. r.events.room) rows

  -- the row at the place, if there is one, has room for an event
  abbrev pub HasRoomAt : ℕ → List (Row O T) → Type 0
  HasRoomAt place rows = (r : Row O T) → slice_get rows place ≡ Some r → 0 < r.events.room

  -- as plain data, the row at the place is changed, and the others are as before
  abbrev pub HasChangedAt : (RowView O T → RowView O T) → ℕ → (old new : List (Row O T)) → Type 0
  HasChangedAt f place old new = map row_view new ≡ changed_at f place (map row_view old)

  -- the row with other events, with what is owed then, and what was owed ahead of each piece
  abbrev pub with_parts : EventsView → Arc T Global → Listed (Arc T Global) → RowView O T → RowView O T
  with_parts events owed points r = record r {
    current = arc_value owed;
    events = joined events.pieces;
    starts = starts_of events.pieces;
    points = values_of points;
  }
