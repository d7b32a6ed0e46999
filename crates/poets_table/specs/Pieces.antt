-- Lists of events in pieces.
use Rattle.std.specs.Prelude.{◌≡◌, ◌≤◌, ◌<◌, ℕ, ◌+◌, ◌-◌, List, [], ◌∷◌, ◌++◌}
use Rattle.std.specs.Prelude.{All, Bool, Some, length, map, min, nat_eq, nat_lt, slice_get, suc}
use Rattle.std.specs.Prelude.{if◌then◌else◌}
use Rattle.std.specs.List.{flat_map}
use Rattle.std.specs.declared.alloc.Global.{Global}
use Rattle.std.specs.declared.sync.Arc.{Arc}
use Rattle.std.specs.Arc.{arc_value}
use Rattle.poets_value.specs.Listed.{Listed}
use Rattle.poets_value.specs.declared.event.Event.{Event}
use Rattle.poets_table.specs.declared.events.TheConstants.{PIECE_LENGTH, MOST_PIECES}

-- the most events of a piece
abbrev pub piece_length : ℕ
piece_length = PIECE_LENGTH

-- the most sealed pieces, which can be counted in a word
abbrev pub most_pieces : ℕ
most_pieces = MOST_PIECES

-- a list of events as it is stored: its pieces, and for how many more events the last one has room
pub record EventsView : Type 0 where
  pub pieces : List (List Event)
  pub room : ℕ

-- the pieces joined in order
abbrev pub joined : List (List Event) → List Event
joined pieces = flat_map (λ p. p) pieces

-- how many events come before each piece, where so many come before the first
abbrev pub starts_from : ℕ → List (List Event) → List ℕ
starts_from n [] = []
starts_from n (p ∷ pieces) = n ∷ starts_from (n + length p) pieces

-- where each piece begins
abbrev pub starts_of : List (List Event) → List ℕ
starts_of pieces = starts_from 0 pieces

-- where the last piece begins
abbrev pub last_start : List ℕ → ℕ
last_start [] = 0
last_start (n ∷ []) = n
last_start (n ∷ n' ∷ starts) = last_start (n' ∷ starts)

-- the last piece has as many events as a piece may have
abbrev pub is_full : List Event → (starts : List ℕ) → Bool
is_full events starts = nat_eq (length events - last_start starts) piece_length

-- pieces of at most so many events follow each other: the next one begins after n, no further than
-- a piece's length
abbrev pub AreNear : ℕ → (starts : List ℕ) → Type 0
AreNear n [] = Unit {0}
AreNear n (m ∷ starts) = (n ≤ m) × (m ≤ n + piece_length) × AreNear m starts

-- pieces of so many events begin here: in order, the first at 0, and none is too long
abbrev pub AreStarts : List ℕ → (count : ℕ) → Type 0
AreStarts [] count = ⊥
AreStarts (n ∷ starts) count = (n ≡ 0) × AreNear n (starts ++ count ∷ [])

-- the piece with the number has the event at the place: it begins there, or less than a piece's
-- length before it, and the next piece, if there is one, begins after it
abbrev pub IsPieceOf : (place : ℕ) → List ℕ → (number : ℕ) → Type 0
IsPieceOf place starts number =
    (n : ℕ) × (slice_get starts number ≡ Some n) × (n ≤ place) × (place < n + piece_length)
    × ((m : ℕ) → slice_get starts (suc number) ≡ Some m → place < m)

-- where pieces begin once the event at a place is out: those after it begin one place earlier
abbrev pub starts_without : ℕ → List ℕ → List ℕ
starts_without place starts = map (λ n. if nat_lt place n then n - 1 else n) starts

-- the events of shared pieces
abbrev pub pieces_of : List (Arc (Listed Event) Global) → List (List Event)
pieces_of pieces = map (λ p. (arc_value {X = Listed Event} p).items) pieces

-- how many more events a last piece takes without new memory
abbrev pub free_places : Listed Event → ℕ
free_places last = min last.room (piece_length - length last.items)

-- sealed pieces, and then the last one
abbrev pub events_view : List (Arc (Listed Event) Global) → Listed Event → EventsView
events_view sealed last = record { pieces = pieces_of sealed ++ last.items ∷ []; room = free_places last }

-- no piece is too long, and there are not too many
abbrev pub AreShort : List (List Event) → Type 0
AreShort pieces = (length pieces ≤ most_pieces) × All (λ p. length p ≤ piece_length) pieces

-- what is kept of a list of events: short pieces that are sealed, how many events they have, and a
-- last one
abbrev pub AreKept : List (List Event) → (ahead : ℕ) → (last : List Event) → Type 0
AreKept sealed ahead last =
    AreShort sealed × (ahead ≡ length (joined sealed)) × (length last ≤ piece_length)
