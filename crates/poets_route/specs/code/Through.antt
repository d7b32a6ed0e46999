-- Contracts taken through events.
use Rattle.std.specs.Prelude.{◌≡◌, ◌+◌, ◌*◌, ◌≤◌, ◌<◌, ℕ, Option, Some, None}
use Rattle.std.specs.Prelude.{List, [], ◌++◌, length, take, slice_get, fold}
use Rattle.poets_value.specs.declared.event.Event.{Event}
use Rattle.poets_syntax.specs.Book.{book_of}
use Rattle.poets_syntax.specs.Contract.{Contract}
use Rattle.poets_syntax.specs.Plain.{Book}
use Rattle.poets_meaning.specs.Marks.{Marks}
use Rattle.poets_meaning.specs.Perf.{Perf}
use Rattle.poets_meaning.specs.Studied.{StudiedBook, marks_of}
use Rattle.poets_calculus.specs.Residual.{after}
use Rattle.poets_cons.specs.declared.node.Node.{Node}
use Rattle.poets_cons.specs.Table.{contract_of_rows}
use Rattle.poets_way.specs.Trails.{TrailsView}
use Rattle.poets_way.specs.Way.{Way}
use Rattle.poets_way.specs.Ways.{Ways}
use Rattle.poets_route.specs.code.Making.{Makes}

-- the contract taken through the events, one by one
abbrev pub through : Book → Marks → Contract → List Event → Contract
through book marks c s = fold (λ d e. after book marks e d) c s

-- the same in a studied book
abbrev pub through_in : StudiedBook → Contract → List Event → Contract
through_in s c events = through (book_of s.book) (marks_of s) c events

-- the piece and then so many events perform the contract in the second way, where these perform
-- what the piece leaves in the first
abbrev pub BacksOver : Book → Marks → ℕ → Contract → (piece : List Event) → (from to : Way) → Type 0
BacksOver book marks n c piece v w = (s : List Event) → length s ≡ n →
    Ways book [] (through book marks c piece) s v → Ways book [] c (piece ++ s) w

abbrev pub BacksOverIn : StudiedBook → ℕ → Contract → (piece : List Event) → (from to : Way) → Type 0
BacksOverIn s n c piece v w = BacksOver (book_of s.book) (marks_of s) n c piece v w

-- the rows are those of the contract taken through each number of the events
pub record AreResiduals (s : StudiedBook) (c : Contract) (events : List Event) (rows : List (List Node)) : Type 0 where
  pub count : length rows ≡ length events + 1
  pub each : (k : ℕ) (r : List Node) → slice_get rows k ≡ Some r → contract_of_rows r ≡ through_in s c (take k events)

-- the rows are those of the contract taken through as many pieces of the events
abbrev pub AreStations : StudiedBook → Contract → List Event → (size : ℕ) → List (List Node) → Type 0
AreStations s c events size rows = (k : ℕ) (r : List Node) → slice_get rows k ≡ Some r →
    (size * k ≤ length events) × (contract_of_rows r ≡ through_in s c (take (size * k) events))

-- so many pieces of a size begin within so many events, and there is one where there is an event
pub record ArePieces (size pieces events : ℕ) : Type 0 where
  pub some : pieces ≡ 0 → events ≡ 0
  pub begin : (k : ℕ) → k < pieces → size * k ≤ events

-- the events perform the contract whose stations the rows are in the second way, where the empty
-- trace performs what they leave in the first
abbrev pub BacksAllIn : StudiedBook → (size : ℕ) → List (List Node) → (events : List Event) → (from to : Way) → Type 0
BacksAllIn s size rows events v w = (c : Contract) → AreStations s c events size rows →
    Ways (book_of s.book) [] (through_in s c events) [] v → Ways (book_of s.book) [] c events w

-- the rows are the stations, and the last ones those after all events; there is a station where
-- there is an event
pub record Passes (s : StudiedBook) (c : Contract) (events : List Event) (size : ℕ) (rows : List (List Node))
    (last : List Node) : Type 0 where
  pub stations : AreStations s c events size rows
  pub rest : contract_of_rows last ≡ through_in s c events
  pub some : length rows ≡ 0 → length events ≡ 0

-- the number is that of a way of the events; where none is given they do not perform the contract
abbrev pub IsFound : StudiedBook → Contract → List Event → (old new : TrailsView) → Option ℕ → Type 0
IsFound s c events old new None = Perf (book_of s.book) [] c events → ⊥
IsFound s c events old new (Some r) = Makes old new r (λ w. Ways (book_of s.book) [] c events w)
