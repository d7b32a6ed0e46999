-- What an explanation says, and of what.
use Rattle.std.specs.Prelude.{List, [], All, Option, Some, None}
use Rattle.poets_value.specs.declared.event.Event.{Event}
use Rattle.poets_syntax.specs.Book.{book_of}
use Rattle.poets_syntax.specs.Contract.{Contract}
use Rattle.poets_syntax.specs.WellFormed.{IsDeclaredEvent, IsWellFormed}
use Rattle.poets_meaning.specs.Perf.{Perf}
use Rattle.poets_meaning.specs.Studied.{StudiedBook}
use Rattle.poets_way.specs.Way.{Way}
use Rattle.poets_way.specs.Ways.{Ways}

-- the contract is well-formed in the studied book (`IsWellFormed`): its binders are no declared
-- names, and the literals in its arguments are of declared kinds
abbrev pub FormedIn : StudiedBook → Contract → Type 0
FormedIn s c = IsWellFormed (book_of s.book).declared c

-- the event's agents and its kind are declared as such in the studied book (`IsDeclaredEvent`)
abbrev pub DeclaredIn : StudiedBook → Event → Type 0
DeclaredIn s e = IsDeclaredEvent (book_of s.book).declared e

-- the agents and the kinds of all events are declared as such in the studied book
abbrev pub AreDeclaredIn : StudiedBook → List Event → Type 0
AreDeclaredIn s events = All (DeclaredIn s) events

-- the events perform the contract in the way that is given; where none is given they do not perform
-- it
abbrev pub IsExplained : StudiedBook → Contract → List Event → Option Way → Type 0
IsExplained s c events None = Perf (book_of s.book) [] c events → ⊥
IsExplained s c events (Some w) = Ways (book_of s.book) [] c events w
