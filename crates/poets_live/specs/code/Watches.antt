-- What the private functions say of one watch, and of all watches in the code's order.
use Rattle.std.specs.Prelude.{ℕ, List, map}
use Rattle.std.specs.List.{All, AllZip}
use Rattle.poets_value.specs.Listed.{Listed}
use Rattle.poets_value.specs.declared.event.Event.{Event}
use Rattle.poets_expr.specs.declared.env.Decls.{Decls}
use Rattle.poets_expr.specs.Env.{declared_of}
use Rattle.poets_report.specs.Folds.{events_of}
use Rattle.poets_live.specs.declared.watch.Move.{Move}
use Rattle.poets_live.specs.Watching.{AllOfThree, Brought, Follows, HasRoomIn, IsSeen}
use Rattle.poets_live.specs.Watching.{Leads, Moved, WatchState, WatchView}

-- the watch has its report's answer over the events of the log, under the declared names
abbrev pub FollowsLog : Decls → List (ℕ × Event) → WatchView → Type 0
FollowsLog decls log w = Follows (declared_of decls.names) (events_of log) w

-- what becomes of the watch leads it to the events of the log, under the declared names
abbrev pub LeadsToLog : Decls → List (ℕ × Event) → WatchView → Move → Type 0
LeadsToLog decls log w step = Leads (declared_of decls.names) (events_of log) w step

-- this is what an event brings to a watch under the declared names
abbrev pub BroughtUnder : Decls → Event → WatchView → Move → Type 0
BroughtUnder decls e w step = Brought (declared_of decls.names) e w step

-- each watch was asked what an event brings under the declared names: it answers as before, and has
-- room for it
abbrev pub AllSeen : Decls → Event → (old new : List WatchState) → Listed Move → Type 0
AllSeen decls e old new moves = AllOfThree (IsSeen (declared_of decls.names) e) old new moves.items

-- each watch has its answer over the events of the log
abbrev pub AllFollowTheLog : Decls → List (ℕ × Event) → List WatchState → Type 0
AllFollowTheLog decls log watches = All (λ s. FollowsLog decls log s.watch) watches

-- the watch is led to the events of the log, and that can be put in place
abbrev pub IsLed : Decls → List (ℕ × Event) → WatchState → Move → Type 0
IsLed decls log s step = LeadsToLog decls log s.watch step × HasRoomIn s.watch s.room step

-- each watch is
abbrev pub AllLed : Decls → List (ℕ × Event) → List WatchState → Listed Move → Type 0
AllLed decls log watches moves = AllZip (IsLed decls log) watches moves.items

-- there is room in each watch for what becomes of it
abbrev pub AllHaveRoom : List WatchState → List Move → Type 0
AllHaveRoom watches moves = AllOfThree HasRoomIn (map (λ s. s.watch) watches) (map (λ s. s.room) watches) moves

-- each watch took what becomes of it
abbrev pub AllTook : (old new : List WatchState) → List Move → Type 0
AllTook old new moves = AllOfThree (λ before after step. Moved before.watch step after.watch) old new moves
