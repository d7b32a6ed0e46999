-- Reports that are kept live, as plain data. `Follows` and `Begins` speak of their answers by
-- `IsAnswer`; all else only ties the code to them.
use Rattle.std.specs.Prelude.{◌≡◌, ℕ, ◌*◌, ◌-◌, ◌<◌, List, [], ◌∷◌, ◌++◌, Option, Some, None}
use Rattle.std.specs.Prelude.{slice_get}
use Rattle.std.specs.List.{All, AllZip}
use Rattle.poets_value.specs.declared.event.Event.{Event}
use Rattle.poets_value.specs.declared.value.Value.{Value}
use Rattle.poets_value.specs.Listed.{Listed}
use Rattle.poets_expr.specs.declared.env.Decls.{Decls}
use Rattle.poets_expr.specs.Env.{Declared, declared_of}
use Rattle.poets_report.specs.declared.report.Report.{Report}
use Rattle.poets_report.specs.declared.folds.Change.{Change}
use Rattle.poets_report.specs.Reports.{given, report_of, start}
use Rattle.poets_report.specs.Plain.{Answer}
use Rattle.poets_report.specs.Answers.{IsAnswer, answer_of}
use Rattle.poets_report.specs.Folds.{Changes, HasRoomFor, IsSingle, events_of}
use Rattle.poets_report.specs.declared.report.Answer.{Answer as CodeAnswer}
use Rattle.poets_live.specs.declared.watch.Move.{Move}
use Rattle.poets_live.specs.declared.watch.Move.TheVariants as M
use Rattle.poets_live.specs.Courses.{AreMarks, CourseView, IsPassed}

-- a watch: a report and its arguments
pub record WatchView : Type 0 where
  pub report : Report
  pub args : List (Option Value)
  -- what is carried to the first event, and to the first event of each key
  pub start : Option Value
  -- the answer over the events so far
  pub answer : Answer
  -- the marks on the way over them, and how many events came after the last one
  pub marks : List (Option Value)
  pub since : ℕ

-- the keys for whose rows a watch has room, and for how many marks
pub record Room : Type 0 where
  pub keys : List Value
  pub marks : ℕ

-- a watch, and its room
pub record WatchState : Type 0 where
  pub watch : WatchView
  pub room : Room

-- the watch of a report under arguments, on a course
abbrev pub watch_on : Report → (args : List (Option Value)) → CourseView → WatchView
watch_on report args course = record {
  report = report;
  args = args;
  start = course.fold.start;
  answer = course.fold.answer;
  marks = course.marks;
  since = course.since;
}

-- the watch of a report under arguments on a course, and its room
abbrev pub state_of : Report → (args : List (Option Value)) → CourseView → WatchState
state_of report args course = record {
  watch = watch_on report args course;
  room = record { keys = course.fold.keys; marks = course.room };
}

-- the watches in the order of their numbers, and the room of each
pub record WatchesView : Type 0 where
  pub watches : List WatchView
  pub rooms : List Room

-- the watch was begun under these declared names, and has its report's answer over these events,
-- and marks on its way
pub record Follows (declared : Declared) (events : List Event) (w : WatchView) : Type 0 where
  pub begun : w.start ≡ start declared (report_of w.report) w.args
  pub answers : IsAnswer declared (report_of w.report) w.args events w.answer
  pub marks : AreMarks declared (report_of w.report) w.args events w.marks w.since

abbrev pub AllFollow : Declared → List Event → List WatchView → Type 0
AllFollow declared events watches = All (Follows declared events) watches

-- the watches have their answers over the events of the log under the declared names
abbrev pub AllFollowLog : Decls → List (ℕ × Event) → List WatchView → Type 0
AllFollowLog decls log watches = AllFollow (declared_of decls.names) (events_of log) watches

-- a relation of the items of three lists, place by place
abbrev pub AllOfThree : {X Y Z : Type 0} → (X → Y → Z → Type 0) → List X → List Y → List Z → Type 0
AllOfThree P [] [] [] = Unit {0}
AllOfThree P (x ∷ xs) (y ∷ ys) (z ∷ zs) = P x y z × AllOfThree P xs ys zs
AllOfThree P _ _ _ = ⊥

-- the watch with a change in place, past an event
pub record TookChange (old : WatchView) (c : Change) (new : WatchView) : Type 0 where
  pub report : new.report ≡ old.report
  pub args : new.args ≡ old.args
  pub start : new.start ≡ old.start
  pub answer : Changes c old.answer new.answer
  pub passed : IsPassed old.answer old.marks old.since new.marks new.since

-- the watch after this move
abbrev pub Moved : WatchView → Move → WatchView → Type 0
Moved old (M.More c) new = TookChange old c new
Moved old (M.Other course) new = new ≡ watch_on old.report old.args course

-- each watch after its move
abbrev pub AllMoved : List WatchView → List Move → List WatchView → Type 0
AllMoved old moves new = AllOfThree Moved old moves new

-- the move leads the watch to these events: after it, the watch follows them
abbrev pub Leads : Declared → List Event → WatchView → Move → Type 0
Leads declared events w step = (new : WatchView) → Moved w step new → Follows declared events new

-- each move leads its watch to these events
abbrev pub AllLead : Declared → List Event → List WatchView → List Move → Type 0
AllLead declared events watches moves = AllZip (Leads declared events) watches moves

-- each move leads its watch to the events of the log, under the declared names
abbrev pub AllLeadToLog : Decls → List (ℕ × Event) → List WatchView → List Move → Type 0
AllLeadToLog decls log watches moves = AllLead (declared_of decls.names) (events_of log) watches moves

-- the move is what an event brings to a watch: whatever events the watch follows, it leads it to
-- these and this one
abbrev pub Brought : Declared → Event → WatchView → Move → Type 0
Brought declared e w step =
    (events : List Event) → Follows declared events w → Leads declared (events ++ e ∷ []) w step

-- each move is what the event brings to its watch
abbrev pub AllBrought : Declared → Event → List WatchView → List Move → Type 0
AllBrought declared e watches moves = AllZip (Brought declared e) watches moves

-- each move is what the event brings to its watch, under the declared names
abbrev pub AllBroughtUnder : Decls → Event → List WatchView → List Move → Type 0
AllBroughtUnder decls e watches moves = AllBrought (declared_of decls.names) e watches moves

-- there is room for the move: for a change, or for another course, which is of the watch's report
-- and arguments
abbrev pub HasRoomIn : WatchView → Room → Move → Type 0
HasRoomIn w room (M.More c) = HasRoomFor c w.answer room.keys × (0 < room.marks)
HasRoomIn w room (M.Other course) = course.fold.env ≡ given (report_of w.report) w.args

-- there is room for the move of each watch
abbrev pub HaveRoom : WatchesView → List Move → Type 0
HaveRoom w moves = AllOfThree HasRoomIn w.watches w.rooms moves

-- the watch has seen what an event brings: its answer is as before, and it has room for the change
pub record IsSeen (declared : Declared) (e : Event) (old new : WatchState) (step : Move) : Type 0 where
  pub same : new.watch ≡ old.watch
  pub brought : Brought declared e old.watch step
  pub room : HasRoomIn new.watch new.room step

-- the most evaluations that a report takes to leave out the event at a place of so many: without a
-- key one for each event from 255 before it on, and with a key two for each event
abbrev pub asked_by_key : {A : Type 0} → (key : Option A) → (count place : ℕ) → ℕ
asked_by_key None count place = count - (place - 255)
asked_by_key (Some key) count place = 2 * count

-- the most evaluations that a watch takes to leave out the event at a place of a log of so many
abbrev pub asked_without : (count place : ℕ) → WatchView → ℕ
asked_without count place w = asked_by_key w.report.key count place

-- one more watch, which begins with the fold of the log
pub record Begins
    (declared : Declared) (report : Report) (args : List (Option Value)) (log : List (ℕ × Event))
    (old new : List WatchView) : Type 0 where
  pub last : WatchView
  pub added : new ≡ old ++ last ∷ []
  pub of_report : last.report ≡ report
  pub of_args : last.args ≡ args
  pub follows : Follows declared (events_of log) last

-- one more watch, of the report under the declared names, which begins with the fold of the log;
-- the others stay
abbrev pub BeginsUnder :
    Decls → Report → Listed (Option Value) → Listed (ℕ × Event) → (old new : WatchesView) → Type 0
BeginsUnder decls report args log old new =
    Begins (declared_of decls.names) report args.items log.items old.watches new.watches

-- the answer is that of the watch with the number, if there is one
abbrev pub IsAnswerOfWatch : ℕ → List WatchView → CodeAnswer → Type 0
IsAnswerOfWatch n watches a = (w : WatchView) → slice_get watches (n - 1) ≡ Some w → answer_of a ≡ w.answer

-- where the watch with the number is of a report without a key, this holds
abbrev pub WhereSingle : ℕ → List WatchView → Type 0 → Type 0
WhereSingle n watches P = (w : WatchView) → slice_get watches (n - 1) ≡ Some w → IsSingle w.answer → P

-- watches that have their answers over events, moved by what an event brings, have them over the
-- events with it
abbrev pub OneEventMore : Type 0
OneEventMore = (declared : Declared) (events : List Event) (e : Event)
    (old : List WatchView) (moves : List Move) (new : List WatchView) →
    AllFollow declared events old → AllBrought declared e old moves → AllMoved old moves new →
    AllFollow declared (events ++ e ∷ []) new

-- watches that are led to events, moved so, have their answers over these
abbrev pub LedToEvents : Type 0
LedToEvents = (declared : Declared) (events : List Event)
    (old : List WatchView) (moves : List Move) (new : List WatchView) →
    AllLead declared events old moves → AllMoved old moves new → AllFollow declared events new
