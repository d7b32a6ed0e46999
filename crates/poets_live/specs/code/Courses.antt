-- What the private functions say of courses.
use Rattle.std.specs.Prelude.{◌≡◌, ℕ, ◌-◌, ◌≤◌, ◌<◌, List, ◌++◌, Option, Some, None, length}
use Rattle.std.specs.Prelude.{slice_get, take, unwrap_or}
use Rattle.poets_value.specs.declared.event.Event.{Event}
use Rattle.poets_value.specs.declared.value.Value.{Value}
use Rattle.poets_expr.specs.declared.env.Decls.{Decls}
use Rattle.poets_expr.specs.Env.{Declared, declared_of}
use Rattle.poets_report.specs.declared.report.Report.{Report}
use Rattle.poets_report.specs.declared.folds.Change.{Change}
use Rattle.poets_report.specs.Plain as plain
use Rattle.poets_report.specs.Plain.{Answer, Single, Rows}
use Rattle.poets_report.specs.Reports.{report_of}
use Rattle.poets_report.specs.Folds.{Changes, StandsFor, asked_by_event, events_of}
use Rattle.poets_live.specs.Courses.{AreMarks, CourseView, IsPassed, apart}

-- the course of a report under arguments over these events
pub record IsCourse
    (declared : Declared) (q : plain.Report) (args : List (Option Value)) (events : List Event)
    (course : CourseView) : Type 0 where
  pub stands : StandsFor declared q args events course.fold
  pub marks : AreMarks declared q args events course.marks course.since

-- an answer that carries on from the last mark, if there is one
abbrev pub carried_on : Answer → (marks : List (Option Value)) → Answer
carried_on (Single v) marks = Single (unwrap_or (slice_get marks (length marks - 1)) v)
carried_on (Rows rows) marks = Rows rows

-- the course of the report under the declared names over these events
abbrev pub IsCourseUnder : Decls → Report → List (Option Value) → List Event → CourseView → Type 0
IsCourseUnder decls report args events course = IsCourse (declared_of decls.names) (report_of report) args events course

abbrev pub IsCourseOfLog : Decls → Report → List (Option Value) → List (ℕ × Event) → CourseView → Type 0
IsCourseOfLog decls report args log course = IsCourseUnder decls report args (events_of log) course

-- a course over any events goes on over these and then `more`
abbrev pub CourseGoesOn : Declared → plain.Report → List Event → CourseView → CourseView → Type 0
CourseGoesOn declared q more old new = (args : List (Option Value)) (events : List Event) →
    IsCourse declared q args events old → IsCourse declared q args (events ++ more) new

abbrev pub CourseGoesOnUnder : Decls → Report → List Event → CourseView → CourseView → Type 0
CourseGoesOnUnder decls report more old new = CourseGoesOn (declared_of decls.names) (report_of report) more old new

-- the answers are both with a key, or both without
abbrev pub IsKind : CourseView → CourseView → Type 0
IsKind old new = asked_by_event new.fold.answer ≡ asked_by_event old.fold.answer

-- without a key the last mark is near
abbrev pub IsNear : {A : Type 0} → Option A → ℕ → Type 0
IsNear None left = left < apart
IsNear (Some key) left = Unit {0}

-- the course up to a mark, and so many events stand between it and the place
pub record IsCourseUpTo
    (declared : Declared) (q : plain.Report) (args : List (Option Value)) (events : List Event)
    (place : ℕ) (course : CourseView) (left : ℕ) : Type 0 where
  pub within : left ≤ place
  pub near : IsNear q.key left
  pub over : IsCourse declared q args (take (place - left) events) course

abbrev pub IsUpTo : Decls → Report → List (Option Value) → List (ℕ × Event) → ℕ → CourseView × ℕ → Type 0
IsUpTo decls report args log place r =
    IsCourseUpTo (declared_of decls.names) (report_of report) args (events_of log) place r.0 r.1

-- the course has passed an event
abbrev pub Passes : (old new : CourseView) → Type 0
Passes old new = IsPassed old.fold.answer old.marks old.since new.marks new.since

-- the change was put in place, and the event was passed
pub record TakesChange (c : Change) (old new : CourseView) : Type 0 where
  pub env : new.fold.env ≡ old.fold.env
  pub start : new.fold.start ≡ old.fold.start
  pub answer : Changes c old.fold.answer new.fold.answer
  pub passed : Passes old new
