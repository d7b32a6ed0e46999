-- Watches that are moved.
use Rattle.std.proofs.Common.{suc, List, [], ◌∷◌, ◌++◌, sym, ◌∙◌, ap, subst, arith}
use Rattle.std.specs.List.{All}
use Rattle.std.proofs.lemmas.List.Elements.{All-nil, All-cons}
use Rattle.poets_value.specs.declared.event.Event.{Event}
use Rattle.poets_expr.specs.Env.{Declared}
use Rattle.poets_report.specs.declared.folds.Change.{Change}
use Rattle.poets_report.specs.Plain.{Answer}
use Rattle.poets_report.specs.Folds.{Changes}
use Rattle.poets_report.specs.Reports.{report_of, start}
use Rattle.poets_report.specs.Answers.{IsAnswer}
use Rattle.poets_live.specs.declared.watch.Move.{Move}
use Rattle.poets_live.specs.declared.watch.Move.TheVariants as M
use Rattle.poets_live.specs.Courses.{AreMarks, CourseView}
use Rattle.poets_live.specs.code.Courses.{IsCourse}
use Rattle.poets_live.specs.Watching.{Brought, Follows, Leads, LedToEvents, Moved, OneEventMore, WatchState, WatchView}
use Rattle.poets_live.proofs.Marks.{marks-passed}

all_rest : {X : Type 0} (P : X → Type 0) (x : X) (xs : List X) → All P (x ∷ xs) → P x × All P xs
all_rest P x xs h = (h 0 x (omega arith), λ k d lt. h (suc k) d (omega (arith, lt)))

-- a watch with what becomes of it in place
abbrev pub Took : WatchState → WatchState → Move → Type 0
Took old new step = Moved old.watch step new.watch

-- a change by one event more
pub change_brought : (declared : Declared) (e : Event) (w : WatchView) (c : Change) →
    ((events : List Event) (new : Answer) → Follows declared events w → Changes c w.answer new → IsAnswer declared (report_of w.report) w.args (events ++ e ∷ []) new) →
    Brought declared e w (M.More c)
change_brought declared e w c brings events h new m =
    let q = report_of w.report in
    let more = events ++ e ∷ [] in
    let marks : AreMarks declared q w.args more new.marks new.since =
    marks-passed declared q w.args events e w.answer w.marks w.since new.marks new.since h.marks h.answers m.passed in
    record {
      begun = m.start ∙ h.begun ∙ ap (λ a. start declared q a) (sym m.args) ∙ ap (λ r. start declared (report_of r) new.args) (sym m.report);
      answers = subst (λ r. IsAnswer declared (report_of r) new.args more new.answer) (sym m.report)
          (subst (λ a. IsAnswer declared q a more new.answer) (sym m.args) (brings events new.answer h m.answer));
      marks = subst (λ r. AreMarks declared (report_of r) new.args more new.marks new.since) (sym m.report)
          (subst (λ a. AreMarks declared q a more new.marks new.since) (sym m.args) marks);
    }

-- another course
pub course_leads : (declared : Declared) (events : List Event) (w : WatchView) (course : CourseView) →
    IsCourse declared (report_of w.report) w.args events course → Leads declared events w (M.Other course)
course_leads declared events w course h new m =
    subst (Follows declared events) (sym m) (record { begun = h.stands.starts; answers = h.stands.answers; marks = h.marks })

pub one_event_more : OneEventMore
one_event_more declared events e [] [] [] h b m = All-nil (Follows declared (events ++ e ∷ []))
one_event_more declared events e (w ∷ old) (n ∷ moves) (w' ∷ new) h b m =
    let rest = all_rest (Follows declared events) w old h in
    All-cons (Follows declared (events ++ e ∷ [])) w' new (b.0 events rest.0 w' m.0)
    (one_event_more declared events e old moves new rest.1 b.1 m.1)
one_event_more declared events e [] [] (w' ∷ new) h b m = elim m [ ]
one_event_more declared events e [] (n ∷ moves) new h b m = elim b [ ]
one_event_more declared events e (w ∷ old) [] new h b m = elim b [ ]
one_event_more declared events e (w ∷ old) (n ∷ moves) [] h b m = elim m [ ]

pub led_to_events : LedToEvents
led_to_events declared events [] [] [] b m = All-nil (Follows declared events)
led_to_events declared events (w ∷ old) (n ∷ moves) (w' ∷ new) b m =
    All-cons (Follows declared events) w' new (b.0 w' m.0) (led_to_events declared events old moves new b.1 m.1)
led_to_events declared events [] [] (w' ∷ new) b m = elim m [ ]
led_to_events declared events [] (n ∷ moves) new b m = elim b [ ]
led_to_events declared events (w ∷ old) [] new b m = elim b [ ]
led_to_events declared events (w ∷ old) (n ∷ moves) [] b m = elim m [ ]
