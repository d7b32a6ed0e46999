-- How runs end.
use Rattle.std.proofs.Common.{◌≡◌, ◌≢◌, ℕ, ◌+◌, ◌<◌, ◌≤◌, List, [], length, Option, Some, refl, sym, ap, subst, ◌⊎◌, inl, inr, arith}
use Rattle.std.specs.Prelude.{IfSome}
use Rattle.std.specs.Io.KnownBytes.{Appends}
use Rattle.poets_io.specs.Causes.{Rose}
use Rattle.poets_io.specs.Streams.{GivesAll, LosesFront}
use Rattle.poets_io.proofs.Transfers.{IfSome-loses_more}
use Rattle.poets_lex.specs.Table.{Table}
use Rattle.poets_command.specs.Plain.{Entry}
use Rattle.poets_command.specs.Said.{Statement}
use Rattle.poets_session.specs.Sessions.{Text, IsSession, IsNoSession}
use Rattle.poets_session.specs.declared.form.Form.{Form}
use Rattle.poets_session.specs.declared.session.Session.{Session}
use Rattle.poets_session.proofs.LawsRefused.{session_unrefused}
use Rattle.poets_opening.specs.Limits.{block, longest}
use Rattle.poets_opening.specs.Unread.{EndsUnread, Gave, RefusesSource}
use Rattle.poets_opening.specs.Opening.{Opens}
use Rattle.poets_words.specs.Words.{AskFor}
use Rattle.poets_words.specs.declared.mode.Mode.{Mode}
use Rattle.poets_words.specs.declared.mode.Mode.TheVariants as M
use Rattle.poets_words.proofs.Forms.{asked_once}
use Rattle.poets_top.specs.Demonstrating.{IsDemonstration, HasDemonstrated}
use Rattle.poets_top.specs.Explaining.{HasExplained}
use Rattle.poets_top.specs.Exporting.{HasExported}
use Rattle.poets_top.specs.Replaying.{HasReplayed}
use Rattle.poets_top.specs.Running.{HasRun}
use Rattle.poets_top.specs.Runs.{IsMade, IsAnswerTo, IsResult, IsEnding, Ends, Deserves, DeservesRun, IsStatusOrMemory, NoFaultRose}
use Rattle.poets_top.specs.code.Sessions.{IsSessionOf}
use Rattle.poets_top.specs.Tasks.{form_of}
use Rattle.poets_writing.specs.Writing.{Change, Stream, IsWritten}
use Rattle.poets_writing.proofs.Written.{IsWritten-nothing, IsWritten-weaker}
use Rattle.poets_words.specs.declared.mode.Task.{Task}
use Rattle.poets_words.specs.declared.mode.Task.TheVariants as T

-- ---- what is answered

-- the source gave no session of the task's form
refused_answer : (task : Task) (source source' : Stream) {status : ℕ} {h : List Entry} {line : List ℕ} → RefusesSource (form_of task) source source' status h line →
    IsResult task source source' status h line
refused_answer task source source' (RefusesSource.Refused given refused) = IsResult.Read given.all given.short (IsAnswerTo.Refused refused)
refused_answer task source source' (RefusesSource.TooLong front kept) = IsResult.TooLong front

unread : (task : Task) (source source' sink sink' : Stream) {status : ℕ} {h : List Entry} → EndsUnread (form_of task) source source' sink sink' status h →
    IsEnding task source source' sink sink' status h
unread task source source' sink sink' (EndsUnread.Told written kept) =
    IsEnding.Answered kept
    (IsWritten-weaker (RefusesSource (form_of task) source source') (IsResult task source source') sink sink' (λ status h line refused. refused_answer task source source' refused) written)
unread task source source' sink sink' (EndsUnread.ReadFailed failed front same) = IsEnding.ReadFailed failed front same

pub IsEnding-unread : (task : Task) (form : Form) (source source' sink sink' : Stream) {status : ℕ} {h : List Entry} → form ≡ form_of task →
    EndsUnread form source source' sink sink' status h → IsEnding task source source' sink sink' status h
IsEnding-unread task form source source' sink sink' {status} {h} same ends = unread task source source' sink sink' (subst (λ f. EndsUnread f source source' sink sink' status h) same ends)

-- it gave one
pub IsSessionOf-opened : (task : Task) (form : Form) (source : Change) (session : Session) → form ≡ form_of task → (opened : Opens form source session) →
    IsSessionOf (form_of task) opened.1.text opened.0 session
IsSessionOf-opened task form source session same opened =
    record { is = subst (λ f. IsSession opened.1.text f session.names opened.0) same opened.1.session; holds = opened.2 }

-- it gave one, which was answered
pub IsEnding-answered : (task : Task) (source source' sink sink' : Stream) (text : Text) {status : ℕ} {h : List Entry} → Gave source source' text →
    IsWritten (IsAnswerTo text task) sink sink' status h → IsEnding task source source' sink sink' status h
IsEnding-answered task source source' sink sink' text given written =
    IsEnding.Answered given.faultless
    (IsWritten-weaker (IsAnswerTo text task) (IsResult task source source') sink sink' (λ status h line answer. IsResult.Read given.all given.short answer) written)

-- ---- statuses

answer_status : {text : List ℕ} {task : Task} {s : ℕ} {h : List Entry} {w : List ℕ} → IsAnswerTo text task s h w → s ≤ 1
answer_status (IsAnswerTo.Made a c) = omega arith
answer_status (IsAnswerTo.Refused a) = omega arith

result_status : {task : Task} {source source' : Stream} {s : ℕ} {h : List Entry} {w : List ℕ} → IsResult task source source' s h w → (s ≤ 1) ⊎ (s ≡ 6)
result_status (IsResult.Read g l a) = inl (answer_status a)
result_status (IsResult.TooLong l) = inr refl

no_two : (s : ℕ) → (s ≤ 1) ⊎ (s ≡ 6) → s ≢ 2
no_two s (inl h) e = omega (arith, h, e)
no_two s (inr h) e = omega (arith, h, e)

module _ (task : Task) (source source' sink sink' : Stream) where
  written_not_two : {status : ℕ} {h : List Entry} → IsWritten (IsResult task source source') sink sink' status h → status ≢ 2
  written_not_two (IsWritten.Whole {status = s} a w k) = no_two s (result_status a)
  written_not_two (IsWritten.Failed a w r) = λ e. omega (arith, e)
  written_not_two (IsWritten.MemoryBetween names a some w k) = λ e. omega (arith, e)
  written_not_two (IsWritten.MemoryBefore e) = λ e. omega (arith, e)

  -- words that ask for a task do not end with the status of words that ask for none
  pub IsEnding-not_two : {status : ℕ} {h : List Entry} → IsEnding task source source' sink sink' status h → status ≢ 2
  IsEnding-not_two (IsEnding.Answered k w) = written_not_two w
  IsEnding-not_two (IsEnding.ReadFailed r l k) = λ e. omega (arith, e)

  written_later : {status : ℕ} {h : List Entry} → IsWritten (IsResult task source source') sink sink' status h → sink.faults ≤ sink'.faults
  written_later (IsWritten.Whole a w k) = omega (arith, k)
  written_later (IsWritten.Failed a w r) = r.later
  written_later (IsWritten.MemoryBetween names a some w k) = omega (arith, k)
  written_later (IsWritten.MemoryBefore e) = let k = ap (λ s. s.faults) e in omega (arith, k)

  -- the counts of faults do not fall
  IsEnding-later : {status : ℕ} {h : List Entry} → IsEnding task source source' sink sink' status h → (source.faults ≤ source'.faults) × (sink.faults ≤ sink'.faults)
  IsEnding-later (IsEnding.Answered k w) = (omega (arith, k), written_later w)
  IsEnding-later (IsEnding.ReadFailed r l k) = let e = ap (λ s. s.faults) k in (r.later, omega (arith, e))

-- ---- a text that the source told

-- a source that gave too much had more than a session has
not_short : (text : List ℕ) (left' : Option (List ℕ)) → length text ≤ longest → LosesFront (longest + 1) (longest + block) (Some text) left' → ⊥
not_short text left' short l =
    let more : longest < length text = IfSome-loses_more longest (longest + block) (Some text) left' l in
    omega (arith, short, more)

made_status : (text : Text) (task : Task) (names : Table) (statements : List Statement) → IsSession text (form_of task) names statements →
    {s : ℕ} {h : List Entry} {w : List ℕ} → IsAnswerTo text task s h w → s ≡ 0
made_status text task names statements session (IsAnswerTo.Made a c) = refl
made_status text task names statements session (IsAnswerTo.Refused {names = others} {r = r} a) =
    absurd (session_unrefused text (form_of task) others names r statements a session)

refused_status : (text : Text) (task : Task) → IsNoSession text (form_of task) → {s : ℕ} {h : List Entry} {w : List ℕ} → IsAnswerTo text task s h w → s ≡ 1
refused_status text task none (IsAnswerTo.Made {names = names} {statements = statements} a c) = absurd (none names statements a)
refused_status text task none (IsAnswerTo.Refused a) = refl

-- every answer to the task has the status
abbrev IsAnsweredBy : Text → Task → (wanted : ℕ) → Type 0
IsAnsweredBy text task wanted = (s : ℕ) (h : List Entry) (w : List ℕ) → IsAnswerTo text task s h w → s ≡ wanted

module _ (text : Text) (task : Task) (source source' : Stream) (told : source.bytes ≡ Some text) where
  -- a text of no more bytes than a session may have
  short_status : (wanted : ℕ) → length text ≤ longest → IsAnsweredBy text task wanted →
      {s : ℕ} {h : List Entry} {w : List ℕ} → IsResult task source source' s h w → s ≡ wanted
  short_status wanted short f (IsResult.Read {text = read} {written = w} {status = s} {h = h} g l a) =
      let same : text ≡ read = (rw told at g).0 in
      f s h w (subst (λ t. IsAnswerTo t task s h w) (sym same) a)
  short_status wanted short f (IsResult.TooLong l) = absurd (not_short text source'.bytes short (rw told at l))

  long_status : longest < length text → {s : ℕ} {h : List Entry} {w : List ℕ} → IsResult task source source' s h w → s ≡ 6
  long_status long (IsResult.Read {text = read} g l a) =
      absurd (let same : text ≡ read = (rw told at g).0 in let long_too : length text ≡ length read = ap length same in omega (arith, long, l, long_too))
  long_status long (IsResult.TooLong l) = refl

  -- what a source asks for that told its text has the status that the text deserves
  told_status : {wanted : ℕ} → Deserves task text wanted → {s : ℕ} {h : List Entry} {w : List ℕ} → IsResult task source source' s h w → s ≡ wanted
  told_status (Deserves.OfSession {names = names} {statements = statements} short session) r =
      short_status 0 short (λ s h w a. made_status text task names statements session a) r
  told_status (Deserves.OfNoSession short none) r = short_status 1 short (λ s h w a. refused_status text task none a) r
  told_status (Deserves.OfTooLong long) r = long_status long r

  written_status : (sink sink' : Stream) (wanted : ℕ) → Deserves task text wanted → (Rose sink.faults sink'.faults → ⊥) → {status : ℕ} {h : List Entry} →
      IsWritten (IsResult task source source') sink sink' status h → IsStatusOrMemory wanted status
  written_status sink sink' wanted d n (IsWritten.Whole a w k) = inl (told_status d a)
  written_status sink sink' wanted d n (IsWritten.Failed a w r) = absurd (n r.rose)
  written_status sink sink' wanted d n (IsWritten.MemoryBetween names a some w k) = inr refl
  written_status sink sink' wanted d n (IsWritten.MemoryBefore e) = inr refl

  -- where neither the source nor the sink failed
  IsEnding-status : (sink sink' : Stream) (wanted : ℕ) → Deserves task text wanted → (Rose source.faults source'.faults → ⊥) → (Rose sink.faults sink'.faults → ⊥) →
      {status : ℕ} {h : List Entry} → IsEnding task source source' sink sink' status h → IsStatusOrMemory wanted status
  IsEnding-status sink sink' wanted d m n (IsEnding.Answered k w) = written_status sink sink' wanted d n w
  IsEnding-status sink sink' wanted d m n (IsEnding.ReadFailed r l k) = absurd (m r.rose)

-- ---- the status 0

-- a session was read, this was made of it, and it was written
record IsDone (task : Task) (source source' sink sink' : Stream) (h : List Entry) : Type 0 where
  pub text : Text
  pub given : GivesAll source.bytes source'.bytes text
  pub names : Table
  pub statements : List Statement
  pub session : IsSession text (form_of task) names statements
  pub line : List ℕ
  pub made : IsMade task names statements h line
  pub written : Appends sink.bytes sink'.bytes line

module _ (task : Task) (source source' sink sink' : Stream) where
  done_by : {s : ℕ} {h : List Entry} {text w : List ℕ} → s ≡ 0 → IsAnswerTo text task s h w → GivesAll source.bytes source'.bytes text →
      Appends sink.bytes sink'.bytes w → IsDone task source source' sink sink' h
  done_by {text = text} {w = line} z (IsAnswerTo.Made {names = names} {statements = statements} session made) g a = record {
    text = text;
    given = g;
    names = names;
    statements = statements;
    session = session;
    line = line;
    made = made;
    written = a;
  }
  done_by z (IsAnswerTo.Refused r) g a = absurd (omega (arith, z))

  done_with : {s : ℕ} {h : List Entry} {w : List ℕ} → s ≡ 0 → IsResult task source source' s h w → Appends sink.bytes sink'.bytes w → IsDone task source source' sink sink' h
  done_with z (IsResult.Read g l answer) a = done_by z answer g a
  done_with z (IsResult.TooLong l) a = absurd (omega (arith, z))

  written_done : {s : ℕ} {h : List Entry} → s ≡ 0 → IsWritten (IsResult task source source') sink sink' s h → IsDone task source source' sink sink' h
  written_done z (IsWritten.Whole r a k) = done_with z r a
  written_done z (IsWritten.Failed r a k) = absurd (omega (arith, z))
  written_done z (IsWritten.MemoryBetween names r some a k) = absurd (omega (arith, z))
  written_done z (IsWritten.MemoryBefore e) = absurd (omega (arith, z))

  ending_done : {s : ℕ} {h : List Entry} → s ≡ 0 → IsEnding task source source' sink sink' s h → IsDone task source source' sink sink' h
  ending_done z (IsEnding.Answered k w) = written_done z w
  ending_done z (IsEnding.ReadFailed r l k) = absurd (omega (arith, z))

-- ---- demonstrations

demo_status : {sales s : ℕ} {h : List Entry} {w : List ℕ} → IsDemonstration sales s h w → s ≡ 0
demo_status (IsDemonstration.Demonstrated d) = refl

shown_by : {sales s : ℕ} {h : List Entry} {w : List ℕ} {held held' : Option (List ℕ)} → IsDemonstration sales s h w → Appends held held' w → HasDemonstrated sales held held' h
shown_by {held = held} {held' = held'} (IsDemonstration.Demonstrated d) a = record {
  demonstrated = record { names = d.names; statements = d.statements; session = d.session; history = d.history; line_is = refl };
  written = subst (Appends held held') d.line_is a;
}

module _ (sales : ℕ) (sink sink' : Stream) where
  demo_not_two : {status : ℕ} {h : List Entry} → IsWritten (IsDemonstration sales) sink sink' status h → status ≢ 2
  demo_not_two (IsWritten.Whole a w k) = let z = demo_status a in λ e. omega arith
  demo_not_two (IsWritten.Failed a w r) = λ e. omega (arith, e)
  demo_not_two (IsWritten.MemoryBetween names a some w k) = λ e. omega (arith, e)
  demo_not_two (IsWritten.MemoryBefore e) = λ e. omega (arith, e)

  demo_later : {status : ℕ} {h : List Entry} → IsWritten (IsDemonstration sales) sink sink' status h → sink.faults ≤ sink'.faults
  demo_later (IsWritten.Whole a w k) = omega (arith, k)
  demo_later (IsWritten.Failed a w r) = r.later
  demo_later (IsWritten.MemoryBetween names a some w k) = omega (arith, k)
  demo_later (IsWritten.MemoryBefore e) = let k = ap (λ s. s.faults) e in omega (arith, k)

  demo_ended : {status : ℕ} {h : List Entry} → (Rose sink.faults sink'.faults → ⊥) → IsWritten (IsDemonstration sales) sink sink' status h → IsStatusOrMemory 0 status
  demo_ended n (IsWritten.Whole a w k) = inl (demo_status a)
  demo_ended n (IsWritten.Failed a w r) = absurd (n r.rose)
  demo_ended n (IsWritten.MemoryBetween names a some w k) = inr refl
  demo_ended n (IsWritten.MemoryBefore e) = inr refl

  demo_shown : {status : ℕ} {h : List Entry} → status ≡ 0 → IsWritten (IsDemonstration sales) sink sink' status h → HasDemonstrated sales sink.bytes sink'.bytes h
  demo_shown z (IsWritten.Whole a w k) = shown_by a w
  demo_shown z (IsWritten.Failed a w r) = absurd (omega (arith, z))
  demo_shown z (IsWritten.MemoryBetween names a some w k) = absurd (omega (arith, z))
  demo_shown z (IsWritten.MemoryBefore e) = absurd (omega (arith, z))

-- ---- runs

module _ (source source' sink sink' : Stream) (status : ℕ) (h : List Entry) where
  -- a run for one thing is one for the thing that was asked for
  pub Ends-asked : (words : List (List ℕ)) (mode asked : Mode) → AskFor words mode → AskFor words asked → Ends source source' sink sink' status h mode → Ends source source' sink sink' status h asked
  Ends-asked words mode asked here there e = subst (Ends source source' sink sink' status h) (asked_once words mode asked here there) e

  -- words that ask for something do not end with the status of words that ask for nothing
  pub Ends-not_two : {mode : Mode} → Ends source source' sink sink' status h mode → status ≢ 2
  Ends-not_two (Ends.OfTask {task = task} e) = IsEnding-not_two task source source' sink sink' e
  Ends-not_two (Ends.OfDemo {sales = sales} same w) = demo_not_two sales sink sink' w

  -- the counts of faults do not fall
  pub Ends-later : {mode : Mode} → Ends source source' sink sink' status h mode → (source.faults ≤ source'.faults) × (sink.faults ≤ sink'.faults)
  Ends-later (Ends.OfTask {task = task} e) = IsEnding-later task source source' sink sink' e
  Ends-later (Ends.OfDemo {sales = sales} same w) = let k = ap (λ s. s.faults) same in (omega (arith, k), demo_later sales sink sink' w)

  -- where neither the source nor the sink failed
  pub Ends-status : {mode : Mode} (wanted : ℕ) → DeservesRun source.bytes mode wanted → NoFaultRose source.faults source'.faults sink.faults sink'.faults → Ends source source' sink sink' status h mode → IsStatusOrMemory wanted status
  Ends-status wanted (DeservesRun.OfTask {task = task} {text = text} told d) faultless (Ends.OfTask e) = IsEnding-status text task source source' told sink sink' wanted d faultless.source faultless.sink e
  Ends-status wanted (DeservesRun.OfDemo) faultless (Ends.OfDemo {sales = sales} same w) = demo_ended sales sink sink' faultless.sink w

  pub Ends-shown : {sales : ℕ} → status ≡ 0 → Ends source source' sink sink' status h (M.Demo sales) → HasDemonstrated sales sink.bytes sink'.bytes h
  Ends-shown {sales} zero (Ends.OfDemo same w) = demo_shown sales sink sink' zero w

  pub Ends-run : status ≡ 0 → Ends source source' sink sink' status h (M.Read T.Run) → HasRun source.bytes source'.bytes sink.bytes sink'.bytes h
  Ends-run zero (Ends.OfTask e) =
      let d = ending_done T.Run source source' sink sink' zero e in
      record {
        text = d.text;
        given = d.given;
        names = d.names;
        statements = d.statements;
        session = d.session;
        history = d.made.history;
        written = subst (Appends sink.bytes sink'.bytes) d.made.lines d.written;
      }

  pub Ends-replayed : status ≡ 0 → Ends source source' sink sink' status h (M.Read T.Replay) → HasReplayed source.bytes source'.bytes sink.bytes sink'.bytes h
  Ends-replayed zero (Ends.OfTask e) =
      let d = ending_done T.Replay source source' sink sink' zero e in
      record {
        text = d.text;
        given = d.given;
        names = d.names;
        statements = d.statements;
        session = d.session;
        history = d.made.history;
        written = subst (Appends sink.bytes sink'.bytes) d.made.lines d.written;
      }

  pub Ends-explained : (name : List ℕ) → status ≡ 0 → Ends source source' sink sink' status h (M.Read (T.Explain name)) → HasExplained name source.bytes source'.bytes sink.bytes sink'.bytes h
  Ends-explained name zero (Ends.OfTask e) =
      let d = ending_done (T.Explain name) source source' sink sink' zero e in
      record {
        text = d.text;
        given = d.given;
        names = d.names;
        statements = d.statements;
        session = d.session;
        history = d.made.history;
        explanation = d.line;
        explains = d.made.explains;
        written = d.written;
      }

  pub Ends-exported : status ≡ 0 → Ends source source' sink sink' status h (M.Read T.Export) → HasExported source.bytes source'.bytes sink.bytes sink'.bytes h
  Ends-exported zero (Ends.OfTask e) =
      let d = ending_done T.Export source source' sink sink' zero e in
      record {
        text = d.text;
        given = d.given;
        names = d.names;
        statements = d.statements;
        session = d.session;
        history = d.made.history;
        line = d.line;
        document = d.made.document;
        written = d.written;
      }

  -- for want of memory ahead of all
  pub Ends-nothing : (mode : Mode) → source' ≡ source → sink' ≡ sink → status ≡ 3 → h ≡ [] → Ends source source' sink sink' status h mode
  Ends-nothing (M.Read task) unread unwritten three empty =
      Ends.OfTask (IsEnding.Answered (ap (λ s. s.faults) unread) (IsWritten-nothing (IsResult task source source') sink sink' status h unwritten three empty))
  Ends-nothing (M.Demo sales) unread unwritten three empty = Ends.OfDemo unread (IsWritten-nothing (IsDemonstration sales) sink sink' status h unwritten three empty)

-- what was found in words that ask for it
pub asked_of : (words : List (List ℕ)) (found : Option Mode) (m mode : Mode) → found ≡ Some m → m ≡ mode → IfSome found (AskFor words) → AskFor words mode
asked_of words found m mode is same asks = subst (AskFor words) same (subst (λ (f : Option Mode). IfSome f (AskFor words)) is asks)
