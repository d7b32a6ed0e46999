-- How a run ends that goes on with a journal, by what its parts answer.
use Rattle.std.proofs.Common.{◌≡◌, ℕ, suc, ◌+◌, ◌≤◌, List, [], ◌++◌, length, refl, sym, ◌∙◌, ap, subst, arith, ◌⊎◌, inl, inr, None}
use Rattle.std.proofs.KnownBytes.{Appends-nil}
use Rattle.poets_io.specs.Causes.{Rose}
use Rattle.poets_lex.specs.Table.{Table}
use Rattle.poets_command.specs.Calls.{Call, calls_of, history_of}
use Rattle.poets_command.specs.Declarations.{book_from, reports_of}
use Rattle.poets_command.specs.Plain.{Command, Entry}
use Rattle.poets_command.specs.Said.{Statement}
use Rattle.poets_rules.specs.Rules as R
use Rattle.poets_rules.specs.declared.rules.Rules.{Rules}
use Rattle.poets_history.specs.Histories.{IsRightHistory}
use Rattle.poets_clerks.specs.Histories.{HasScriptParts, HasScripts}
use Rattle.poets_disk.specs.Disks.{Seen}
use Rattle.poets_journal.specs.Texts.{Texts}
use Rattle.poets_machine.specs.Histories.{calls_by as machine_calls}
use Rattle.poets_making.proofs.Taking.{All-of_map}
use Rattle.poets_opening.specs.Unread.{EndsUnread, GaveSession}
use Rattle.poets_session.specs.Sessions.{Represents, commands_in, scripts_of}
use Rattle.poets_session.specs.declared.form.Form.TheVariants as F
use Rattle.poets_session.specs.declared.session.Session.{Session}
use Rattle.poets_top.proofs.Owning.{own_same, right_for}
use Rattle.poets_writing.specs.Writing.{Change, Stream}
use Rattle.poets_keeping.specs.Journals.{HeldTexts, OnlyStarted}
use Rattle.poets_keeping.specs.Made.{KeepsScripts}
use Rattle.poets_keeping.specs.Recovering.{IsHistoryOfTexts}
use Rattle.poets_keeping.specs.Writing.{EndsWriting}
use Rattle.poets_keeping.specs.code.Ended.{IsReadFrom}
use Rattle.poets_keeping.proofs.Ended.{AreStored, made_acknowledged, made_rose, made_stored}
use Rattle.poets_resuming.specs.Resuming.{EndsResuming, IsGoneOn, IsPartGoneOn, IsResumedAs, ResumesSession, WasRecovered}

module _ (rules : Rules) (statements : List Statement) (session : Session) (p h : List Entry) (holds : Represents statements session) (same : rules ≡ session.rules)
    (right : IsRightHistory (R.book_of_rules rules) (R.reports_of_rules rules) (p ++ h)) where
  right_on : IsRightHistory (book_from statements) (reports_of statements) (p ++ h)
  right_on =
      right_for session.rules statements (p ++ h) holds.book holds.reports
      (subst (λ r. IsRightHistory (R.book_of_rules r) (R.reports_of_rules r) (p ++ h)) same right)

  own_is : (place : ℕ) → machine_calls (place + 1) (calls_of h) ≡ machine_calls (suc place) (calls_of h)
  own_is place = ap (λ k. machine_calls k (calls_of h)) (omega arith)

  -- the scripts of a session were made after a history
  gone_on : HasScripts (commands_in session.scripts.items) (calls_of h) → IsGoneOn statements p h
  gone_on scripted =
      let made = subst (λ ss. HasScripts ss (calls_of h)) holds.scripts scripted in
      let n = length (scripts_of statements) in
      record {
        right = right_on;
        own = λ place script at. own_same (suc place) (calls_of h) ∙ sym (own_is place) ∙ made.own place script at;
        clerks = All-of_map (λ (call : Call). (1 ≤ call.0) × (call.0 ≤ n)) (λ (e : Entry). (e.clerk, e.command)) h made.clerks;
      }

  -- or a part of them
  gone_on_part : HasScriptParts (commands_in session.scripts.items) (calls_of h) → IsPartGoneOn statements p h
  gone_on_part scripted =
      let made = subst (λ ss. HasScriptParts ss (calls_of h)) holds.scripts scripted in
      let n = length (scripts_of statements) in
      record {
        right = right_on;
        own = λ place script at.
            let part = made.own place script at in
            (part.0, ap (λ l. l ++ part.0) (own_same (suc place) (calls_of h) ∙ sym (own_is place)) ∙ part.1);
        clerks = All-of_map (λ (call : Call). (1 ≤ call.0) × (call.0 ≤ n)) (λ (e : Entry). (e.clerk, e.command)) h made.clerks;
      }

module _ {D : Type 0} (seen : D → Seen) (faults : D → ℕ) (statements : List Statement) (session : Session) (holds : Represents statements session) (disk made disk' : D) (texts : Texts)
    (started : OnlyStarted (seen disk) (seen made)) (held : HeldTexts (seen disk) (seen made) (faults disk) (faults made) texts) (sink : Change) where
  abbrev Scripts : List (List Command)
  Scripts = commands_in session.scripts.items

  abbrev Ends : ℕ → List Entry → ℕ → Type 0
  Ends status h stored = ResumesSession seen faults session.names statements sink.before sink.after disk disk' status h stored

  -- the calls of a session were made after those that the journal held, and kept
  pub resumes_session : {status stored : ℕ} {h : List Entry} (rules : Rules) (after : Table) (p : List Entry) → rules ≡ session.rules → IsHistoryOfTexts session.names statements texts after p →
      KeepsScripts seen faults rules after p Scripts made disk' sink status h stored → Ends status h stored
  resumes_session rules after p same history (KeepsScripts.Made {stored = stored} {status = status} es m ends) =
      by (made_stored seen faults rules after p Scripts disk made disk' texts started held stored es sink status m ends)
    where
      h : List Entry
      h = history_of es.items

      was : WasRecovered session.names statements (seen disk) texts after p
      was = record { held = held.held; history = history }

      on : IsGoneOn statements p h
      on = gone_on rules statements session p h holds same
          (subst (λ g. IsRightHistory (R.book_of_rules rules) (R.reports_of_rules rules) (p ++ g)) (sym m.all.0) m.right)
          (subst (λ g. HasScripts Scripts (calls_of g)) (sym m.all.0) m.all.1)

      by : {k : ℕ} → AreStored after texts (length p + 1) (seen disk) (seen disk') (faults disk) (faults disk') sink status h k → Ends status h k
      by (AreStored.Whole ack written) = ResumesSession.Answered (IsResumedAs.Whole texts was on ack) written
      by (AreStored.Part ack few rose written) = ResumesSession.Answered (IsResumedAs.Part texts was on ack few rose) written
  resumes_session rules after p same history (KeepsScripts.PartMade {stored = stored} m quiet) =
      ResumesSession.PartMade texts (record { held = held.held; history = history })
      (gone_on_part rules statements session p m.made holds same m.right m.parts)
      (made_acknowledged seen faults rules after p Scripts disk made disk' texts started held stored None m)
      (made_rose seen faults rules after p Scripts disk made disk' texts started held stored None m) quiet

module _ {D : Type 0} (seen : D → Seen) (faults : D → ℕ) (names : Table) (statements : List Statement) (sink sink' : Stream) (disk disk' : D) where
  abbrev EndsSo : ℕ → Type 0
  EndsSo status = ResumesSession seen faults names statements sink sink' disk disk' status [] 0

  -- out of memory ahead of all new calls
  pub resumes_none : (status : ℕ) → OnlyStarted (seen disk) (seen disk') → status ≡ 3 → sink' ≡ sink → EndsSo status
  resumes_none status started three same = subst EndsSo (sym three) (ResumesSession.NoneMade started same)

  -- the disk failed ahead of all calls
  pub resumes_unstarted : (status : ℕ) → OnlyStarted (seen disk) (seen disk') → Rose (faults disk) (faults disk') → status ≡ 7 → sink' ≡ sink → EndsSo status
  resumes_unstarted status started rose seven same =
      subst EndsSo (sym seven)
      (ResumesSession.Answered (IsResumedAs.NotStarted started rose)
      (subst (λ s. EndsWriting 7 [] sink s 7) (sym same) (EndsWriting.Whole (Appends-nil sink.bytes) refl)))

  -- a line was told, where there was memory for it
  pub resumes_told : (answer status : ℕ) (text : List ℕ) → OnlyStarted (seen disk) (seen disk') →
      IsResumedAs names statements (seen disk) (seen disk') (faults disk) (faults disk') 0 answer [] text →
      EndsWriting answer text sink sink' status ⊎ ((status ≡ 3) × (sink' ≡ sink)) → EndsSo status
  resumes_told answer status text started kept (inl ends) = ResumesSession.Answered kept ends
  resumes_told answer status text started kept (inr untold) = resumes_none status started untold.0 untold.1

module _ {D : Type 0} (seen : D → Seen) (faults : D → ℕ) (source source' sink sink' : Stream) (disk disk' : D) where
  -- the source gave a session
  pub resuming_read : (session : Session) (middle : Stream) {status stored : ℕ} {h : List Entry} → middle ≡ sink →
      ((statements : List Statement) × GaveSession source source' F.Clerks session.names statements × Represents statements session) →
      ((statements : List Statement) → IsReadFrom F.Clerks statements session → ResumesSession seen faults session.names statements middle sink' disk disk' status h stored) →
      EndsResuming seen faults source source' sink sink' disk disk' status h stored
  resuming_read session middle {status} {stored} {h} same opened resumes =
      let gave = opened.1 in
      EndsResuming.Read gave
      (subst (λ s. ResumesSession seen faults session.names opened.0 s sink' disk disk' status h stored) same
      (resumes opened.0 (record { text = gave.text; is = gave.session; holds = opened.2 })))

  -- it gave none
  pub resuming_unread : (status asked stored : ℕ) (h g : List Entry) → status ≡ asked → h ≡ g → stored ≡ 0 → disk' ≡ disk → EndsUnread F.Clerks source source' sink sink' asked g →
      EndsResuming seen faults source source' sink sink' disk disk' status h stored
  resuming_unread status asked stored h g same_status same_history nothing same_disk unread =
      subst (λ s. EndsResuming seen faults source source' sink sink' disk disk' s h stored) (sym same_status)
      (subst (λ e. EndsResuming seen faults source source' sink sink' disk disk' asked e stored) (sym same_history)
      (subst (EndsResuming seen faults source source' sink sink' disk disk' asked g) (sym nothing) (EndsResuming.Unread unread same_disk)))
