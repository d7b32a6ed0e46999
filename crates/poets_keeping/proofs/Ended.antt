-- How it ends that calls of scripts are kept, after earlier ones or none.
use Rattle.std.proofs.Common.{◌≡◌, ℕ, ◌+◌, ◌<◌, Bool, if◌then◌else◌, List, [], length, take, Some, None, sym, ◌∙◌, subst, arith}
use Rattle.std.specs.Prelude.{Option}
use Rattle.std.proofs.lemmas.Bool.{eq-eqb, ne_eqb}
use Rattle.std.proofs.lemmas.List.{length-map, take-map, take_all}
use mathlib.Core.Logic.{dite}
use native.Mathlib.Decide.{ℕ_discrete}
use Rattle.poets_io.specs.Causes.{Rose}
use Rattle.poets_value.specs.Listed.{Listed}
use Rattle.poets_lex.specs.Table.{Table}
use Rattle.poets_command.specs.declared.call.Entry as code
use Rattle.poets_command.specs.Calls.{calls_of, entry_of, history_of}
use Rattle.poets_command.specs.Plain.{Command, Entry}
use Rattle.poets_command.specs.Said.{Statement}
use Rattle.poets_rules.specs.declared.rules.Rules.{Rules}
use Rattle.poets_rules.specs.Rules.{book_of_rules, reports_of_rules}
use Rattle.poets_history.specs.Histories.{IsRightHistory}
use Rattle.poets_clerks.specs.Histories.{HasScripts}
use Rattle.poets_disk.specs.Disks.{Seen}
use Rattle.poets_journal.specs.Texts.{Texts}
use Rattle.poets_print.specs.Lines.{lines_from}
use Rattle.poets_session.specs.Sessions.{Represents, commands_in}
use Rattle.poets_session.specs.declared.session.Session.{Session}
use Rattle.poets_top.proofs.Owning.{IsHistoryOf-read}
use Rattle.poets_writing.specs.Outcomes.{lines_after}
use Rattle.poets_writing.specs.Writing.{Change}
use Rattle.poets_keeping.specs.Journals.{AreAcknowledged, HeldTexts, OnlyStarted}
use Rattle.poets_keeping.specs.Keeping.{IsKeptAs, KeepsSession}
use Rattle.poets_keeping.specs.Made.{AreMade, KeepsScripts, kept_status}
use Rattle.poets_keeping.specs.Writing.{EndsWriting, WritesAs}
use Rattle.poets_keeping.proofs.Acknowledged.{acknowledged, unacknowledged}
use Rattle.poets_keeping.proofs.Parted.{IsPartOf-read}

-- how many calls of a whole history are stored, and how the lines of these were written, numbered from this number on
pub data AreStored (names : Table) (earlier : Texts) (number : ℕ) (disk disk' : Seen) (faults faults' : ℕ) (sink : Change) (status : ℕ) (h : List Entry) : (stored : ℕ) → Type 0 where
  Whole :
      AreAcknowledged names earlier disk disk' (length h) h → EndsWriting 0 (lines_from names number h) sink.before sink.after status →
      AreStored names earlier number disk disk' faults faults' sink status h (length h)
  Part :
      {stored : ℕ} → AreAcknowledged names earlier disk disk' stored h → stored < length h → Rose faults faults' →
      EndsWriting 7 (lines_from names number (take stored h)) sink.before sink.after status →
      AreStored names earlier number disk disk' faults faults' sink status h stored

module _ {D : Type 0} (seen : D → Seen) (faults : D → ℕ) (rules : Rules) (names : Table) (p : List Entry) (scripts : List (List Command)) (disk made disk' : D) (earlier : Texts)
    (started : OnlyStarted (seen disk) (seen made)) (held : HeldTexts (seen disk) (seen made) (faults disk) (faults made) earlier) where
  abbrev Made : ℕ → Option (Listed code.Entry) → Type 0
  Made stored whole = AreMade rules names p scripts (seen made) (seen disk') (faults made) (faults disk') stored whole

  -- the calls that were made are acknowledged, or the disk failed
  pub made_acknowledged : (stored : ℕ) (whole : Option (Listed code.Entry)) (m : Made stored whole) → AreAcknowledged names earlier (seen disk) (seen disk') stored m.made
  made_acknowledged stored whole m = acknowledged names earlier (seen disk) (seen made) (seen disk') (faults disk) (faults made) (faults disk') stored m.made held m.failed started m.kept

  pub made_rose : (stored : ℕ) (whole : Option (Listed code.Entry)) (m : Made stored whole) → stored < length m.made → Rose (faults disk) (faults disk')
  made_rose stored whole m few = unacknowledged names earlier (seen disk) (seen made) (seen disk') (faults disk) (faults made) (faults disk') stored m.made held m.failed m.kept few

  -- all calls were made, and the lines of those that are stored were written
  pub made_stored : (stored : ℕ) (es : Listed code.Entry) (sink : Change) (status : ℕ) → Made stored (Some es) → WritesAs (kept_status stored es) (lines_after names (length p) (take stored es.items)) sink status →
      AreStored names earlier (length p + 1) (seen disk) (seen disk') (faults disk) (faults disk') sink status (history_of es.items) stored
  made_stored stored es sink status m ends = dite (ℕ_discrete stored (length es.items)) all some
    where
      h : List Entry
      h = history_of es.items

      n : ℕ
      n = length p + 1

      long : length h ≡ length es.items
      long = length-map es.items entry_of

      ack : AreAcknowledged names earlier (seen disk) (seen disk') stored h
      ack = subst (AreAcknowledged names earlier (seen disk) (seen disk') stored) (sym m.all.0) (made_acknowledged stored (Some es) m)

      Stored : ℕ → Type 0
      Stored k = AreStored names earlier n (seen disk) (seen disk') (faults disk) (faults disk') sink status h k

      all : stored ≡ length es.items → Stored stored
      all is =
          let same : stored ≡ length h = is ∙ sym long in
          let written : EndsWriting 0 (lines_from names n h) sink.before sink.after status =
          subst (λ l. EndsWriting 0 (lines_from names n (history_of l)) sink.before sink.after status) (take_all stored es.items (omega (arith, is)))
          (subst (λ (b : Bool). EndsWriting (if b then 0 else 7) (lines_from names n (history_of (take stored es.items))) sink.before sink.after status) (eq-eqb stored (length es.items) is) ends) in
          subst Stored (sym same) (AreStored.Whole (subst (λ k. AreAcknowledged names earlier (seen disk) (seen disk') k h) same ack) written)

      some : (stored ≡ length es.items → ⊥) → Stored stored
      some ne =
          let few : stored < length h = let within = ack.within in omega (arith, within, long, ne) in
          let written : EndsWriting 7 (lines_from names n (take stored h)) sink.before sink.after status =
          subst (λ g. EndsWriting 7 (lines_from names n g) sink.before sink.after status) (sym (take-map entry_of stored es.items))
          (subst (λ (b : Bool). EndsWriting (if b then 0 else 7) (lines_from names n (history_of (take stored es.items))) sink.before sink.after status) (ne_eqb stored (length es.items) ne) ends) in
          AreStored.Part ack few (made_rose stored (Some es) m (subst (λ g. stored < length g) m.all.0 few)) written

module _ {D : Type 0} (seen : D → Seen) (faults : D → ℕ) (statements : List Statement) (session : Session) (holds : Represents statements session) (disk made disk' : D)
    (started : OnlyStarted (seen disk) (seen made)) (held : HeldTexts (seen disk) (seen made) (faults disk) (faults made) []) (sink : Change) where
  abbrev Scripts : List (List Command)
  Scripts = commands_in session.scripts.items

  abbrev Ends : ℕ → List Entry → ℕ → Type 0
  Ends status h stored = KeepsSession seen faults session.names statements sink.before sink.after disk disk' status h stored

  -- the calls of a session were kept, in a journal that held none
  pub keeps_session : {status stored : ℕ} {h : List Entry} (rules : Rules) → rules ≡ session.rules →
      KeepsScripts seen faults rules session.names [] Scripts made disk' sink status h stored → Ends status h stored
  keeps_session rules same (KeepsScripts.Made {stored = stored} {status = status} es m ends) =
      by (made_stored seen faults rules session.names [] Scripts disk made disk' [] started held stored es sink status m ends)
    where
      h : List Entry
      h = history_of es.items

      right : IsRightHistory (book_of_rules session.rules) (reports_of_rules session.rules) h
      right = subst (λ g. IsRightHistory (book_of_rules session.rules) (reports_of_rules session.rules) g) (sym m.all.0)
          (subst (λ r. IsRightHistory (book_of_rules r) (reports_of_rules r) m.made) same m.right)

      scripted : HasScripts Scripts (calls_of h)
      scripted = subst (λ g. HasScripts Scripts (calls_of g)) (sym m.all.0) m.all.1

      by : {k : ℕ} → AreStored session.names [] 1 (seen disk) (seen disk') (faults disk) (faults disk') sink status h k → Ends status h k
      by (AreStored.Whole ack written) = KeepsSession.Answered (IsKeptAs.Whole held.held (IsHistoryOf-read statements session h holds right scripted) ack) written
      by (AreStored.Part ack few rose written) = KeepsSession.Answered (IsKeptAs.Part held.held (IsHistoryOf-read statements session h holds right scripted) ack few rose) written
  keeps_session rules same (KeepsScripts.PartMade {stored = stored} m quiet) =
      KeepsSession.PartMade held.held
      (IsPartOf-read statements session m.made holds (subst (λ r. IsRightHistory (book_of_rules r) (reports_of_rules r) m.made) same m.right) m.parts)
      (made_acknowledged seen faults rules session.names [] Scripts disk made disk' [] started held stored None m)
      (made_rose seen faults rules session.names [] Scripts disk made disk' [] started held stored None m) quiet
