-- How a run ends that makes the calls of a journal.
use Rattle.std.proofs.Common.{◌≡◌, ℕ, ◌≤◌, List, [], length, Option, Ok, Err, refl, sym, ap, subst, ◌⊎◌, inl, inr}
use Rattle.std.specs.Prelude.{IfOk, OnErr, Result, String, string_bytes}
use Rattle.std.specs.declared.alloc.Global.{Global}
use Rattle.poets_io.specs.Causes.{Rose}
use Rattle.poets_io.proofs.Transfers.{transfers}
use Rattle.poets_lex.specs.Table.{Table}
use Rattle.poets_command.specs.Calls.{calls_of}
use Rattle.poets_command.specs.Declarations.{book_from, reports_of}
use Rattle.poets_command.specs.Plain.{Entry}
use Rattle.poets_command.specs.Said.{Statement}
use Rattle.poets_rules.specs.Rules as R
use Rattle.poets_history.specs.Histories.{IsRightHistory}
use Rattle.poets_disk.specs.Disks.{Seen}
use Rattle.poets_journal.specs.Starts.{HasStartCause, OnDamaged, disk_of}
use Rattle.poets_journal.specs.Texts.{Texts}
use Rattle.poets_journal.specs.declared.start.StartFault.{StartFault}
use Rattle.poets_journal.specs.declared.start.StartFault.TheVariants as Start
use Rattle.poets_journal.specs.declared.start.Started.{Started}
use Rattle.poets_opening.specs.Unread.{EndsUnread, GaveSession}
use Rattle.poets_print.specs.Lines.{history_text}
use Rattle.poets_recover.specs.Stored.{AreStoredCalls, IsRefusedText, length_of_all, most_stored}
use Rattle.poets_session.specs.Sessions.{Represents}
use Rattle.poets_session.specs.declared.form.Form.TheVariants as F
use Rattle.poets_session.specs.declared.session.Session.{Session}
use Rattle.poets_top.proofs.Owning.{right_for}
use Rattle.poets_writing.specs.Writing.{Stream, stream}
use Rattle.poets_keeping.specs.Journals.{FileIsDamaged, FoundDamage, HeldTexts, OnlyStarted, damaged_line}
use Rattle.poets_keeping.specs.Recovering.{EndsRecovering, IsHistoryOfTexts, IsRecoveredAs, RecoversBook}
use Rattle.poets_keeping.specs.Writing.{EndsWriting}
use Rattle.poets_keeping.specs.code.Ended.{IsReadFrom, RecoversTexts}

-- a line was told, or memory was not enough for it
pub line_told : {K E : Type 0} (held : K → Option (List ℕ)) (faults : K → ℕ) (old new : K) (line : Result (String Global) E) (text : List ℕ) (answer status : ℕ) →
    IfOk line (λ l. string_bytes l ≡ text) → IfOk line (λ l. EndsWriting answer (string_bytes l) (stream (held old) (faults old)) (stream (held new) (faults new)) status) →
    OnErr line ((status ≡ 3) × (new ≡ old)) →
    EndsWriting answer text (stream (held old) (faults old)) (stream (held new) (faults new)) status ⊎ ((status ≡ 3) × (stream (held new) (faults new) ≡ stream (held old) (faults old)))
line_told held faults old new (Ok l) text answer status is told untold = inl (subst (λ t. EndsWriting answer t (stream (held old) (faults old)) (stream (held new) (faults new)) status) is told)
line_told held faults old new (Err e) text answer status is told untold = inr (untold.0, ap (λ k. stream (held k) (faults k)) untold.1)

-- ---- a start

module _ {D : Type 0} (seen : D → Seen) (faults : D → ℕ) (disk : D) where
  -- a record is damaged
  pub damage_found : (r : Result (Started D) (StartFault D)) (disk' : D) (number : ℕ) → r ≡ Err (Start.Damaged disk' number) → OnDamaged r (λ n. FileIsDamaged (seen disk) n) →
      OnDamaged r (λ n. (seen (disk_of r)).bytes ≡ (seen disk).bytes) → HasStartCause (faults disk) (faults (disk_of r)) r → FoundDamage (seen disk) (seen disk') (faults disk) (faults disk') number
  damage_found r disk' number is damaged kept cause = record {
    damaged = subst (λ s. OnDamaged s (λ n. FileIsDamaged (seen disk) n)) is damaged;
    bytes = subst (λ (s : Result (Started D) (StartFault D)). OnDamaged s (λ n. (seen (disk_of s)).bytes ≡ (seen disk).bytes)) is kept;
    faultless = subst (λ (s : Result (Started D) (StartFault D)). HasStartCause (faults disk) (faults (disk_of s)) s) is cause;
  }

  -- the disk failed
  pub disk_failed : (r : Result (Started D) (StartFault D)) (disk' : D) → r ≡ Err (Start.Disk disk') → HasStartCause (faults disk) (faults (disk_of r)) r → Rose (faults disk) (faults disk')
  disk_failed r disk' is cause = subst (λ (s : Result (Started D) (StartFault D)). HasStartCause (faults disk) (faults (disk_of s)) s) is cause

-- ---- texts

-- they are calls of the book, and this is their history
pub history_of_texts : (statements : List Statement) (session : Session) (texts : Texts) (after : Table) (h : List Entry) → Represents statements session →
    AreStoredCalls (R.book_of_rules session.rules) (R.reports_of_rules session.rules) session.names texts (calls_of h) after → length_of_all texts ≤ most_stored →
    IsRightHistory (R.book_of_rules session.rules) (R.reports_of_rules session.rules) h → IsHistoryOfTexts session.names statements texts after h
history_of_texts statements session texts after h holds stored within right = record {
  stored =
      subst (λ r. AreStoredCalls (book_from statements) r session.names texts (calls_of h) after) holds.reports
      (subst (λ b. AreStoredCalls b (R.reports_of_rules session.rules) session.names texts (calls_of h) after) holds.book stored);
  within = within;
  right = right_for session.rules statements h holds.book holds.reports right;
}

-- one of them is refused
pub refused_for : (statements : List Statement) (session : Session) (texts : Texts) (number : ℕ) → Represents statements session →
    IsRefusedText (R.book_of_rules session.rules) (R.reports_of_rules session.rules) session.names texts number →
    IsRefusedText (book_from statements) (reports_of statements) session.names texts number
refused_for statements session texts number holds refused =
    subst (λ r. IsRefusedText (book_from statements) r session.names texts number) holds.reports
    (subst (λ b. IsRefusedText b (R.reports_of_rules session.rules) session.names texts number) holds.book refused)

module _ (session : Session) (statements : List Statement) (texts : Texts) (sink sink' : Stream) (holds : Represents statements session) where
  -- they were made
  pub texts_made : (after : Table) (h : List Entry) (status : ℕ) → AreStoredCalls (R.book_of_rules session.rules) (R.reports_of_rules session.rules) session.names texts (calls_of h) after →
      length_of_all texts ≤ most_stored → IsRightHistory (R.book_of_rules session.rules) (R.reports_of_rules session.rules) h → EndsWriting 0 (history_text after h) sink sink' status →
      RecoversTexts session.names statements texts sink sink' status h
  texts_made after h status stored within right ends = RecoversTexts.Whole (history_of_texts statements session texts after h holds stored within right) ends

  -- memory was not enough
  pub texts_unmade : (status : ℕ) (h : List Entry) → sink' ≡ sink → status ≡ 3 → h ≡ [] → RecoversTexts session.names statements texts sink sink' status h
  texts_unmade status h same three empty =
      subst (λ s. RecoversTexts session.names statements texts sink sink' s h) (sym three)
      (subst (RecoversTexts session.names statements texts sink sink' 3) (sym empty) (RecoversTexts.NotMade same))

  -- one of them is refused
  pub texts_refused : (number status : ℕ) (h : List Entry) → IsRefusedText (R.book_of_rules session.rules) (R.reports_of_rules session.rules) session.names texts number → h ≡ [] →
      EndsWriting 9 (damaged_line number) sink sink' status ⊎ ((status ≡ 3) × (sink' ≡ sink)) → RecoversTexts session.names statements texts sink sink' status h
  texts_refused number status h refused empty (inl ends) =
      subst (RecoversTexts session.names statements texts sink sink' status) (sym empty)
      (RecoversTexts.NoCall (refused_for statements session texts number holds refused) ends)
  texts_refused number status h refused empty (inr untold) = texts_unmade status h untold.1 untold.0 empty

-- ---- the journal

module _ {D : Type 0} (seen : D → Seen) (faults : D → ℕ) (names : Table) (statements : List Statement) (sink sink' : Stream) (disk disk' : D) where
  -- it holds texts
  pub book_recovered : (texts : Texts) (stored : ℕ) {status : ℕ} {h : List Entry} → HeldTexts (seen disk) (seen disk') (faults disk) (faults disk') texts → stored ≡ length texts →
      RecoversTexts names statements texts sink sink' status h → RecoversBook seen faults names statements sink sink' disk disk' status h stored
  book_recovered texts stored {status} {h} held count made = subst (RecoversBook seen faults names statements sink sink' disk disk' status h) (sym count) (by made)
    where
      by : {s : ℕ} {g : List Entry} → RecoversTexts names statements texts sink sink' s g → RecoversBook seen faults names statements sink sink' disk disk' s g (length texts)
      by (RecoversTexts.Whole history ends) = RecoversBook.Answered (IsRecoveredAs.Whole texts held history) ends
      by (RecoversTexts.NoCall refused ends) = RecoversBook.Answered (IsRecoveredAs.NoCall texts held refused) ends
      by (RecoversTexts.NotMade same) = RecoversBook.NotMade texts held same

  -- memory was not enough to start it, or for a line
  pub book_unread : (status stored : ℕ) (h : List Entry) → sink' ≡ sink → status ≡ 3 → h ≡ [] → stored ≡ 0 → RecoversBook seen faults names statements sink sink' disk disk' status h stored
  book_unread status stored h same three empty nothing =
      subst (λ s. RecoversBook seen faults names statements sink sink' disk disk' s h stored) (sym three)
      (subst (λ g. RecoversBook seen faults names statements sink sink' disk disk' 3 g stored) (sym empty)
      (subst (RecoversBook seen faults names statements sink sink' disk disk' 3 []) (sym nothing) (RecoversBook.NotRead same)))

  -- the disk failed
  pub book_unstarted : (status stored : ℕ) (h : List Entry) → Rose (faults disk) (faults disk') → sink' ≡ sink → status ≡ 7 → h ≡ [] → stored ≡ 0 →
      RecoversBook seen faults names statements sink sink' disk disk' status h stored
  book_unstarted status stored h rose same seven empty nothing =
      subst (λ s. RecoversBook seen faults names statements sink sink' disk disk' s h stored) (sym seven)
      (subst (λ g. RecoversBook seen faults names statements sink sink' disk disk' 7 g stored) (sym empty)
      (subst (RecoversBook seen faults names statements sink sink' disk disk' 7 []) (sym nothing)
      (RecoversBook.Answered (IsRecoveredAs.NotStarted rose)
      (subst (λ s. EndsWriting 7 [] sink s 7) (sym same) (EndsWriting.Whole (search transfers) refl)))))

  -- it is damaged
  pub book_damaged : (number status stored : ℕ) (h : List Entry) → FoundDamage (seen disk) (seen disk') (faults disk) (faults disk') number → h ≡ [] → stored ≡ 0 →
      EndsWriting 9 (damaged_line number) sink sink' status ⊎ ((status ≡ 3) × (sink' ≡ sink)) → RecoversBook seen faults names statements sink sink' disk disk' status h stored
  book_damaged number status stored h damaged empty nothing (inl ends) =
      subst (λ g. RecoversBook seen faults names statements sink sink' disk disk' status g stored) (sym empty)
      (subst (RecoversBook seen faults names statements sink sink' disk disk' status []) (sym nothing) (RecoversBook.Answered (IsRecoveredAs.Damaged number damaged) ends))
  book_damaged number status stored h damaged empty nothing (inr untold) = book_unread status stored h untold.1 untold.0 empty nothing

-- ---- the run

module _ {D : Type 0} (seen : D → Seen) (faults : D → ℕ) (source source' sink sink' : Stream) (disk disk' : D) where
  -- the source gave a book
  pub recovering_read : (session : Session) (middle : Stream) {status stored : ℕ} {h : List Entry} → middle ≡ sink →
      ((statements : List Statement) × GaveSession source source' F.Book session.names statements × Represents statements session) → OnlyStarted (seen disk) (seen disk') →
      ((statements : List Statement) → IsReadFrom F.Book statements session → RecoversBook seen faults session.names statements middle sink' disk disk' status h stored) →
      EndsRecovering seen faults source source' sink sink' disk disk' status h stored
  recovering_read session middle {status} {stored} {h} same opened started recovers =
      let gave = opened.1 in
      EndsRecovering.Read gave started
      (subst (λ s. RecoversBook seen faults session.names opened.0 s sink' disk disk' status h stored) same
      (recovers opened.0 (record { text = gave.text; is = gave.session; holds = opened.2 })))

  -- it gave none
  pub recovering_unread : (status asked stored : ℕ) (h g : List Entry) → status ≡ asked → h ≡ g → stored ≡ 0 → disk' ≡ disk → EndsUnread F.Book source source' sink sink' asked g →
      EndsRecovering seen faults source source' sink sink' disk disk' status h stored
  recovering_unread status asked stored h g same_status same_history nothing same_disk unread =
      subst (λ s. EndsRecovering seen faults source source' sink sink' disk disk' s h stored) (sym same_status)
      (subst (λ e. EndsRecovering seen faults source source' sink sink' disk disk' asked e stored) (sym same_history)
      (subst (EndsRecovering seen faults source source' sink sink' disk disk' asked g) (sym nothing) (EndsRecovering.Unread unread same_disk)))
