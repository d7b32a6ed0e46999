-- A run with a disk ends with the status that it deserves, where nothing failed.
use Rattle.std.proofs.Common.{◌≡◌, ℕ, ◌+◌, ◌<◌, ◌≤◌, List, [], length, Option, Some, refl, sym, ap, subst, inl, inr, arith}
use Rattle.std.specs.Prelude.{IfSome}
use Rattle.poets_io.specs.Causes.{Rose}
use Rattle.poets_io.specs.Streams.{GivesAll, LosesFront}
use Rattle.poets_io.proofs.Transfers.{IfSome-loses_more}
use Rattle.poets_lex.specs.Table.{Table}
use Rattle.poets_command.specs.Declarations.{book_from, reports_of}
use Rattle.poets_command.specs.Calls.{Call, calls_of}
use Rattle.poets_command.specs.Plain.{Entry}
use Rattle.poets_command.specs.Said.{Statement}
use Rattle.poets_disk.specs.Disks.{Seen}
use Rattle.poets_journal.specs.Texts.{HoldsTexts, IsDamaged, Texts}
use Rattle.poets_session.specs.declared.form.Form.{Form}
use Rattle.poets_session.specs.declared.form.Form.TheVariants as F
use Rattle.poets_session.specs.Sessions.{IsSession, Text}
use Rattle.poets_session.proofs.LawsRefused.{session_unrefused}
use Rattle.poets_session.proofs.LawsSaid.{read_once}
use Rattle.poets_opening.specs.Limits.{block, longest}
use Rattle.poets_opening.specs.Unread.{EndsUnread, Gave, GaveSession, RefusesSource}
use Rattle.poets_recover.specs.Stored.{AreStoredCalls, IsRefusedText, length_of_all, most_stored}
use Rattle.poets_recover.proofs.Excluding.{calls_unrefused}
use Rattle.poets_top.specs.Runs.{IsStatusOrMemory}
use Rattle.poets_writing.specs.Writing.{IsWritten, Stream}
use Rattle.poets_keeping.specs.Journals.{FileHolds}
use Rattle.poets_keeping.specs.Keeping.{EndsKeeping, IsKeptAs, KeepsSession}
use Rattle.poets_keeping.specs.Recovering.{EndsRecovering, IsRecoveredAs, RecoversBook}
use Rattle.poets_keeping.specs.Writing.{EndsWriting}
use Rattle.poets_resuming.specs.Resuming.{EndsResuming, IsResumedAs, ResumesSession}
use Rattle.poets_kept.specs.Promises.{DeservesKeeping, DeservesRecovering, DeservesResuming, DeservesUnread, HoldsCalls, HoldsRefused, OfSession}

-- what a file holds
abbrev OneHeld : Type 0
OneHeld = (file : List ℕ) (texts others : Texts) → HoldsTexts file texts → HoldsTexts file others → texts ≡ others

-- a damaged file holds nothing
abbrev NoneHeld : Type 0
NoneHeld = (file : List ℕ) (number : ℕ) (texts : Texts) → IsDamaged file number → HoldsTexts file texts → ⊥

told : (P : List ℕ → Type 0) (bytes : Option (List ℕ)) (file : List ℕ) → bytes ≡ Some file → IfSome bytes P → P file
told P bytes file is held = subst (λ b. IfSome b P) is held

-- a source that gave too much had more than a session has
not_short : (text : Text) (left' : Option (List ℕ)) → length text ≤ longest → LosesFront (longest + 1) (longest + block) (Some text) left' → ⊥
not_short text left' short l =
    let more : longest < length text = IfSome-loses_more longest (longest + block) (Some text) left' l in
    omega (arith, short, more)

module _ (form : Form) (text : Text) (source source' : Stream) (is : source.bytes ≡ Some text) where
  -- the text that a source gave is the one that it had left
  same_text : (read : Text) → GivesAll source.bytes source'.bytes read → read ≡ text
  same_text read g = sym (rw is at g).0

  gave_short : (read : Text) → Gave source source' read → length text ≤ longest
  gave_short read g = subst (λ t. length t ≤ longest) (same_text read g.all) g.short

  gave_session : {names : Table} {statements : List Statement} → GaveSession source source' form names statements → IsSession text form names statements
  gave_session {names} {statements} g = subst (λ t. IsSession t form names statements) (same_text g.text g.gave.all) g.session

  -- what is answered to a source without a session has the status that its text deserves
  unread_told : {wanted s : ℕ} {h : List Entry} {line : List ℕ} → DeservesUnread form text wanted → RefusesSource form source source' s h line → s ≡ wanted
  unread_told (DeservesUnread.OfNoSession short none) (RefusesSource.Refused g r) = refl
  unread_told (DeservesUnread.OfNoSession short none) (RefusesSource.TooLong l k) = absurd (not_short text source'.bytes short (rw is at l))
  unread_told (DeservesUnread.OfTooLong long) (RefusesSource.Refused {text = read} g r) = absurd (let short = gave_short read g in omega (arith, short, long))
  unread_told (DeservesUnread.OfTooLong long) (RefusesSource.TooLong l k) = refl

  -- a session is not refused
  session_told : {names : Table} {statements : List Statement} {s : ℕ} {h : List Entry} {line : List ℕ} → length text ≤ longest → IsSession text form names statements → RefusesSource form source source' s h line → ⊥
  session_told {names} {statements} short session (RefusesSource.Refused {text = read} {names = others} {r = r} g refused) =
      session_unrefused read form others names r statements refused (subst (λ t. IsSession t form names statements) (sym (same_text read g.all)) session)
  session_told short session (RefusesSource.TooLong l k) = not_short text source'.bytes short (rw is at l)

  -- whatever ended without a session, where each of its answers has the status, ends with it
  unread_ends : (sink sink' : Stream) (wanted : ℕ) → ((s : ℕ) (h : List Entry) (line : List ℕ) → RefusesSource form source source' s h line → s ≡ wanted) →
      (Rose source.faults source'.faults → ⊥) → (Rose sink.faults sink'.faults → ⊥) → {s : ℕ} {h : List Entry} → EndsUnread form source source' sink sink' s h → IsStatusOrMemory wanted s
  unread_ends sink sink' wanted f m n (EndsUnread.Told (IsWritten.Whole {status = s} {h = h} {text = line} r a k) e) = inl (f s h line r)
  unread_ends sink sink' wanted f m n (EndsUnread.Told (IsWritten.Failed r a k) e) = absurd (n k.rose)
  unread_ends sink sink' wanted f m n (EndsUnread.Told (IsWritten.MemoryBetween names r some a k) e) = inr refl
  unread_ends sink sink' wanted f m n (EndsUnread.Told (IsWritten.MemoryBefore k) e) = inr refl
  unread_ends sink sink' wanted f m n (EndsUnread.ReadFailed r l k) = absurd (m r.rose)

  -- a source that gave a session deserves no status of one without
  session_read : {names : Table} {statements : List Statement} {wanted : ℕ} → GaveSession source source' form names statements → DeservesUnread form text wanted → ⊥
  session_read {names} {statements} g (DeservesUnread.OfNoSession short none) = none names statements (gave_session g)
  session_read g (DeservesUnread.OfTooLong long) = let short = gave_short g.text g.gave in omega (arith, short, long)

-- where the sink does not fail, the status of what is written is that of the answer, or that of want of memory
writes_status : {answer s : ℕ} {text : List ℕ} {sink sink' : Stream} (wanted : ℕ) → (Rose sink.faults sink'.faults → ⊥) → answer ≡ wanted → EndsWriting answer text sink sink' s → IsStatusOrMemory wanted s
writes_status wanted n is (EndsWriting.Whole a k) = inl is
writes_status wanted n is (EndsWriting.Failed a k) = absurd (n k.rose)
writes_status wanted n is (EndsWriting.Memory names number h text_is a k) = inr refl

module _ {D : Type 0} (seen : D → Seen) (faults : D → ℕ) (one : OneHeld) (none : NoneHeld) (text : Text) (file : List ℕ) (source source' sink sink' : Stream) (disk disk' : D)
    (is : source.bytes ≡ Some text) (holds : (seen disk).bytes ≡ Some file) (m : Rose source.faults source'.faults → ⊥) (n : Rose sink.faults sink'.faults → ⊥) (d : Rose (faults disk) (faults disk') → ⊥) where
  kept_as : {names : Table} {statements : List Statement} {stored answer wanted : ℕ} {h : List Entry} {line : List ℕ} → GaveSession source source' F.Clerks names statements →
      DeservesKeeping text file wanted → IsKeptAs names statements (seen disk) (seen disk') (faults disk) (faults disk') stored answer h line → answer ≡ wanted
  kept_as gave (DeservesKeeping.Unread u) kept = absurd (session_read F.Clerks text source source' is gave u)
  kept_as gave (DeservesKeeping.Kept s) (IsKeptAs.Whole empty history ack) = refl
  kept_as gave (DeservesKeeping.Kept s) (IsKeptAs.Part empty history ack few rose) = absurd (d rose)
  kept_as gave (DeservesKeeping.Kept s) (IsKeptAs.NotStarted started rose) = absurd (d rose)
  kept_as gave (DeservesKeeping.Kept s) (IsKeptAs.HeldCalls texts started held some) =
      absurd (let empty = one file texts [] (told (λ f. HoldsTexts f texts) (seen disk).bytes file holds held.held) s.holds in let short = ap length empty in omega (arith, short, some))
  kept_as gave (DeservesKeeping.Kept s) (IsKeptAs.Damaged number started damaged) =
      absurd (none file number [] (told (λ f. IsDamaged f number) (seen disk).bytes file holds damaged.damaged) s.holds)
  kept_as gave (DeservesKeeping.HeldCalls s) (IsKeptAs.Whole empty history ack) =
      absurd (let same = one file s.holds.0 [] s.holds.1 (told (λ f. HoldsTexts f []) (seen disk).bytes file holds empty) in let short = ap length same in let some = s.holds.2 in omega (arith, short, some))
  kept_as gave (DeservesKeeping.HeldCalls s) (IsKeptAs.Part empty history ack few rose) = absurd (d rose)
  kept_as gave (DeservesKeeping.HeldCalls s) (IsKeptAs.NotStarted started rose) = absurd (d rose)
  kept_as gave (DeservesKeeping.HeldCalls s) (IsKeptAs.HeldCalls texts started held some) = refl
  kept_as gave (DeservesKeeping.HeldCalls s) (IsKeptAs.Damaged number started damaged) =
      absurd (none file number s.holds.0 (told (λ f. IsDamaged f number) (seen disk).bytes file holds damaged.damaged) s.holds.1)
  kept_as gave (DeservesKeeping.Damaged s) (IsKeptAs.Whole empty history ack) =
      absurd (none file s.holds.0 [] s.holds.1 (told (λ f. HoldsTexts f []) (seen disk).bytes file holds empty))
  kept_as gave (DeservesKeeping.Damaged s) (IsKeptAs.Part empty history ack few rose) = absurd (d rose)
  kept_as gave (DeservesKeeping.Damaged s) (IsKeptAs.NotStarted started rose) = absurd (d rose)
  kept_as gave (DeservesKeeping.Damaged s) (IsKeptAs.HeldCalls texts started held some) =
      absurd (none file s.holds.0 texts s.holds.1 (told (λ f. HoldsTexts f texts) (seen disk).bytes file holds held.held))
  kept_as gave (DeservesKeeping.Damaged s) (IsKeptAs.Damaged number started damaged) = refl

  -- what is answered to a source without a session, where the text deserves a status
  unread_kept : {wanted s : ℕ} {h : List Entry} {line : List ℕ} → DeservesKeeping text file wanted → RefusesSource F.Clerks source source' s h line → s ≡ wanted
  unread_kept (DeservesKeeping.Unread u) r = unread_told F.Clerks text source source' is u r
  unread_kept (DeservesKeeping.Kept s) r = absurd (session_told F.Clerks text source source' is s.short s.session r)
  unread_kept (DeservesKeeping.HeldCalls s) r = absurd (session_told F.Clerks text source source' is s.short s.session r)
  unread_kept (DeservesKeeping.Damaged s) r = absurd (session_told F.Clerks text source source' is s.short s.session r)

  pub keeping_deserved : (wanted : ℕ) → DeservesKeeping text file wanted → {s stored : ℕ} {h : List Entry} → EndsKeeping seen faults source source' sink sink' disk disk' s h stored → IsStatusOrMemory wanted s
  keeping_deserved wanted w (EndsKeeping.Unread u same) = unread_ends F.Clerks text source source' is sink sink' wanted (λ s h line r. unread_kept w r) m n u
  keeping_deserved wanted w (EndsKeeping.Read gave (KeepsSession.Answered kept ends)) = writes_status wanted n (kept_as gave w kept) ends
  keeping_deserved wanted w (EndsKeeping.Read gave (KeepsSession.NoneMade started same)) = inr refl
  keeping_deserved wanted w (EndsKeeping.Read gave (KeepsSession.PartMade none part ack rose same)) = inr refl

  -- texts that are calls of the session's book are not refused
  not_refused : (form : Form) {names : Table} {statements : List Statement} → GaveSession source source' form names statements → (s : OfSession form text (HoldsCalls file)) (texts : Texts) (number : ℕ) →
      FileHolds (seen disk) texts → IsRefusedText (book_from statements) (reports_of statements) names texts number → ⊥
  not_refused form {names} {statements} gave s texts number held refused =
      let same = read_once text s.names names s.statements statements s.session.read (gave_session form text source source' is gave).read in
      let texts_same = one file texts s.holds.texts (told (λ f. HoldsTexts f texts) (seen disk).bytes file holds held) s.holds.held in
      calls_unrefused (book_from s.statements) (reports_of s.statements) s.names s.holds.after s.holds.texts s.holds.calls number s.holds.stored s.holds.within
      (subst (λ t. IsRefusedText (book_from s.statements) (reports_of s.statements) t s.holds.texts number) (sym same.0)
      (subst (λ g. IsRefusedText (book_from g) (reports_of g) names s.holds.texts number) (sym same.1)
      (subst (λ ts. IsRefusedText (book_from statements) (reports_of statements) names ts number) texts_same refused)))

  -- where one of them is refused, they are no calls of it
  not_made : (form : Form) {names : Table} {statements : List Statement} → GaveSession source source' form names statements → (s : OfSession form text (HoldsRefused file)) (texts : Texts) (after : Table)
      (calls : List Call) → FileHolds (seen disk) texts → AreStoredCalls (book_from statements) (reports_of statements) names texts calls after → length_of_all texts ≤ most_stored → ⊥
  not_made form {names} {statements} gave s texts after calls held stored within =
      let same = read_once text s.names names s.statements statements s.session.read (gave_session form text source source' is gave).read in
      let texts_same = one file texts s.holds.texts (told (λ f. HoldsTexts f texts) (seen disk).bytes file holds held) s.holds.held in
      calls_unrefused (book_from statements) (reports_of statements) names after texts calls s.holds.number stored within
      (subst (λ t. IsRefusedText (book_from statements) (reports_of statements) t texts s.holds.number) same.0
      (subst (λ g. IsRefusedText (book_from g) (reports_of g) s.names texts s.holds.number) same.1
      (subst (λ ts. IsRefusedText (book_from s.statements) (reports_of s.statements) s.names ts s.holds.number) (sym texts_same) s.holds.refused)))

  recovered_as : {names : Table} {statements : List Statement} {stored answer wanted : ℕ} {h : List Entry} {line : List ℕ} → GaveSession source source' F.Book names statements →
      DeservesRecovering text file wanted → IsRecoveredAs names statements (seen disk) (seen disk') (faults disk) (faults disk') stored answer h line → answer ≡ wanted
  recovered_as gave (DeservesRecovering.Unread u) made = absurd (session_read F.Book text source source' is gave u)
  recovered_as gave w (IsRecoveredAs.NotStarted rose) = absurd (d rose)
  recovered_as gave (DeservesRecovering.Recovered s) (IsRecoveredAs.Whole texts held history) = refl
  recovered_as gave (DeservesRecovering.Recovered s) (IsRecoveredAs.NoCall texts {number = number} held refused) =
      absurd (not_refused F.Book gave s texts number held.held refused)
  recovered_as gave (DeservesRecovering.Recovered s) (IsRecoveredAs.Damaged number damaged) =
      absurd (none file number s.holds.texts (told (λ f. IsDamaged f number) (seen disk).bytes file holds damaged.damaged) s.holds.held)
  recovered_as gave (DeservesRecovering.Refused s) (IsRecoveredAs.Whole texts {after = after} {h = h} held history) =
      absurd (not_made F.Book gave s texts after (calls_of h) held.held history.stored history.within)
  recovered_as gave (DeservesRecovering.Refused s) (IsRecoveredAs.NoCall texts held refused) = refl
  recovered_as gave (DeservesRecovering.Refused s) (IsRecoveredAs.Damaged number damaged) = refl
  recovered_as gave (DeservesRecovering.Damaged s) (IsRecoveredAs.Whole texts held history) =
      absurd (none file s.holds.0 texts s.holds.1 (told (λ f. HoldsTexts f texts) (seen disk).bytes file holds held.held))
  recovered_as gave (DeservesRecovering.Damaged s) (IsRecoveredAs.NoCall texts held refused) = refl
  recovered_as gave (DeservesRecovering.Damaged s) (IsRecoveredAs.Damaged number damaged) = refl

  unread_recovered : {wanted s : ℕ} {h : List Entry} {line : List ℕ} → DeservesRecovering text file wanted → RefusesSource F.Book source source' s h line → s ≡ wanted
  unread_recovered (DeservesRecovering.Unread u) r = unread_told F.Book text source source' is u r
  unread_recovered (DeservesRecovering.Recovered s) r = absurd (session_told F.Book text source source' is s.short s.session r)
  unread_recovered (DeservesRecovering.Refused s) r = absurd (session_told F.Book text source source' is s.short s.session r)
  unread_recovered (DeservesRecovering.Damaged s) r = absurd (session_told F.Book text source source' is s.short s.session r)

  pub recovering_deserved : (wanted : ℕ) → DeservesRecovering text file wanted → {s stored : ℕ} {h : List Entry} → EndsRecovering seen faults source source' sink sink' disk disk' s h stored → IsStatusOrMemory wanted s
  recovering_deserved wanted w (EndsRecovering.Unread u same) = unread_ends F.Book text source source' is sink sink' wanted (λ s h line r. unread_recovered w r) m n u
  recovering_deserved wanted w (EndsRecovering.Read gave started (RecoversBook.Answered made ends)) = writes_status wanted n (recovered_as gave w made) ends
  recovering_deserved wanted w (EndsRecovering.Read gave started (RecoversBook.NotRead same)) = inr refl
  recovering_deserved wanted w (EndsRecovering.Read gave started (RecoversBook.NotMade texts held same)) = inr refl

  resumed_as : {names : Table} {statements : List Statement} {stored answer wanted : ℕ} {h : List Entry} {line : List ℕ} → GaveSession source source' F.Clerks names statements →
      DeservesResuming text file wanted → IsResumedAs names statements (seen disk) (seen disk') (faults disk) (faults disk') stored answer h line → answer ≡ wanted
  resumed_as gave (DeservesResuming.Unread u) made = absurd (session_read F.Clerks text source source' is gave u)
  resumed_as gave w (IsResumedAs.NotStarted started rose) = absurd (d rose)
  resumed_as gave w (IsResumedAs.Part texts was on ack few rose) = absurd (d rose)
  resumed_as gave (DeservesResuming.Resumed s) (IsResumedAs.Whole texts was on ack) = refl
  resumed_as gave (DeservesResuming.Resumed s) (IsResumedAs.NoCall texts {number = number} started held refused) =
      absurd (not_refused F.Clerks gave s texts number held.held refused)
  resumed_as gave (DeservesResuming.Resumed s) (IsResumedAs.Damaged number started damaged) =
      absurd (none file number s.holds.texts (told (λ f. IsDamaged f number) (seen disk).bytes file holds damaged.damaged) s.holds.held)
  resumed_as gave (DeservesResuming.Refused s) (IsResumedAs.Whole texts {after = after} {p = p} was on ack) =
      absurd (not_made F.Clerks gave s texts after (calls_of p) was.held was.history.stored was.history.within)
  resumed_as gave (DeservesResuming.Refused s) (IsResumedAs.NoCall texts started held refused) = refl
  resumed_as gave (DeservesResuming.Refused s) (IsResumedAs.Damaged number started damaged) = refl
  resumed_as gave (DeservesResuming.Damaged s) (IsResumedAs.Whole texts was on ack) =
      absurd (none file s.holds.0 texts s.holds.1 (told (λ f. HoldsTexts f texts) (seen disk).bytes file holds was.held))
  resumed_as gave (DeservesResuming.Damaged s) (IsResumedAs.NoCall texts started held refused) = refl
  resumed_as gave (DeservesResuming.Damaged s) (IsResumedAs.Damaged number started damaged) = refl

  unread_resumed : {wanted s : ℕ} {h : List Entry} {line : List ℕ} → DeservesResuming text file wanted → RefusesSource F.Clerks source source' s h line → s ≡ wanted
  unread_resumed (DeservesResuming.Unread u) r = unread_told F.Clerks text source source' is u r
  unread_resumed (DeservesResuming.Resumed s) r = absurd (session_told F.Clerks text source source' is s.short s.session r)
  unread_resumed (DeservesResuming.Refused s) r = absurd (session_told F.Clerks text source source' is s.short s.session r)
  unread_resumed (DeservesResuming.Damaged s) r = absurd (session_told F.Clerks text source source' is s.short s.session r)

  pub resuming_deserved : (wanted : ℕ) → DeservesResuming text file wanted → {s stored : ℕ} {h : List Entry} → EndsResuming seen faults source source' sink sink' disk disk' s h stored → IsStatusOrMemory wanted s
  resuming_deserved wanted w (EndsResuming.Unread u same) = unread_ends F.Clerks text source source' is sink sink' wanted (λ s h line r. unread_resumed w r) m n u
  resuming_deserved wanted w (EndsResuming.Read gave (ResumesSession.Answered made ends)) = writes_status wanted n (resumed_as gave w made) ends
  resuming_deserved wanted w (EndsResuming.Read gave (ResumesSession.NoneMade started same)) = inr refl
  resuming_deserved wanted w (EndsResuming.Read gave (ResumesSession.PartMade texts was part ack rose same)) = inr refl
