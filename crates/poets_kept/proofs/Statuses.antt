-- The statuses with which a run with a disk ends.
use Rattle.std.proofs.Common.{◌≡◌, ◌≢◌, ℕ, List, [], ◌∷◌, get_or, refl, sym, ◌∙◌, ap, ◌⊎◌, inl, inr, arith}
use Rattle.std.specs.Prelude.{codes}
use Rattle.std.specs.Io.KnownBytes.{Appends}
use Rattle.poets_lex.specs.Table.{Table}
use Rattle.poets_command.specs.Plain.{Entry}
use Rattle.poets_command.specs.Said.{Statement}
use Rattle.poets_disk.specs.Disks.{Seen}
use Rattle.poets_session.specs.declared.form.Form.{Form}
use Rattle.poets_session.specs.declared.form.Form.TheVariants as F
use Rattle.poets_opening.specs.Unread.{EndsUnread, GaveSession, RefusesSource}
use Rattle.poets_words.specs.Words.{AskFor, words_of}
use Rattle.poets_words.specs.declared.mode.Mode.{Mode}
use Rattle.poets_words.specs.declared.mode.Mode.TheVariants as M
use Rattle.poets_words.specs.declared.mode.Task.TheVariants as T
use Rattle.poets_writing.specs.Writing.{IsWritten, Stream}
use Rattle.poets_keeping.specs.Keeping.{EndsKeeping, HasKept, IsKeptAs, KeepsSession}
use Rattle.poets_keeping.specs.Recovering.{EndsRecovering, HasRecovered, IsRecoveredAs, RecoversBook}
use Rattle.poets_keeping.specs.Writing.{EndsWriting}
use Rattle.poets_resuming.specs.Resuming.{EndsResuming, HasResumed, IsResumedAs, ResumesSession}
use Rattle.poets_keeping.proofs.Acknowledged.{all_survive}

-- ---- words

-- one byte of the first word
abbrev letter : ℕ → List (List ℕ) → ℕ
letter place words = get_or (get_or words 0 []) place 0

neither_keep : (m : Mode) → words_of m ≡ codes "keep" ∷ [] → ⊥
neither_keep (M.Read T.Check) e = absurd cc
neither_keep (M.Read T.Run) e = absurd cc
neither_keep (M.Read T.Replay) e = absurd cc
neither_keep (M.Read (T.Explain name)) e = absurd cc
neither_keep (M.Read T.Export) e = absurd cc
neither_keep (M.Demo n) e = absurd cc

neither_recover : (m : Mode) → words_of m ≡ codes "recover" ∷ [] → ⊥
neither_recover (M.Read T.Check) e = absurd cc
neither_recover (M.Read T.Run) e = absurd cc
neither_recover (M.Read T.Replay) e = absurd cc
neither_recover (M.Read (T.Explain name)) e = absurd cc
neither_recover (M.Read T.Export) e = absurd cc
neither_recover (M.Demo n) e = absurd cc

neither_resume : (m : Mode) → words_of m ≡ codes "resume" ∷ [] → ⊥
neither_resume (M.Read T.Check) e = absurd cc
neither_resume (M.Read T.Run) e = absurd cc
neither_resume (M.Read T.Replay) e = let other : 112 ≡ 115 = ap (letter 2) e in absurd (omega (arith, other))
neither_resume (M.Read (T.Explain name)) e = absurd cc
neither_resume (M.Read T.Export) e = let other : 101 ≡ 114 = ap (letter 0) e in absurd (omega (arith, other))
neither_resume (M.Demo n) e = absurd cc

-- the words for what the program may be asked to do without a disk are not one of these
pub no_journal_form : (words : List (List ℕ)) (mode : Mode) → AskFor words mode →
    (words ≡ codes "keep" ∷ []) ⊎ (words ≡ codes "recover" ∷ []) ⊎ (words ≡ codes "resume" ∷ []) → ⊥
no_journal_form words mode asks (inl keep) = neither_keep mode (sym asks.0 ∙ keep)
no_journal_form words mode asks (inr (inl recover)) = neither_recover mode (sym asks.0 ∙ recover)
no_journal_form words mode asks (inr (inr resume)) = neither_resume mode (sym asks.0 ∙ resume)

-- no words are two of them
pub keep_or_recover : (words : List (List ℕ)) → words ≡ codes "keep" ∷ [] → words ≡ codes "recover" ∷ [] → ⊥
keep_or_recover words keep recover = let same : codes "keep" ∷ [] ≡ codes "recover" ∷ [] = sym keep ∙ recover in absurd cc

pub keep_or_resume : (words : List (List ℕ)) → words ≡ codes "keep" ∷ [] → words ≡ codes "resume" ∷ [] → ⊥
keep_or_resume words keep resume = let same : codes "keep" ∷ [] ≡ codes "resume" ∷ [] = sym keep ∙ resume in absurd cc

pub recover_or_resume : (words : List (List ℕ)) → words ≡ codes "recover" ∷ [] → words ≡ codes "resume" ∷ [] → ⊥
recover_or_resume words recover resume = let same : codes "recover" ∷ [] ≡ codes "resume" ∷ [] = sym recover ∙ resume in absurd cc

-- ---- a source without a session

module _ (form : Form) (source source' sink sink' : Stream) where
  refuses_status : {s : ℕ} {h : List Entry} {line : List ℕ} → RefusesSource form source source' s h line → (s ≡ 1) ⊎ (s ≡ 6)
  refuses_status (RefusesSource.Refused g r) = inl refl
  refuses_status (RefusesSource.TooLong l k) = inr refl

  no_two : (s : ℕ) → (s ≡ 1) ⊎ (s ≡ 6) → (s ≢ 0) × (s ≢ 2)
  no_two s (inl e) = (λ z. omega (arith, e, z), λ z. omega (arith, e, z))
  no_two s (inr e) = (λ z. omega (arith, e, z), λ z. omega (arith, e, z))

  -- its run has neither the status 0 nor that of words that ask for nothing
  pub unread_status : {s : ℕ} {h : List Entry} → EndsUnread form source source' sink sink' s h → (s ≢ 0) × (s ≢ 2)
  unread_status (EndsUnread.Told (IsWritten.Whole {status = s} r a k) f) = no_two s (refuses_status r)
  unread_status (EndsUnread.Told (IsWritten.Failed r a k) f) = (λ z. omega (arith, z), λ z. omega (arith, z))
  unread_status (EndsUnread.Told (IsWritten.MemoryBetween names r some a k) f) = (λ z. omega (arith, z), λ z. omega (arith, z))
  unread_status (EndsUnread.Told (IsWritten.MemoryBefore e) f) = (λ z. omega (arith, z), λ z. omega (arith, z))
  unread_status (EndsUnread.ReadFailed r l k) = (λ z. omega (arith, z), λ z. omega (arith, z))

-- ---- the status 0

ends_done : {answer s : ℕ} {text : List ℕ} {sink sink' : Stream} → EndsWriting answer text sink sink' s → s ≡ 0 → (answer ≡ 0) × Appends sink.bytes sink'.bytes text
ends_done (EndsWriting.Whole a k) z = (z, a)
ends_done (EndsWriting.Failed a k) z = absurd (omega (arith, z))
ends_done (EndsWriting.Memory names number h is a k) z = absurd (omega (arith, z))

module _ {D : Type 0} (seen : D → Seen) (faults : D → ℕ) (source source' sink sink' : Stream) (disk disk' : D) where
  kept_done : {names : Table} {statements : List Statement} {stored answer : ℕ} {h : List Entry} {text : List ℕ} → GaveSession source source' F.Clerks names statements →
      answer ≡ 0 → IsKeptAs names statements (seen disk) (seen disk') (faults disk) (faults disk') stored answer h text → Appends sink.bytes sink'.bytes text →
      HasKept source.bytes source'.bytes sink.bytes sink'.bytes (seen disk) (seen disk') stored h
  kept_done {names} {statements} gave z (IsKeptAs.Whole {h = h} none history ack) written = record {
    run = record {
      text = gave.text;
      given = gave.gave.all;
      names = names;
      statements = statements;
      session = gave.session;
      history = history;
      written = written;
    };
    stored_all = refl;
    kept = all_survive names [] (seen disk) (seen disk') h ack;
    during = ack.during;
  }
  kept_done gave z (IsKeptAs.Part none history ack few rose) written = absurd (omega (arith, z))
  kept_done gave z (IsKeptAs.NotStarted started rose) written = absurd (omega (arith, z))
  kept_done gave z (IsKeptAs.HeldCalls texts started held some) written = absurd (omega (arith, z))
  kept_done gave z (IsKeptAs.Damaged number started damaged) written = absurd (omega (arith, z))

  pub has_kept : {s stored : ℕ} {h : List Entry} → s ≡ 0 → EndsKeeping seen faults source source' sink sink' disk disk' s h stored →
      HasKept source.bytes source'.bytes sink.bytes sink'.bytes (seen disk) (seen disk') stored h
  has_kept z (EndsKeeping.Unread u same) = absurd ((unread_status F.Clerks source source' sink sink' u).0 z)
  has_kept z (EndsKeeping.Read gave (KeepsSession.Answered kept ends)) = let done = ends_done ends z in kept_done gave done.0 kept done.1
  has_kept z (EndsKeeping.Read gave (KeepsSession.NoneMade started same)) = absurd (omega (arith, z))
  has_kept z (EndsKeeping.Read gave (KeepsSession.PartMade none part ack rose same)) = absurd (omega (arith, z))

  recovered_done : {names : Table} {statements : List Statement} {stored answer : ℕ} {h : List Entry} {text : List ℕ} → GaveSession source source' F.Book names statements →
      answer ≡ 0 → IsRecoveredAs names statements (seen disk) (seen disk') (faults disk) (faults disk') stored answer h text → Appends sink.bytes sink'.bytes text →
      HasRecovered source.bytes source'.bytes sink.bytes sink'.bytes (seen disk) stored h
  recovered_done {names} {statements} gave z (IsRecoveredAs.Whole texts {after = after} held history) written = record {
    text = gave.text;
    given = gave.gave.all;
    names = names;
    statements = statements;
    session = gave.session;
    texts = texts;
    on_disk = held.held;
    stored_all = refl;
    after = after;
    history = history;
    written = written;
  }
  recovered_done gave z (IsRecoveredAs.NoCall texts held refused) written = absurd (omega (arith, z))
  recovered_done gave z (IsRecoveredAs.Damaged number damaged) written = absurd (omega (arith, z))
  recovered_done gave z (IsRecoveredAs.NotStarted rose) written = absurd (omega (arith, z))

  pub has_recovered : {s stored : ℕ} {h : List Entry} → s ≡ 0 → EndsRecovering seen faults source source' sink sink' disk disk' s h stored →
      HasRecovered source.bytes source'.bytes sink.bytes sink'.bytes (seen disk) stored h
  has_recovered z (EndsRecovering.Unread u same) = absurd ((unread_status F.Book source source' sink sink' u).0 z)
  has_recovered z (EndsRecovering.Read gave started (RecoversBook.Answered made ends)) = let done = ends_done ends z in recovered_done gave done.0 made done.1
  has_recovered z (EndsRecovering.Read gave started (RecoversBook.NotRead same)) = absurd (omega (arith, z))
  has_recovered z (EndsRecovering.Read gave started (RecoversBook.NotMade texts held same)) = absurd (omega (arith, z))

  resumed_done : {names : Table} {statements : List Statement} {stored answer : ℕ} {h : List Entry} {text : List ℕ} → GaveSession source source' F.Clerks names statements →
      answer ≡ 0 → IsResumedAs names statements (seen disk) (seen disk') (faults disk) (faults disk') stored answer h text → Appends sink.bytes sink'.bytes text →
      HasResumed source.bytes source'.bytes sink.bytes sink'.bytes (seen disk) (seen disk') stored h
  resumed_done {names} {statements} gave z (IsResumedAs.Whole texts {after = after} {p = p} {h = h} was on ack) written = record {
    text = gave.text;
    given = gave.gave.all;
    names = names;
    statements = statements;
    session = gave.session;
    texts = texts;
    after = after;
    p = p;
    recovered = was;
    history = on;
    stored_all = refl;
    written = written;
    kept = all_survive after texts (seen disk) (seen disk') h ack;
    during = ack.during;
  }
  resumed_done gave z (IsResumedAs.Part texts was on ack few rose) written = absurd (omega (arith, z))
  resumed_done gave z (IsResumedAs.NoCall texts started held refused) written = absurd (omega (arith, z))
  resumed_done gave z (IsResumedAs.Damaged number started damaged) written = absurd (omega (arith, z))
  resumed_done gave z (IsResumedAs.NotStarted started rose) written = absurd (omega (arith, z))

  pub has_resumed : {s stored : ℕ} {h : List Entry} → s ≡ 0 → EndsResuming seen faults source source' sink sink' disk disk' s h stored →
      HasResumed source.bytes source'.bytes sink.bytes sink'.bytes (seen disk) (seen disk') stored h
  has_resumed z (EndsResuming.Unread u same) = absurd ((unread_status F.Clerks source source' sink sink' u).0 z)
  has_resumed z (EndsResuming.Read gave (ResumesSession.Answered made ends)) = let done = ends_done ends z in resumed_done gave done.0 made done.1
  has_resumed z (EndsResuming.Read gave (ResumesSession.NoneMade started same)) = absurd (omega (arith, z))
  has_resumed z (EndsResuming.Read gave (ResumesSession.PartMade texts was part ack rose same)) = absurd (omega (arith, z))

  -- ---- no run with these words has the status of words that ask for nothing

  writing_not_two : {answer s : ℕ} {text : List ℕ} → answer ≢ 2 → EndsWriting answer text sink sink' s → s ≢ 2
  writing_not_two ne (EndsWriting.Whole a k) = ne
  writing_not_two ne (EndsWriting.Failed a k) = λ e. omega (arith, e)
  writing_not_two ne (EndsWriting.Memory names number h is a k) = λ e. omega (arith, e)

  kept_not_two : {names : Table} {statements : List Statement} {stored answer : ℕ} {h : List Entry} {text : List ℕ} →
      IsKeptAs names statements (seen disk) (seen disk') (faults disk) (faults disk') stored answer h text → answer ≢ 2
  kept_not_two (IsKeptAs.Whole none history ack) = λ e. omega (arith, e)
  kept_not_two (IsKeptAs.Part none history ack few rose) = λ e. omega (arith, e)
  kept_not_two (IsKeptAs.NotStarted started rose) = λ e. omega (arith, e)
  kept_not_two (IsKeptAs.HeldCalls texts started held some) = λ e. omega (arith, e)
  kept_not_two (IsKeptAs.Damaged number started damaged) = λ e. omega (arith, e)

  pub keeping_not_two : {s stored : ℕ} {h : List Entry} → EndsKeeping seen faults source source' sink sink' disk disk' s h stored → s ≢ 2
  keeping_not_two (EndsKeeping.Unread u same) = (unread_status F.Clerks source source' sink sink' u).1
  keeping_not_two (EndsKeeping.Read gave (KeepsSession.Answered kept ends)) = writing_not_two (kept_not_two kept) ends
  keeping_not_two (EndsKeeping.Read gave (KeepsSession.NoneMade started same)) = λ e. omega (arith, e)
  keeping_not_two (EndsKeeping.Read gave (KeepsSession.PartMade none part ack rose same)) = λ e. omega (arith, e)

  recovered_not_two : {names : Table} {statements : List Statement} {stored answer : ℕ} {h : List Entry} {text : List ℕ} →
      IsRecoveredAs names statements (seen disk) (seen disk') (faults disk) (faults disk') stored answer h text → answer ≢ 2
  recovered_not_two (IsRecoveredAs.Whole texts held history) = λ e. omega (arith, e)
  recovered_not_two (IsRecoveredAs.NoCall texts held refused) = λ e. omega (arith, e)
  recovered_not_two (IsRecoveredAs.Damaged number damaged) = λ e. omega (arith, e)
  recovered_not_two (IsRecoveredAs.NotStarted rose) = λ e. omega (arith, e)

  pub recovering_not_two : {s stored : ℕ} {h : List Entry} → EndsRecovering seen faults source source' sink sink' disk disk' s h stored → s ≢ 2
  recovering_not_two (EndsRecovering.Unread u same) = (unread_status F.Book source source' sink sink' u).1
  recovering_not_two (EndsRecovering.Read gave started (RecoversBook.Answered made ends)) = writing_not_two (recovered_not_two made) ends
  recovering_not_two (EndsRecovering.Read gave started (RecoversBook.NotRead same)) = λ e. omega (arith, e)
  recovering_not_two (EndsRecovering.Read gave started (RecoversBook.NotMade texts held same)) = λ e. omega (arith, e)

  resumed_not_two : {names : Table} {statements : List Statement} {stored answer : ℕ} {h : List Entry} {text : List ℕ} →
      IsResumedAs names statements (seen disk) (seen disk') (faults disk) (faults disk') stored answer h text → answer ≢ 2
  resumed_not_two (IsResumedAs.Whole texts was on ack) = λ e. omega (arith, e)
  resumed_not_two (IsResumedAs.Part texts was on ack few rose) = λ e. omega (arith, e)
  resumed_not_two (IsResumedAs.NoCall texts started held refused) = λ e. omega (arith, e)
  resumed_not_two (IsResumedAs.Damaged number started damaged) = λ e. omega (arith, e)
  resumed_not_two (IsResumedAs.NotStarted started rose) = λ e. omega (arith, e)

  pub resuming_not_two : {s stored : ℕ} {h : List Entry} → EndsResuming seen faults source source' sink sink' disk disk' s h stored → s ≢ 2
  resuming_not_two (EndsResuming.Unread u same) = (unread_status F.Clerks source source' sink sink' u).1
  resuming_not_two (EndsResuming.Read gave (ResumesSession.Answered made ends)) = writing_not_two (resumed_not_two made) ends
  resuming_not_two (EndsResuming.Read gave (ResumesSession.NoneMade started same)) = λ e. omega (arith, e)
  resuming_not_two (EndsResuming.Read gave (ResumesSession.PartMade texts was part ack rose same)) = λ e. omega (arith, e)
