-- What is shown in legal histories of typed commands.
use Rattle.std.proofs.Common.{◌≡◌, ℕ, suc, ◌-◌, Bool, true, false, nat_eq, List, [], ◌∷◌, ◌++◌, Option, Some, filter, fold, map, refl, sym, ◌∙◌, ap, subst, ◌⊎◌, inl, inr}
use Rattle.std.specs.Prelude.{◌↔◌, if◌then◌else◌}
use Rattle.std.specs.List.{All}
use Rattle.std.proofs.lemmas.List.Elements.{All-nil, All-cons, All-head, All-tail, All-append, All-map, All-filter}
use Rattle.poets_value.specs.declared.value.Name.{Name}
use Rattle.poets_expr.specs.Env.{same_name}
use Rattle.poets_syntax.specs.Applied.{CountsFit}
use Rattle.poets_syntax.specs.Plain.{Book}
use Rattle.poets_syntax.specs.Contract.{Contract}
use Rattle.poets_syntax.specs.WellFormed.{IsWellFormed, IsDeclaredEvent}
use Rattle.poets_meaning.specs.Perf.{Perf}
use Rattle.poets_meaning.specs.Studied.{IsStudiedBook, marks_in}
use Rattle.poets_meaning.proofs.StudiedMarks.{AreRight-studied}
use Rattle.poets_residue.proofs.Studies.{IsStudied-book}
use Rattle.poets_residue.proofs.Traces.{trace_performed}
use Rattle.poets_report.specs.Plain.{Report}
use Rattle.poets_command.specs.Plain.{Command, Reply, Entry}
use Rattle.poets_history.specs.Frame.{Frame, frame_of}
use Rattle.poets_history.specs.Histories.{ShowsWhatIsOwed}
use Rattle.poets_history.specs.Gathered.{with_before}
use Rattle.poets_history.specs.Owed.{Owed}
use Rattle.poets_meaning.specs.declared.studied.Mark.{Mark}
use Rattle.poets_value.specs.declared.event.Event.{Event}
use Rattle.poets_command.specs.Typing.{IsTypedCommand}
use Rattle.poets_command.proofs.TypedCommands.{typed_registration, typed_event}
use Rattle.poets_history.specs.Ledger.{Ledger, ledger_of, number_of, without, empty_ledger, with_entry, contract_from, contract_named, trace}
use Rattle.poets_history.specs.Replies.{Legal, Replies}
use Rattle.poets_history.proofs.Histories.{legal_reply}
use Rattle.poets_history.proofs.Owing.{owed_residual}
use Rattle.poets_engine.specs.Laws.{LegalHistoriesShow}

-- a chosen value is the first or the later one
first_or_later : {A : Type 0} (b : Bool) (first : A) (later : Option A) (x : A) → (if b then Some first else later) ≡ Some x → (first ≡ x) ⊎ (later ≡ Some x)
first_or_later true first later x e = inl cc
first_or_later false first later x e = inr e

-- what holds of each pair of a log holds of each that is left
All-without : (P : ℕ × Event → Type 0) (n k : ℕ) (log : List (ℕ × Event)) → All P log → All P (without n k log)
All-without P n k [] h = h
All-without P n k (p ∷ log) h = by_number (nat_eq p.0 n) (nat_eq k 1) (λ j. All-without P n j log (All-tail P p log h))
  where
    by_number : (b c : Bool) → ((j : ℕ) → All P (without n j log)) →
        All P (if b then (if c then log else p ∷ without n (k - 1) log) else p ∷ without n k log)
    by_number true true left = All-tail P p log h
    by_number true false left = All-cons P p (without n (k - 1) log) (All-head P p log h) (left (k - 1))
    by_number false c left = All-cons P p (without n k log) (All-head P p log h) (left k)

module _ (book : Book) (reports : List Report) where
  -- the contract is well-formed and has the right numbers of arguments
  abbrev Fits : Contract → Type 0
  Fits c = IsWellFormed book.declared c × CountsFit book c

  -- each contract of the ledger fits, and each event is declared
  record IsSound (l : Ledger) : Type 0 where
    pub contracts : All (λ p. Fits p.1) l.contracts
    pub log : All (λ p. IsDeclaredEvent book.declared p.1) l.log

  sound_more : (l : Ledger) (command : Command) (given_reply : Reply) → IsSound l → IsTypedCommand book reports command → IsSound (with_entry l command given_reply)
  sound_more l (Command.Register x c) (Reply.Registered n) h t = record {
    contracts = All-append (λ p. Fits p.1) l.contracts ((x, c) ∷ []) h.contracts (All-cons (λ p. Fits p.1) (x, c) [] (typed_registration book reports x c t) (All-nil (λ p. Fits p.1)));
    log = h.log;
  }
  sound_more l (Command.Transmit x e) (Reply.Recorded n b) h t = record {
    contracts = h.contracts;
    log = All-append (λ p. IsDeclaredEvent book.declared p.1) l.log _ h.log
        (All-cons (λ p. IsDeclaredEvent book.declared p.1) _ [] (typed_event book reports x e t) (All-nil (λ p. IsDeclaredEvent book.declared p.1)));
  }
  sound_more l (Command.Void x k) (Reply.Voided n b) h t = record {
    contracts = h.contracts;
    log = All-without (λ p. IsDeclaredEvent book.declared p.1) (number_of l x) k l.log h.log;
  }
  sound_more l (Command.End x) Reply.EndedNow h t = record { contracts = h.contracts; log = h.log }
  sound_more l (Command.Watch x args) (Reply.Watching n) h t = record { contracts = h.contracts; log = h.log }
  sound_more l command given_reply h t = h

  abbrev AreTyped : List Entry → Type 0
  AreTyped h = All (λ e. IsTypedCommand book reports e.command) h

  sound_from : (h : List Entry) (l : Ledger) → IsSound l → AreTyped h → IsSound (fold (λ m e. with_entry m e.command e.reply) l h)
  sound_from [] l s t = s
  sound_from (e ∷ h) l s t =
      sound_from h (with_entry l e.command e.reply)
      (sound_more l e.command e.reply s (All-head (λ x. IsTypedCommand book reports x.command) e h t)) (All-tail (λ x. IsTypedCommand book reports x.command) e h t)

  -- the ledger of typed commands is sound
  sound : (h : List Entry) → AreTyped h → IsSound (ledger_of h)
  sound h t = sound_from h empty_ledger (record { contracts = All-nil (λ p. Fits p.1); log = All-nil (λ p. IsDeclaredEvent book.declared p.1) }) t

  front : (before after : List Entry) → AreTyped (before ++ after) → AreTyped before
  front [] after t = All-nil (λ e. IsTypedCommand book reports e.command)
  front (e ∷ before) after t = All-cons (λ x. IsTypedCommand book reports x.command) e before (All-head (λ x. IsTypedCommand book reports x.command) e (before ++ after) t)
      (front before after (All-tail (λ x. IsTypedCommand book reports x.command) e (before ++ after) t))

  named_fits : (i : ℕ) (x : Name) (contracts : List (Name × Contract)) (n : ℕ) (o : Contract) → All (λ p. Fits p.1) contracts →
      contract_from i x contracts ≡ Some (n, o) → Fits o
  named_fits i x [] n o h e = absurd cc
  named_fits i x (c ∷ contracts) n o h e = elim (first_or_later (same_name c.0 x) (i, c.1) (contract_from (suc i) x contracts) (n, o) e) [
    | inl here ↦ subst Fits (ap (λ p. p.1) here) (All-head (λ p. Fits p.1) c contracts h)
    | inr later ↦ named_fits (suc i) x contracts n o (All-tail (λ p. Fits p.1) c contracts h) later
  ]

  trace_declared : (l : Ledger) (n : ℕ) → IsSound l → All (IsDeclaredEvent book.declared) (trace l n)
  trace_declared l n s =
      All-map (IsDeclaredEvent book.declared) (λ p. p.1) (filter (λ p. nat_eq p.0 n) l.log)
      (All-filter (λ p. nat_eq p.0 n) (λ p. IsDeclaredEvent book.declared p.1) l.log s.log)

  some_one : {A : Type 0} (x y : A) → Some x ≡ Some y → x ≡ y
  some_one x y e = cc

  -- the frame of the book and the reports
  abbrev frame : Frame
  frame = frame_of book reports

  -- a reply that shows a residual shows what is owed on the contract's original after its trace
  shown_is : (l : Ledger) (x : Name) (n : ℕ) (o : Contract) (residual : Contract) (count : ℕ) (may_end ended : Bool) →
      contract_named l x ≡ Some (n, o) → Replies frame l (Command.Show x) (Reply.Shown residual count may_end ended) → Owed book o (trace l n) residual
  shown_is l x n o residual _ _ _ e (Replies.Shown {i = i} {o = o'} named owed tells) =
      subst (λ p. Owed book p.1 (trace l p.0) residual) (some_one (i, o') (n, o) (sym named ∙ e)) owed

  module _ (marks : List Mark) (studied : IsStudiedBook book marks) where
    -- each reply shows what is owed
    shows_reply : (l : Ledger) (command : Command) (reply : Reply) → IsSound l → Replies frame l command reply → ShowsWhatIsOwed book l command reply
    shows_reply l (Command.Show x) (Reply.Shown residual count may_end ended) ok reply = λ number original named s.
        let is = owed_residual book (marks_in book.templates marks) (AreRight-studied book marks studied) original (trace l number) residual
        (shown_is l x number original residual count may_end ended named reply) in
        let fits = named_fits 1 x l.contracts number original ok.contracts named in
        let law = trace_performed book (marks_in book.templates marks) (IsStudied-book book marks studied) original fits.0 fits.1 (trace l number)
        (trace_declared l number ok) s in
        subst (λ r. Perf book [] r s ↔ Perf book [] original (trace l number ++ s)) is law
    shows_reply l _ _ ok reply = tt

-- what holds of each entry with all that stands before it
All-with_before : (P : List Entry × Entry → Type 0) (h : List Entry) →
    ((before after : List Entry) (e : Entry) → h ≡ before ++ e ∷ after → P (before, e)) → All P (with_before h)
All-with_before P [] each = All-nil P
All-with_before P (e ∷ h) each =
    let behind : List Entry × Entry → List Entry × Entry = λ p. (e ∷ p.0, p.1) in
    All-cons P ([], e) (map behind (with_before h)) (each [] h e refl)
    (All-map P behind (with_before h) (All-with_before (λ p. P (behind p)) h (λ before after d k. each (e ∷ before) after d (ap (λ xs. e ∷ xs) k))))

pub legal_histories_show : LegalHistoriesShow
legal_histories_show book marks reports h studied legal typed =
    All-with_before (λ p. ShowsWhatIsOwed book (ledger_of p.0) p.1.command p.1.reply) h (λ before after e split.
    let reply = legal_reply (frame_of book reports) before e after (subst (Legal (frame_of book reports)) split legal) in
    let ok = sound book reports before (front book reports before (e ∷ after) (subst (AreTyped book reports) split typed)) in
    shows_reply book reports marks studied (ledger_of before) e.command e.reply ok reply)
