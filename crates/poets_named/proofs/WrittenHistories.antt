-- What the replies of legal histories can be written with.
use Rattle.std.proofs.Common.{◌≡◌, refl, ℕ, suc, ◌^◌, ◌<◌, ◌≤◌, true, false, List, [], ◌∷◌, map, fold, Option, Some, None, IfSome, sym, subst, arith}
use Rattle.std.specs.Prelude.{if◌then◌else◌, IsTrue, ℤ, pos, negsuc}
use Rattle.std.specs.List.{All}
use Rattle.std.proofs.lemmas.List.Elements.{All-nil, All-cons, All-head, All-tail, All-push, All-map, All-weaker}
use Rattle.std.proofs.lemmas.Int.{ints}
use Rattle.poets_value.specs.Civil.{IsDayNumber}
use Rattle.poets_value.specs.Whole.{is_whole, is_day, IsWholeEvent}
use Rattle.poets_value.specs.declared.event.Event.{Event}
use Rattle.poets_value.specs.declared.value.Name.{Name}
use Rattle.poets_value.specs.declared.value.Ty.{Ty}
use Rattle.poets_value.specs.declared.value.Ty.TheVariants as T
use Rattle.poets_value.specs.declared.value.Value.{Value}
use Rattle.poets_value.specs.declared.value.Value.TheVariants as V
use Rattle.poets_lex.specs.Table.{Table, IsTable}
use Rattle.poets_expr.specs.Env.{Declared}
use Rattle.poets_expr.specs.Expression.{Expression}
use Rattle.poets_expr.specs.Val.{val, whole}
use Rattle.poets_expr.specs.Whole.{IsWholeExpression}
use Rattle.poets_syntax.specs.Contract.{Contract}
use Rattle.poets_syntax.specs.Plain.{Book}
use Rattle.poets_syntax.specs.WellFormed.{IsDeclaredEvent}
use Rattle.poets_syntax.specs.Whole.{IsWholeContract}
use Rattle.poets_residue.proofs.WholeResiduals.{trace_whole}
use Rattle.poets_report.specs.Answers.{IsAnswer}
use Rattle.poets_report.specs.Plain.{Report, Answer, Single, Rows}
use Rattle.poets_command.specs.Plain.{Command, Reply, Entry}
use Rattle.poets_command.specs.Reports.{report_in}
use Rattle.poets_command.specs.Totals.{if_whole, total_by, added}
use Rattle.poets_command.specs.Taken.{IsTaken}
use Rattle.poets_command.specs.TypedStatements.{report_names}
use Rattle.poets_command.specs.Typing.{IsTypedCall, IsTypedCommand, IsTypedReport, Tallies, Lists, Watches}
use Rattle.poets_command.proofs.TypedCommands.{typed_event}
use Rattle.poets_history.specs.Frame.{Frame, frame_of}
use Rattle.poets_history.specs.Ledger.{Ledger, ledger_of, empty_ledger, with_entry, contract_named, number_of, trace, events, last_day, late_day}
use Rattle.poets_history.specs.Owed.{Owed}
use Rattle.poets_history.specs.Replies.{Replies, Legal, ReportAnswers, AreFolioRows}
use Rattle.poets_print.specs.Laws.{IsListed, CanWriteContract, CanWriteCommand}
use Rattle.poets_literals.specs.Declared.{IsNumber, IsDeclaredAs, IsAsDeclared}
use Rattle.poets_named.specs.Laws.{RepliesCanBeWritten}
use Rattle.poets_named.specs.Written.{IsListedEvent, CanWriteBook, IsWholeReport, AreTypedRules, EachValue, EachTotal, CanWriteReply}
use Rattle.poets_named.proofs.ListedResults.{AreListedDeclared}
use Rattle.poets_literals.proofs.NameTexts.{listed_are_placed}
use Rattle.poets_named.proofs.ListedResiduals.{residuals_can_be_written}
use Rattle.poets_named.proofs.Ledgers.{All-without, All-named, All-trace, All-last, late_is, All-absent, All-watch, All-report, All-before, fit_of}
use Rattle.poets_named.proofs.WrittenAnswers.{IsKnown, answers_are_declared}

-- ---- numbers, days and values

number_of_whole : (z : ℤ) → IsTrue (is_whole z) → IsNumber z
number_of_whole (pos n) h =
    let small : n < 2 ^ 63 = grind (arith, ints) in
    omega (arith, ints, small)
number_of_whole (negsuc n) h =
    let small : suc n < 2 ^ 63 = grind (arith, ints) in
    omega (arith, ints, small)

day_number : (d : ℤ) → IsTrue (is_day d) → IsDayNumber d
day_number (pos n) h =
    let small : n ≤ 2_932_896 = grind (arith, ints) in
    omega (arith, ints, small)
day_number (negsuc n) h =
    let small : suc n ≤ 719_162 = grind (arith, ints) in
    omega (arith, ints, small)

module _ (names : Table) (declared : Declared) (table : IsTable names) (listed : AreListedDeclared names declared) where
  declared_as : (ty : Ty) (x : Name) → declared x ≡ Some ty → IsDeclaredAs names declared ty x
  declared_as ty x h = (listed_are_placed names x table (listed x ty h), h)

  as_declared : (v : Value) → IsKnown declared v → IsAsDeclared names declared v
  as_declared (V.Int n) h = number_of_whole n h.0
  as_declared (V.Bool b) h = tt
  as_declared (V.Agent x) h = declared_as T.Agent x h.1
  as_declared (V.Kind x) h = declared_as T.Kind x h.1
  as_declared (V.Resource r) h = (number_of_whole r.amount h.0, declared_as T.Kind r.kind h.1)
  as_declared (V.Day d) h = day_number d h.0

weaker : (P Q : Value → Type 0) → ((v : Value) → P v → Q v) → (o : Option Value) → IfSome o P → IfSome o Q
weaker P Q f None h = tt
weaker P Q f (Some v) h = f v h

each_weaker : (P Q : Value → Type 0) → ((v : Value) → P v → Q v) → (a : Answer) → EachValue P a → EachValue Q a
each_weaker P Q f (Single v) h = weaker P Q f v h
each_weaker P Q f (Rows rows) h =
    All-weaker (λ r. IfSome r.0 P × IfSome r.1 P) (λ r. IfSome r.0 Q × IfSome r.1 Q)
    (λ r i. (weaker P Q f r.0 i.0, weaker P Q f r.1 i.1)) rows h

-- ---- totals

whole_number : (names : Table) (declared : Declared) (z : ℤ) → IfSome (whole z) (IsAsDeclared names declared)
whole_number names declared z = elim (is_whole z) as (λ b. is_whole z ≡ b → IfSome (if b then Some (V.Int z) else None) (IsAsDeclared names declared)) [
  | true ↦ (λ e. number_of_whole z e)
  | false ↦ (λ e. tt)
] refl

whole_sum : (names : Table) (declared : Declared) (o : Option ℤ) → IfSome (if_whole o) (IsAsDeclared names declared)
whole_sum names declared None = tt
whole_sum names declared (Some z) = whole_number names declared z

whole_total : (names : Table) (declared : Declared) (t : Ty) (key : Option Expression) (rows : List (Name × Answer)) →
    EachTotal (IsAsDeclared names declared) (total_by t key rows)
whole_total names declared T.Int None rows = whole_sum names declared (fold (λ z row. added z row.1) (Some (pos 0)) rows)
whole_total names declared T.Int (Some key) rows = tt
whole_total names declared T.Bool key rows = tt
whole_total names declared T.Agent key rows = tt
whole_total names declared T.Kind key rows = tt
whole_total names declared T.Resource key rows = tt
whole_total names declared T.Day key rows = tt

-- ---- ledgers

module _ (names : Table) (book : Book) (reports : List Report) where
  -- what is known of a command
  abbrev IsGood : Command → Type 0
  IsGood command = IsTaken book reports command × CanWriteCommand names command

  abbrev IsGoodContract : Contract → Type 0
  IsGoodContract c = CanWriteContract names c × IsWholeContract c

  abbrev IsGoodEvent : Event → Type 0
  IsGoodEvent e = IsListedEvent names e × IsDeclaredEvent book.declared e × IsWholeEvent e

  abbrev IsGoodWatch : Name × List Expression → Type 0
  IsGoodWatch w = IsTypedCall book reports w.0 w.1 × All IsWholeExpression w.1

  record IsGoodLedger (l : Ledger) : Type 0 where
    pub contracts : All (λ p. IsGoodContract p.1) l.contracts
    pub log : All (λ p. IsGoodEvent p.1) l.log
    pub watches : All IsGoodWatch l.watches

  good_event : (x : Name) (e : Event) → IsGood (Command.Transmit x e) → IsGoodEvent e
  good_event x e g =
      let listed : IsListedEvent names e = record { sender = g.1.1; receiver = g.1.2; kind = g.1.4 } in
      (listed, typed_event book reports x e g.0.typed, g.0.whole)

  watched : (x : Name) (args : List Expression) → IsTypedCommand book reports (Command.Watch x args) → IsTypedCall book reports x args
  watched x args (Watches call) = call

  tallied : (x : Name) (args : List Expression) → IsTypedCommand book reports (Command.Tally x args) → IsTypedCall book reports x args
  tallied x args (Tallies call) = call

  listing : (x : Name) (args : List Expression) (over : List Name) → IsTypedCommand book reports (Command.Portfolio x args over) → IsTypedCall book reports x args
  listing x args over (Lists call) = call

  good_more : (l : Ledger) (command : Command) (r : Reply) → IsGoodLedger l → IsGood command → IsGoodLedger (with_entry l command r)
  good_more l (Command.Register x c) (Reply.Registered n) h g = record {
    contracts = All-push (λ p. IsGoodContract p.1) l.contracts (x, c) h.contracts (g.1.1, g.0.whole);
    log = h.log;
    watches = h.watches;
  }
  good_more l (Command.Transmit x e) (Reply.Recorded n b) h g = record {
    contracts = h.contracts;
    log = All-push (λ p. IsGoodEvent p.1) l.log (number_of l x, e) h.log (good_event x e g);
    watches = h.watches;
  }
  good_more l (Command.Void x k) (Reply.Voided n b) h g = record {
    contracts = h.contracts;
    log = All-without (λ p. IsGoodEvent p.1) (number_of l x) k l.log h.log;
    watches = h.watches;
  }
  good_more l (Command.End x) Reply.EndedNow h g = record { contracts = h.contracts; log = h.log; watches = h.watches }
  good_more l (Command.Watch x args) (Reply.Watching n) h g = record {
    contracts = h.contracts;
    log = h.log;
    watches = All-push IsGoodWatch l.watches (x, args) h.watches (watched x args g.0.typed, g.0.whole);
  }
  good_more l command r h g = h

  good_from : (h : List Entry) (l : Ledger) → IsGoodLedger l → All (λ e. IsGood e.command) h → IsGoodLedger (fold (λ m e. with_entry m e.command e.reply) l h)
  good_from [] l s g = s
  good_from (e ∷ h) l s g =
      good_from h (with_entry l e.command e.reply) (good_more l e.command e.reply s (All-head (λ x. IsGood x.command) e h g)) (All-tail (λ x. IsGood x.command) e h g)

  good_ledger : (h : List Entry) → All (λ e. IsGood e.command) h → IsGoodLedger (ledger_of h)
  good_ledger h g =
      let none : IsGoodLedger empty_ledger = record {
        contracts = All-nil (λ p. IsGoodContract p.1);
        log = All-nil (λ p. IsGoodEvent p.1);
        watches = All-nil IsGoodWatch;
      } in
      good_from h empty_ledger none g

  module _ (table : IsTable names) (can : CanWriteBook names book) (typed : AreTypedRules book reports) where
    declared_values : (v : Value) → IsKnown book.declared v → IsAsDeclared names book.declared v
    declared_values = as_declared names book.declared table can.declared

    -- what a report answers over good events
    answer_written : (q : Report) (x : Name) (args : List Expression) (s : List Event) (a : Answer) → report_in reports x ≡ Some q →
        IsGoodWatch (x, args) → All IsGoodEvent s → IsAnswer book.declared q (map (val book.declared []) args) s a →
        EachValue (IsAsDeclared names book.declared) a
    answer_written q x args s a found call all is =
        each_weaker (IsKnown book.declared) (IsAsDeclared names book.declared) declared_values a
        (answers_are_declared book (report_names reports) q args s a
        (All-report (IsTypedReport book (report_names reports)) reports x q typed.typed found)
        (All-report IsWholeReport reports x q typed.whole found)
        (fit_of book reports x args q call.0 found) call.1
        (All-weaker IsGoodEvent (IsDeclaredEvent book.declared) (λ e k. k.1) s all)
        (All-weaker IsGoodEvent IsWholeEvent (λ e k. k.2) s all) is)

module _ (names : Table) (f : Frame) (table : IsTable names) (can : CanWriteBook names f.book) (typed : AreTypedRules f.book f.reports) where
  abbrev IsSound : Ledger → Type 0
  IsSound l = IsGoodLedger names f.book f.reports l

  abbrev IsRight : Command → Type 0
  IsRight command = IsGood names f.book f.reports command

  abbrev IsRightValue : Value → Type 0
  IsRightValue v = IsAsDeclared names f.book.declared v

  abbrev IsWrittenRow : Name × Answer → Type 0
  IsWrittenRow row = IsListed names row.0 × EachValue IsRightValue row.1

  sound_trace : (l : Ledger) (n : ℕ) → IsSound l → All (IsGoodEvent names f.book f.reports) (trace l n)
  sound_trace l n h = All-trace (IsGoodEvent names f.book f.reports) l n h.log

  sound_events : (l : Ledger) → IsSound l → All (IsGoodEvent names f.book f.reports) (events l)
  sound_events l h = All-map (IsGoodEvent names f.book f.reports) (λ p. p.1) l.log h.log

  tally_written : (x : Name) (args : List Expression) (s : List Event) (a : Answer) → IsGoodWatch names f.book f.reports (x, args) →
      All (IsGoodEvent names f.book f.reports) s → ReportAnswers f x args s a → EachValue IsRightValue a
  tally_written x args s a call all is = answer_written names f.book f.reports table can typed is.0 x args s a is.1 call all is.2

  rows_written : (l : Ledger) → IsSound l → (q : Report) (x : Name) (args : List Expression) → report_in f.reports x ≡ Some q →
      IsGoodWatch names f.book f.reports (x, args) → (over : List Name) (rows : List (Name × Answer)) → All (IsListed names) over →
      AreFolioRows f l q args over rows → All IsWrittenRow rows
  rows_written l s q x args found call [] [] listed are = All-nil IsWrittenRow
  rows_written l s q x args found call [] (row ∷ rows) listed are = absurd are
  rows_written l s q x args found call (y ∷ over) [] listed are = absurd are
  rows_written l s q x args found call (y ∷ over) (row ∷ rows) listed are =
      let here = All-head (IsListed names) y over listed in
      let answer = answer_written names f.book f.reports table can typed q x args (trace l (number_of l y)) row.1 found call
      (sound_trace l (number_of l y) s) are.0.1 in
      All-cons IsWrittenRow row rows (subst (IsListed names) (sym are.0.0) here, answer)
      (rows_written l s q x args found call over rows (All-tail (IsListed names) y over listed) are.1)

  late_written : (l : Ledger) (i : ℕ) (day last : ℤ) → IsSound l → late_day (trace l i) day ≡ Some last → IsDayNumber last
  late_written l i day last s late =
      let days = All-weaker (IsGoodEvent names f.book f.reports) (λ e. IsTrue (is_day e.day)) (λ e k. k.2.1) (trace l i) (sound_trace l i s) in
      day_number last
      (late_is (λ d. IsTrue (is_day d)) day last (last_day (trace l i)) (All-last (λ d. IsTrue (is_day d)) (trace l i) days) late)

  residual_written : (l : Ledger) (x : Name) (i : ℕ) (o r : Contract) → IsSound l → contract_named l x ≡ Some (i, o) →
      Owed f.book o (trace l i) r → CanWriteContract names r × IsWholeContract r
  residual_written l x i o r s named owed =
      let original = All-named (IsGoodContract names f.book f.reports) 1 x l.contracts i o s.contracts named in
      let all = sound_trace l i s in
      subst (λ c. CanWriteContract names c × IsWholeContract c) owed.holds (
        residuals_can_be_written names f.book owed.marks o (trace l i) can original.0
            (All-weaker (IsGoodEvent names f.book f.reports) (IsListedEvent names) (λ e k. k.0) (trace l i) all),
        trace_whole f.book owed.marks typed.templates o original.1 (trace l i)
            (All-weaker (IsGoodEvent names f.book f.reports) IsWholeEvent (λ e k. k.2) (trace l i) all),
      )

  reply_written : (l : Ledger) → IsSound l → (command : Command) (r : Reply) → IsRight command → Replies f l command r →
      CanWriteReply names f.book.declared r
  reply_written l s _ _ g (Replies.NameTaken named) = tt
  reply_written l s _ _ g (Replies.Hopeless absent never) = tt
  reply_written l s _ _ g (Replies.RegisterTooLarge absent hopeful large) = tt
  reply_written l s _ _ g (Replies.Registered absent hopeful small) = tt
  reply_written l s _ _ g (Replies.TransmitToNone absent) = g.1.0
  reply_written l s _ _ g (Replies.TransmitToEnded named ended) = tt
  reply_written l s _ _ g (Replies.Late {e = e} {i = i} {last = last} live late) = late_written l i e.day last s late
  reply_written l s _ _ g (Replies.Unmatched live stuck) = tt
  reply_written l s _ _ g (Replies.TransmitTooLarge live goes large) = tt
  reply_written l s _ _ g (Replies.Recorded live goes small tells) = tt
  reply_written l s _ _ g (Replies.VoidOfNone absent) = g.1.0
  reply_written l s _ _ g (Replies.VoidOfEnded named ended) = tt
  reply_written l s _ _ g (Replies.NoEvent live none) = tt
  reply_written l s _ _ g (Replies.VoidTooLarge live large) = tt
  reply_written l s _ _ g (Replies.VoidUnmatched live small stuck) = tt
  reply_written l s _ _ g (Replies.Voided live small goes tells) = tt
  reply_written l s _ _ g (Replies.EndOfNone absent) = g.1
  reply_written l s _ _ g (Replies.AlreadyEnded named ended) = tt
  reply_written l s _ _ g (Replies.NotPerformed live fails) = tt
  reply_written l s _ _ g (Replies.EndedNow live performed) = tt
  reply_written l s _ _ g (Replies.ShowOfNone absent) = g.1
  reply_written l s _ _ g (Replies.Shown {x = x} {i = i} {o = o} {r = r} named owed tells) = residual_written l x i o r s named owed
  reply_written l s _ _ g (Replies.Tallied {x = x} {args = args} {a = a} answers) =
      tally_written x args (events l) a (tallied names f.book f.reports x args g.0.typed, g.0.whole) (sound_events l s) answers
  reply_written l s _ _ g (Replies.PortfolioOfNone {absent = absent} {over = over} none) = All-absent (IsListed names) l over absent g.1.2 none
  reply_written l s _ _ g (Replies.Folio {x = x} {args = args} {over = over} {q = q} {rows = rows} present found are) =
      let call : IsGoodWatch names f.book f.reports (x, args) = (listing names f.book f.reports x args over g.0.typed, g.0.whole) in
      (rows_written l s q x args found call over rows g.1.2 are, whole_total names f.book.declared q.ty q.key rows)
  reply_written l s _ _ g Replies.Watching = tt
  reply_written l s _ _ g (Replies.NoWatch none) = tt
  reply_written l s _ _ g (Replies.Read {n = n} {x = x} {args = args} {a = a} watch answers) =
      tally_written x args (events l) a (All-watch (IsGoodWatch names f.book f.reports) l n (x, args) s.watches watch) (sound_events l s) answers

  history_written : {h : List Entry} → Legal f h → All (λ e. IsRight e.command) h → All (λ e. CanWriteReply names f.book.declared e.reply) h
  history_written Legal.Empty g = All-nil (λ e. CanWriteReply names f.book.declared e.reply)
  history_written (Legal.More {h = h} e legal reply) g =
      let parts = All-before (λ x. IsRight x.command) h e g in
      All-push (λ x. CanWriteReply names f.book.declared x.reply) h e (history_written legal parts.0)
      (reply_written (ledger_of h) (good_ledger names f.book f.reports h parts.0) e.command e.reply parts.1 reply)

pub replies_can_be_written : RepliesCanBeWritten
replies_can_be_written names book reports h table can typed legal good =
    history_written names (frame_of book reports) table can typed legal good
