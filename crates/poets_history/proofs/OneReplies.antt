-- A command has one reply.
use Rattle.std.proofs.Common.{◌≡◌, ℕ, ◌+◌, ◌-◌, Bool, true, false, List, [], ◌∷◌, Option, Some, None, length, refl, sym, ◌∙◌, ap, ap₂, subst, inl, inr}
use Rattle.std.specs.Prelude.{ℤ, ◌⊎◌}
use Rattle.poets_value.specs.declared.value.Name.{Name}
use Rattle.poets_value.specs.declared.event.Event.{Event}
use Rattle.poets_expr.specs.Expression.{Expression}
use Rattle.poets_syntax.specs.Contract.{Contract}
use Rattle.poets_meaning.specs.Marks.{Hopeful}
use Rattle.poets_meaning.specs.Perf.{Perf}
use Rattle.poets_report.specs.Plain.{Report, Answer}
use Rattle.poets_report.proofs.OneAnswers.{one_answer}
use Rattle.poets_command.specs.Plain.{Command, Reply}
use Rattle.poets_command.specs.Totals.{total_of}
use Rattle.poets_command.specs.Reports.{report_in}
use Rattle.poets_history.specs.Ledger.{Ledger, contract_named, number_of, trace, events, is_ended, late_day, first_absent, watch_at}
use Rattle.poets_history.specs.Frame.{Frame}
use Rattle.poets_history.specs.Owed.{Owed}
use Rattle.poets_history.specs.Replies.{Replies, IsTooLarge, CanGoOn, TellsWhetherPerformed, WasEnded, HasPlace, GrowsTooLarge, trace_with, trace_without}
use Rattle.poets_history.specs.Replies.{ReportAnswers, argument_values, AnswersReport, AreFolioRows}
use Rattle.poets_history.specs.Laws.{OneReply}
use Rattle.poets_history.proofs.Owing.{one_by, one_owed}

-- ---- the cases of each command in order, of which the first that applies has the reply

-- the first where the condition holds, else the second
abbrev When : Type 0 → Type 0 → Type 0 → Type 0
When Condition First Second = (Condition × First) ⊎ ((Condition → ⊥) × Second)

-- the first where the condition does not hold, else the second
abbrev Unless : Type 0 → Type 0 → Type 0 → Type 0
Unless Condition First Second = ((Condition → ⊥) × First) ⊎ (Condition × Second)

abbrev Registers : Frame → Ledger → Contract → (named : Option (ℕ × Contract)) → Reply → Type 0
Registers f l c (Some named) r = r ≡ Reply.NameTaken named.0
Registers f l c None r =
    Unless (Hopeful f.book c) (r ≡ Reply.Hopeless) (
    When (IsTooLarge f c []) (r ≡ Reply.TooLarge)
    (r ≡ Reply.Registered (length l.contracts + 1)))

-- `later` is the last day of the trace, if the event's is before it; s is the trace with the event
abbrev Records : Frame → Contract → (count : ℕ) → (s : List Event) → (later : Option ℤ) → Reply → Type 0
Records f o n s (Some later) r = r ≡ Reply.Late later
Records f o n s None r =
    Unless (CanGoOn f o s) (r ≡ Reply.Unmatched) (
    When (IsTooLarge f o s) (r ≡ Reply.TooLarge)
    ((b : Bool) × TellsWhetherPerformed f b o s × (r ≡ Reply.Recorded (n + 1) b)))

abbrev Transmits : Frame → Ledger → Name → Event → (named : Option (ℕ × Contract)) → Reply → Type 0
Transmits f l x e None r = r ≡ Reply.NoContract x
Transmits f l x e (Some named) r =
    When (WasEnded l named.0) (r ≡ Reply.Ended)
    (Records f named.1 (length (trace l named.0)) (trace_with l named.0 e) (late_day (trace l named.0) e.day) r)

-- s is what remains of the trace
abbrev Leaves : Frame → Contract → (s : List Event) → Reply → Type 0
Leaves f o s r =
    When (GrowsTooLarge f o s) (r ≡ Reply.TooLarge) (
    Unless (CanGoOn f o s) (r ≡ Reply.Unmatched)
    ((b : Bool) × TellsWhetherPerformed f b o s × (r ≡ Reply.Voided (length s) b)))

abbrev Voids : Frame → Ledger → Name → ℕ → (named : Option (ℕ × Contract)) → Reply → Type 0
Voids f l x k None r = r ≡ Reply.NoContract x
Voids f l x k (Some named) r =
    When (WasEnded l named.0) (r ≡ Reply.Ended) (
    Unless (HasPlace (trace l named.0) k) (r ≡ Reply.NoEvent k)
    (Leaves f named.1 (trace_without l named.0 k) r))

abbrev Ends : Frame → Ledger → Name → (named : Option (ℕ × Contract)) → Reply → Type 0
Ends f l x None r = r ≡ Reply.NoContract x
Ends f l x (Some named) r =
    When (WasEnded l named.0) (r ≡ Reply.AlreadyEnded) (
    Unless (Perf f.book [] named.1 (trace l named.0)) (r ≡ Reply.NotPerformed)
    (r ≡ Reply.EndedNow))

abbrev Shows : Frame → Ledger → Name → (named : Option (ℕ × Contract)) → Reply → Type 0
Shows f l x None r = r ≡ Reply.NoContract x
Shows f l x (Some named) r =
    let s = trace l named.0 in
    (owed : Contract) × Owed f.book named.1 s owed
    × ((b : Bool) × TellsWhetherPerformed f b named.1 s × (r ≡ Reply.Shown owed (length s) b (is_ended l named.0)))

abbrev Tallies : Frame → Name → List Expression → List Event → Reply → Type 0
Tallies f x args s r = (a : Answer) × ReportAnswers f x args s a × (r ≡ Reply.Answered a)

abbrev GivesFolio : Frame → Ledger → Name → List Expression → List Name → (absent : Option Name) → Reply → Type 0
GivesFolio f l x args over (Some absent) r = r ≡ Reply.NoContract absent
GivesFolio f l x args over None r =
    (q : Report) × (report_in f.reports x ≡ Some q)
    × ((rows : List (Name × Answer))
    × AreFolioRows f l q args over rows × (r ≡ Reply.Folio rows (total_of q rows)))

abbrev Reads : Frame → Ledger → ℕ → (watch : Option (Name × List Expression)) → Reply → Type 0
Reads f l n None r = r ≡ Reply.NoWatch n
Reads f l n (Some watch) r = Tallies f watch.0 watch.1 (events l) r

abbrev ByCases : Frame → Ledger → Command → Reply → Type 0
ByCases f l (Command.Register x c) r = Registers f l c (contract_named l x) r
ByCases f l (Command.Transmit x e) r = Transmits f l x e (contract_named l x) r
ByCases f l (Command.Void x k) r = Voids f l x k (contract_named l x) r
ByCases f l (Command.End x) r = Ends f l x (contract_named l x) r
ByCases f l (Command.Show x) r = Shows f l x (contract_named l x) r
ByCases f l (Command.Tally x args) r = Tallies f x args (events l) r
ByCases f l (Command.Portfolio x args over) r = GivesFolio f l x args over (first_absent l over) r
ByCases f l (Command.Watch x args) r = r ≡ Reply.Watching (length l.watches + 1)
ByCases f l (Command.Read n) r = Reads f l n (watch_at l n) r

-- what holds in the case that is found holds of what was looked for
at : {A : Type 0} (P : A → Reply → Type 0) {a b : A} {r : Reply} → a ≡ b → P b r → P a r
at P {r = r} e h = subst (λ x. P x r) (sym e) h

-- each rule is a case
cases_of : (f : Frame) (l : Ledger) (command : Command) (r : Reply) → Replies f l command r → ByCases f l command r
cases_of f l _ _ (Replies.NameTaken {c = c} named) = at (Registers f l c) named refl
cases_of f l _ _ (Replies.Hopeless {c = c} absent never) = at (Registers f l c) absent (inl (never, refl))
cases_of f l _ _ (Replies.RegisterTooLarge {c = c} absent hopeful large) =
    at (Registers f l c) absent (inr (hopeful, inl (large, refl)))
cases_of f l _ _ (Replies.Registered {c = c} absent hopeful small) =
    at (Registers f l c) absent (inr (hopeful, inr (small, refl)))
cases_of f l _ _ (Replies.TransmitToNone {x = x} {e = e} absent) = at (Transmits f l x e) absent refl
cases_of f l _ _ (Replies.TransmitToEnded {x = x} {e = e} named ended) =
    at (Transmits f l x e) named (inl (ended, refl))
cases_of f l _ _ (Replies.Late {x = x} {e = e} {i = i} {o = c} live late) =
    at (Transmits f l x e) live.0
    (inr (live.1, at (Records f c (length (trace l i)) (trace_with l i e)) late refl))
cases_of f l _ _ (Replies.Unmatched {x = x} {e = e} {i = i} {o = c} live stuck) =
    at (Transmits f l x e) live.0.0
    (inr (live.0.1, at (Records f c (length (trace l i)) (trace_with l i e)) live.1 (inl (stuck, refl))))
cases_of f l _ _ (Replies.TransmitTooLarge {x = x} {e = e} {i = i} {o = c} live goes large) =
    at (Transmits f l x e) live.0.0
    (inr (live.0.1, at (Records f c (length (trace l i)) (trace_with l i e)) live.1 (inr (goes, inl (large, refl)))))
cases_of f l _ _ (Replies.Recorded {x = x} {e = e} {i = i} {o = c} {b = b} live goes small tells) =
    at (Transmits f l x e) live.0.0
    (inr (live.0.1, at (Records f c (length (trace l i)) (trace_with l i e)) live.1 (inr (goes, inr (small, (b, tells, refl))))))
cases_of f l _ _ (Replies.VoidOfNone {x = x} {k = k} absent) = at (Voids f l x k) absent refl
cases_of f l _ _ (Replies.VoidOfEnded {x = x} {k = k} named ended) = at (Voids f l x k) named (inl (ended, refl))
cases_of f l _ _ (Replies.NoEvent {x = x} {k = k} live none) =
    at (Voids f l x k) live.0 (inr (live.1, inl (none, refl)))
cases_of f l _ _ (Replies.VoidTooLarge {x = x} {k = k} live large) =
    at (Voids f l x k) live.0.0 (inr (live.0.1, inr (live.1, inl (large, refl))))
cases_of f l _ _ (Replies.VoidUnmatched {x = x} {k = k} live small stuck) =
    at (Voids f l x k) live.0.0 (inr (live.0.1, inr (live.1, inr (small, inl (stuck, refl)))))
cases_of f l _ _ (Replies.Voided {x = x} {k = k} {b = b} live small goes tells) =
    at (Voids f l x k) live.0.0 (inr (live.0.1, inr (live.1, inr (small, inr (goes, (b, tells, refl))))))
cases_of f l _ _ (Replies.EndOfNone {x = x} absent) = at (Ends f l x) absent refl
cases_of f l _ _ (Replies.AlreadyEnded {x = x} named ended) = at (Ends f l x) named (inl (ended, refl))
cases_of f l _ _ (Replies.NotPerformed {x = x} live fails) =
    at (Ends f l x) live.0 (inr (live.1, inl (fails, refl)))
cases_of f l _ _ (Replies.EndedNow {x = x} live done) = at (Ends f l x) live.0 (inr (live.1, inr (done, refl)))
cases_of f l _ _ (Replies.ShowOfNone {x = x} absent) = at (Shows f l x) absent refl
cases_of f l _ _ (Replies.Shown {x = x} {r = owed} {b = b} named is tells) =
    at (Shows f l x) named (owed, is, (b, tells, refl))
cases_of f l _ _ (Replies.Tallied {a = a} answers) = (a, answers, refl)
cases_of f l _ _ (Replies.PortfolioOfNone {x = x} {args = args} {over = over} absent) =
    at (GivesFolio f l x args over) absent refl
cases_of f l _ _ (Replies.Folio {x = x} {args = args} {over = over} {q = q} {rows = rows} none report are) =
    at (GivesFolio f l x args over) none (q, report, (rows, are, refl))
cases_of f l _ _ Replies.Watching = refl
cases_of f l _ _ (Replies.NoWatch {n = n} none) = at (Reads f l n) none refl
cases_of f l _ _ (Replies.Read {n = n} {a = a} watch answers) = at (Reads f l n) watch (a, answers, refl)

-- ---- each case has one reply

-- the condition decides once
when_one : {P A A' B B' : Type 0} (G : Type 0) → When P A B → When P A' B' → (A → A' → G) → (B → B' → G) → G
when_one G (inl a) (inl b) f g = f a.1 b.1
when_one G (inl a) (inr b) f g = absurd (b.0 a.0)
when_one G (inr a) (inl b) f g = absurd (a.0 b.0)
when_one G (inr a) (inr b) f g = g a.1 b.1

unless_one : {P A A' B B' : Type 0} (G : Type 0) → Unless P A B → Unless P A' B' → (A → A' → G) → (B → B' → G) → G
unless_one G (inl a) (inl b) f g = f a.1 b.1
unless_one G (inl a) (inr b) f g = absurd (a.0 b.0)
unless_one G (inr a) (inl b) f g = absurd (b.0 a.0)
unless_one G (inr a) (inr b) f g = g a.1 b.1

both : {A : Type 0} {x y z : A} → x ≡ z → y ≡ z → x ≡ y
both e k = e ∙ sym k

tells_one : (f : Frame) (b b' : Bool) (o : Contract) (s : List Event) → TellsWhetherPerformed f b o s → TellsWhetherPerformed f b' o s → b ≡ b'
tells_one f b b' o s h k = one_by b b' h k

some_one : {A : Type 0} (x y : A) → Some x ≡ Some y → x ≡ y
some_one x y e = cc

registers_one : (f : Frame) (l : Ledger) (c : Contract) (o : Option (ℕ × Contract)) (r r' : Reply) → Registers f l c o r → Registers f l c o r' → r ≡ r'
registers_one f l c (Some taken) r r' h k = both h k
registers_one f l c None r r' h k = unless_one (r ≡ r') h k both (λ a b. when_one (r ≡ r') a b both both)

records_one : (f : Frame) (o : Contract) (n : ℕ) (s : List Event) (late : Option ℤ) (r r' : Reply) → Records f o n s late r → Records f o n s late r' → r ≡ r'
records_one f o n s (Some late) r r' h k = both h k
records_one f o n s None r r' h k =
    unless_one (r ≡ r') h k both (λ a b. when_one (r ≡ r') a b both
    (λ c d. c.2 ∙ ap (λ t. Reply.Recorded (n + 1) t) (tells_one f c.0 d.0 o s c.1 d.1) ∙ sym d.2))

transmits_one : (f : Frame) (l : Ledger) (x : Name) (e : Event) (o : Option (ℕ × Contract)) (r r' : Reply) → Transmits f l x e o r → Transmits f l x e o r' → r ≡ r'
transmits_one f l x e None r r' h k = both h k
transmits_one f l x e (Some c) r r' h k =
    when_one (r ≡ r') h k both
    (λ a b. records_one f c.1 (length (trace l c.0)) (trace_with l c.0 e) (late_day (trace l c.0) e.day) r r' a b)

leaves_one : (f : Frame) (o : Contract) (s : List Event) (r r' : Reply) → Leaves f o s r → Leaves f o s r' → r ≡ r'
leaves_one f o s r r' h k =
    when_one (r ≡ r') h k both (λ a b. unless_one (r ≡ r') a b both
    (λ c d. c.2 ∙ ap (λ t. Reply.Voided (length s) t) (tells_one f c.0 d.0 o s c.1 d.1) ∙ sym d.2))

voids_one : (f : Frame) (l : Ledger) (x : Name) (n : ℕ) (o : Option (ℕ × Contract)) (r r' : Reply) → Voids f l x n o r → Voids f l x n o r' → r ≡ r'
voids_one f l x n None r r' h k = both h k
voids_one f l x n (Some c) r r' h k =
    when_one (r ≡ r') h k both (λ a b. unless_one (r ≡ r') a b both
    (λ a' b'. leaves_one f c.1 (trace_without l c.0 n) r r' a' b'))

ends_one : (f : Frame) (l : Ledger) (x : Name) (o : Option (ℕ × Contract)) (r r' : Reply) → Ends f l x o r → Ends f l x o r' → r ≡ r'
ends_one f l x None r r' h k = both h k
ends_one f l x (Some c) r r' h k = when_one (r ≡ r') h k both (λ a b. unless_one (r ≡ r') a b both both)

shows_one : (f : Frame) (l : Ledger) (x : Name) (o : Option (ℕ × Contract)) (r r' : Reply) → Shows f l x o r → Shows f l x o r' → r ≡ r'
shows_one f l x None r r' h k = both h k
shows_one f l x (Some c) r r' h k =
    let s = trace l c.0 in
    h.2.2 ∙ ap₂ (λ owed b. Reply.Shown owed (length s) b (is_ended l c.0)) (one_owed f.book c.1 s h.0 k.0 h.1 k.1)
    (tells_one f h.2.0 k.2.0 c.1 s h.2.1 k.2.1) ∙ sym k.2.2

report_one : (reports : List Report) (x : Name) (q q' : Report) → report_in reports x ≡ Some q → report_in reports x ≡ Some q' → q ≡ q'
report_one reports x q q' e e' = some_one q q' (sym e ∙ e')

tallies_one : (f : Frame) (x : Name) (args : List Expression) (s : List Event) (r r' : Reply) → Tallies f x args s r → Tallies f x args s r' → r ≡ r'
tallies_one f x args s r r' h k =
    let q : h.1.0 ≡ k.1.0 = report_one f.reports x h.1.0 k.1.0 h.1.1 k.1.1 in
    let finds : AnswersReport f k.1.0 args s h.0 = subst (λ t. AnswersReport f t args s h.0) q h.1.2 in
    h.2 ∙ ap Reply.Answered (one_answer f.book.declared k.1.0 (argument_values f args) s h.0 k.0 finds k.1.2) ∙ sym k.2

rows_one : (f : Frame) (l : Ledger) (q : Report) (args : List Expression) (over : List Name) (rows rows' : List (Name × Answer)) →
    AreFolioRows f l q args over rows → AreFolioRows f l q args over rows' → rows ≡ rows'
rows_one f l q args [] [] [] h k = refl
rows_one f l q args [] [] (r' ∷ rows') h k = elim k [ ]
rows_one f l q args [] (r ∷ rows) rows' h k = elim h [ ]
rows_one f l q args (x ∷ over) [] rows' h k = elim h [ ]
rows_one f l q args (x ∷ over) (r ∷ rows) [] h k = elim k [ ]
rows_one f l q args (x ∷ over) (r ∷ rows) (r' ∷ rows') h k =
    let found : r.1 ≡ r'.1 = one_answer f.book.declared q (argument_values f args) (trace l (number_of l x)) r.1 r'.1 h.0.1 k.0.1 in
    let first : r ≡ r' = ap₂ (λ a b. (a, b)) (both h.0.0 k.0.0) found in
    ap₂ (λ a b. a ∷ b) first (rows_one f l q args over rows rows' h.1 k.1)

folio_one : (f : Frame) (l : Ledger) (x : Name) (args : List Expression) (over : List Name) (absent : Option Name) (r r' : Reply) →
    GivesFolio f l x args over absent r → GivesFolio f l x args over absent r' → r ≡ r'
folio_one f l x args over (Some absent) r r' h k = both h k
folio_one f l x args over None r r' h k =
    let q : h.0 ≡ k.0 = report_one f.reports x h.0 k.0 h.1 k.1 in
    let given : AreFolioRows f l k.0 args over h.2.0 = subst (λ t. AreFolioRows f l t args over h.2.0) q h.2.1 in
    let rows : h.2.0 ≡ k.2.0 = rows_one f l k.0 args over h.2.0 k.2.0 given k.2.1 in
    h.2.2 ∙ ap₂ (λ t rs. Reply.Folio rs (total_of t rs)) q rows ∙ sym k.2.2

reads_one : (f : Frame) (l : Ledger) (n : ℕ) (watch : Option (Name × List Expression)) (r r' : Reply) → Reads f l n watch r → Reads f l n watch r' → r ≡ r'
reads_one f l n None r r' h k = both h k
reads_one f l n (Some watch) r r' h k = tallies_one f watch.0 watch.1 (events l) r r' h k

cases_one : (f : Frame) (l : Ledger) (command : Command) (r r' : Reply) → ByCases f l command r → ByCases f l command r' → r ≡ r'
cases_one f l (Command.Register x c) r r' h k = registers_one f l c (contract_named l x) r r' h k
cases_one f l (Command.Transmit x e) r r' h k = transmits_one f l x e (contract_named l x) r r' h k
cases_one f l (Command.Void x n) r r' h k = voids_one f l x n (contract_named l x) r r' h k
cases_one f l (Command.End x) r r' h k = ends_one f l x (contract_named l x) r r' h k
cases_one f l (Command.Show x) r r' h k = shows_one f l x (contract_named l x) r r' h k
cases_one f l (Command.Tally x args) r r' h k = tallies_one f x args (events l) r r' h k
cases_one f l (Command.Portfolio x args over) r r' h k = folio_one f l x args over (first_absent l over) r r' h k
cases_one f l (Command.Watch x args) r r' h k = both h k
cases_one f l (Command.Read n) r r' h k = reads_one f l n (watch_at l n) r r' h k

pub one_reply : OneReply
one_reply f l command r r' h k = cases_one f l command r r' (cases_of f l command r h) (cases_of f l command r' k)
