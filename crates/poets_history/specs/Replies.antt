-- The reply to a command after a history.
use Rattle.std.specs.Prelude.{◌≡◌, ℕ, ◌+◌, ◌-◌, ◌≤◌, ℤ, Bool, IsTrue, ◌↔◌, Option, Some, None}
use Rattle.std.specs.Prelude.{List, [], ◌∷◌, ◌++◌, map, length, remove, take}
use Rattle.std.specs.List.{AllZip}
use Rattle.poets_value.specs.declared.value.Name.{Name}
use Rattle.poets_value.specs.declared.event.Event.{Event}
use Rattle.poets_value.specs.declared.value.Value.{Value}
use Rattle.poets_expr.specs.Expression.{Expression}
use Rattle.poets_expr.specs.Val.{val}
use Rattle.poets_syntax.specs.Contract.{Contract}
use Rattle.poets_meaning.specs.Perf.{Perf}
use Rattle.poets_meaning.specs.May.{May}
use Rattle.poets_meaning.specs.Marks.{Hopeful}
use Rattle.poets_report.specs.Plain.{Report, Answer}
use Rattle.poets_report.specs.Answers.{IsAnswer}
use Rattle.poets_command.specs.Plain.{Command, Reply, Entry}
use Rattle.poets_command.specs.Calls.{Call, calls_of}
use Rattle.poets_command.specs.Reports.{report_in}
use Rattle.poets_command.specs.Totals.{total_of}
use Rattle.poets_history.specs.Ledger.{Ledger, ledger_of, contract_named, number_of, trace, events}
use Rattle.poets_history.specs.Ledger.{is_ended, late_day}
use Rattle.poets_history.specs.Ledger.{first_absent, watch_at}
use Rattle.poets_history.specs.Frame.{Frame}
use Rattle.poets_history.specs.Owed.{Owed, IsPastLimit}

-- what is owed after the trace is past the limit
abbrev pub IsTooLarge : Frame → Contract → List Event → Type 0
IsTooLarge f o s = (r : Contract) × Owed f.book o s r × IsPastLimit f.book r

-- some number of granted steps after the trace performs it
abbrev pub CanGoOn : Frame → Contract → List Event → Type 0
CanGoOn f o s = (n : ℕ) × May f.book [] o s n

-- the truth value tells whether the trace performs the contract
abbrev pub TellsWhetherPerformed : Frame → Bool → Contract → List Event → Type 0
TellsWhetherPerformed f b o s = IsTrue b ↔ Perf f.book [] o s

-- the values of a report's arguments, each of which may be undefined
abbrev pub argument_values : Frame → List Expression → List (Option Value)
argument_values f args = map (val f.book.declared []) args

-- this is the report's answer over the events
abbrev pub AnswersReport : Frame → Report → List Expression → List Event → Answer → Type 0
AnswersReport f q args s a = IsAnswer f.book.declared q (argument_values f args) s a

-- a row for each listed name, in order: the report's answer over the contract's events
abbrev pub AreFolioRows : Frame → Ledger → Report → List Expression → List Name → List (Name × Answer) → Type 0
AreFolioRows f ledger q args over rows =
    AllZip (λ x row. (row.0 ≡ x) × AnswersReport f q args (trace ledger (number_of ledger x)) row.1) over rows

-- no contract has the name
abbrev pub IsAbsent : Ledger → Name → Type 0
IsAbsent l x = contract_named l x ≡ None

-- the contract with the name has this number and this original
abbrev pub IsNamed : Ledger → Name → ℕ → Contract → Type 0
IsNamed l x i o = contract_named l x ≡ Some (i, o)

-- the contract with the number was ended
abbrev pub WasEnded : Ledger → ℕ → Type 0
WasEnded l i = IsTrue (is_ended l i)

-- the contract with the name has this number and this original, and was not ended
abbrev pub IsOpen : Ledger → Name → ℕ → Contract → Type 0
IsOpen l x i o = IsNamed l x i o × (WasEnded l i → ⊥)

-- the contract is open, and the event's day is not before the last of its trace
abbrev pub IsOpenTo : Event → Ledger → Name → ℕ → Contract → Type 0
IsOpenTo e l x i o = IsOpen l x i o × (late_day (trace l i) e.day ≡ None)

-- the trace of the contract with the number, and then the event
abbrev pub trace_with : Ledger → ℕ → Event → List Event
trace_with l i e = trace l i ++ e ∷ []

-- the trace has an event at the place, from 1
abbrev pub HasPlace : List Event → (place : ℕ) → Type 0
HasPlace s k = (1 ≤ k) × (k ≤ length s)

-- the contract with the name has this number and this original, was not ended, and its trace has
-- that place
abbrev pub IsOpenAt : (place : ℕ) → Ledger → Name → ℕ → Contract → Type 0
IsOpenAt k l x i o = IsOpen l x i o × HasPlace (trace l i) k

-- the trace of the contract with the number, without the event at the place, from 1
abbrev pub trace_without : Ledger → ℕ → (place : ℕ) → List Event
trace_without l i k = remove (trace l i) (k - 1)

-- what is owed after some of the first events of the trace is past the limit
abbrev pub GrowsTooLarge : Frame → Contract → List Event → Type 0
GrowsTooLarge f o s = (n : ℕ) × IsTooLarge f o (take n s)

-- this is the answer over the events of the report with the name
abbrev pub ReportAnswers : Frame → Name → List Expression → List Event → Answer → Type 0
ReportAnswers f x args s a = (q : Report) × (report_in f.reports x ≡ Some q) × AnswersReport f q args s a

-- the reply to a command after the history of a ledger: a rule for each row of the table of replies
pub data Replies (f : Frame) (l : Ledger) : Command → Reply → Type 0 where
  -- register
  NameTaken :
      {x : Name} {c o : Contract} {i : ℕ} → IsNamed l x i o →
      Replies f l (Command.Register x c) (Reply.NameTaken i)
  Hopeless :
      {x : Name} {c : Contract} → IsAbsent l x → (Hopeful f.book c → ⊥) →
      Replies f l (Command.Register x c) Reply.Hopeless
  RegisterTooLarge :
      {x : Name} {c : Contract} → IsAbsent l x → Hopeful f.book c → IsTooLarge f c [] →
      Replies f l (Command.Register x c) Reply.TooLarge
  Registered :
      {x : Name} {c : Contract} → IsAbsent l x → Hopeful f.book c → (IsTooLarge f c [] → ⊥) →
      Replies f l (Command.Register x c) (Reply.Registered (length l.contracts + 1))
  -- transmit
  TransmitToNone :
      {x : Name} {e : Event} → IsAbsent l x →
      Replies f l (Command.Transmit x e) (Reply.NoContract x)
  TransmitToEnded :
      {x : Name} {e : Event} {i : ℕ} {o : Contract} → IsNamed l x i o → WasEnded l i →
      Replies f l (Command.Transmit x e) Reply.Ended
  Late :
      {x : Name} {e : Event} {i : ℕ} {o : Contract} {last : ℤ} → IsOpen l x i o →
      late_day (trace l i) e.day ≡ Some last →
      Replies f l (Command.Transmit x e) (Reply.Late last)
  Unmatched :
      {x : Name} {e : Event} {i : ℕ} {o : Contract} → IsOpenTo e l x i o →
      (CanGoOn f o (trace_with l i e) → ⊥) →
      Replies f l (Command.Transmit x e) Reply.Unmatched
  TransmitTooLarge :
      {x : Name} {e : Event} {i : ℕ} {o : Contract} → IsOpenTo e l x i o → CanGoOn f o (trace_with l i e) →
      IsTooLarge f o (trace_with l i e) →
      Replies f l (Command.Transmit x e) Reply.TooLarge
  Recorded :
      {x : Name} {e : Event} {i : ℕ} {o : Contract} {b : Bool} → IsOpenTo e l x i o →
      CanGoOn f o (trace_with l i e) →
      (IsTooLarge f o (trace_with l i e) → ⊥) →
      TellsWhetherPerformed f b o (trace_with l i e) →
      Replies f l (Command.Transmit x e) (Reply.Recorded (length (trace l i) + 1) b)
  -- void
  VoidOfNone :
      {x : Name} {k : ℕ} → IsAbsent l x →
      Replies f l (Command.Void x k) (Reply.NoContract x)
  VoidOfEnded :
      {x : Name} {k i : ℕ} {o : Contract} → IsNamed l x i o → WasEnded l i →
      Replies f l (Command.Void x k) Reply.Ended
  NoEvent :
      {x : Name} {k i : ℕ} {o : Contract} → IsOpen l x i o → (HasPlace (trace l i) k → ⊥) →
      Replies f l (Command.Void x k) (Reply.NoEvent k)
  VoidTooLarge :
      {x : Name} {k i : ℕ} {o : Contract} → IsOpenAt k l x i o → GrowsTooLarge f o (trace_without l i k) →
      Replies f l (Command.Void x k) Reply.TooLarge
  VoidUnmatched :
      {x : Name} {k i : ℕ} {o : Contract} → IsOpenAt k l x i o → (GrowsTooLarge f o (trace_without l i k) → ⊥) →
      (CanGoOn f o (trace_without l i k) → ⊥) →
      Replies f l (Command.Void x k) Reply.Unmatched
  Voided :
      {x : Name} {k i : ℕ} {o : Contract} {b : Bool} → IsOpenAt k l x i o →
      (GrowsTooLarge f o (trace_without l i k) → ⊥) → CanGoOn f o (trace_without l i k) →
      TellsWhetherPerformed f b o (trace_without l i k) →
      Replies f l (Command.Void x k) (Reply.Voided (length (trace_without l i k)) b)
  -- end
  EndOfNone :
      {x : Name} → IsAbsent l x →
      Replies f l (Command.End x) (Reply.NoContract x)
  AlreadyEnded :
      {x : Name} {i : ℕ} {o : Contract} → IsNamed l x i o → WasEnded l i →
      Replies f l (Command.End x) Reply.AlreadyEnded
  NotPerformed :
      {x : Name} {i : ℕ} {o : Contract} → IsOpen l x i o → (Perf f.book [] o (trace l i) → ⊥) →
      Replies f l (Command.End x) Reply.NotPerformed
  EndedNow :
      {x : Name} {i : ℕ} {o : Contract} → IsOpen l x i o → Perf f.book [] o (trace l i) →
      Replies f l (Command.End x) Reply.EndedNow
  -- show
  ShowOfNone :
      {x : Name} → IsAbsent l x →
      Replies f l (Command.Show x) (Reply.NoContract x)
  Shown :
      {x : Name} {i : ℕ} {o r : Contract} {b : Bool} → IsNamed l x i o → Owed f.book o (trace l i) r →
      TellsWhetherPerformed f b o (trace l i) →
      Replies f l (Command.Show x) (Reply.Shown r (length (trace l i)) b (is_ended l i))
  -- tally
  Tallied :
      {x : Name} {args : List Expression} {a : Answer} → ReportAnswers f x args (events l) a →
      Replies f l (Command.Tally x args) (Reply.Answered a)
  -- portfolio
  PortfolioOfNone :
      {x absent : Name} {args : List Expression} {over : List Name} → first_absent l over ≡ Some absent →
      Replies f l (Command.Portfolio x args over) (Reply.NoContract absent)
  Folio :
      {x : Name} {args : List Expression} {over : List Name} {q : Report} {rows : List (Name × Answer)} →
      first_absent l over ≡ None → report_in f.reports x ≡ Some q → AreFolioRows f l q args over rows →
      Replies f l (Command.Portfolio x args over) (Reply.Folio rows (total_of q rows))
  -- watch
  Watching :
      {x : Name} {args : List Expression} →
      Replies f l (Command.Watch x args) (Reply.Watching (length l.watches + 1))
  -- read
  NoWatch :
      {n : ℕ} → watch_at l n ≡ None →
      Replies f l (Command.Read n) (Reply.NoWatch n)
  Read :
      {n : ℕ} {x : Name} {args : List Expression} {a : Answer} → watch_at l n ≡ Some (x, args) →
      ReportAnswers f x args (events l) a →
      Replies f l (Command.Read n) (Reply.Answered a)

-- each entry has the reply after the entries before it
pub data Legal (f : Frame) : List Entry → Type 0 where
  Empty : Legal f []
  More : {h : List Entry} (e : Entry) → Legal f h → Replies f (ledger_of h) e.command e.reply → Legal f (h ++ e ∷ [])

-- after those calls this is the reply to the command: it is the one after the legal history of
-- these calls
pub record Answers (f : Frame) (calls : List Call) (command : Command) (r : Reply) : Type 0 where
  pub history : List Entry
  pub legal : Legal f history
  pub same : calls_of history ≡ calls
  pub reply : Replies f (ledger_of history) command r
