-- Histories of a book and its reports.
use Rattle.std.specs.Prelude.{◌≡◌, ℕ, List, [], ◌++◌, Some, All, ⊤, ◌↔◌}
use Rattle.poets_value.specs.declared.event.Event.{Event}
use Rattle.poets_syntax.specs.Plain.{Book}
use Rattle.poets_syntax.specs.Contract.{Contract}
use Rattle.poets_meaning.specs.Perf.{Perf}
use Rattle.poets_report.specs.Plain.{Report}
use Rattle.poets_command.specs.Plain.{Command, Reply, Entry}
use Rattle.poets_command.specs.Calls.{Call}
use Rattle.poets_history.specs.Ledger.{Ledger, ledger_of, contract_named, trace}
use Rattle.poets_history.specs.Frame.{frame_of}
use Rattle.poets_history.specs.Gathered.{with_before}
use Rattle.poets_history.specs.Replies.{Replies, Legal, Answers}

-- the history is legal: each entry has the reply that follows from the book, the reports and the
-- entries before it
abbrev pub IsLegal : Book → List Report → List Entry → Type 0
IsLegal book reports h = Legal (frame_of book reports) h

-- this is the reply to the command after the history of a ledger
abbrev pub RepliesIn : Book → List Report → Ledger → Command → Reply → Type 0
RepliesIn book reports l command reply = Replies (frame_of book reports) l command reply

-- after those calls this is the reply to the command
abbrev pub AnswersIn : Book → List Report → List Call → Command → Reply → Type 0
AnswersIn book reports calls command reply = Answers (frame_of book reports) calls command reply

-- where a residual is shown of a contract of the ledger, exactly the completions of its recorded
-- trace perform it
abbrev pub ShowsWhatIsOwed : Book → Ledger → Command → Reply → Type 0
ShowsWhatIsOwed book l (Command.Show x) (Reply.Shown residual count may_end ended) =
    (number : ℕ) (original : Contract) → contract_named l x ≡ Some (number, original) →
    (s : List Event) → Perf book [] residual s ↔ Perf book [] original (trace l number ++ s)
ShowsWhatIsOwed book l _ _ = ⊤

-- each entry that shows a residual shows what is owed after the entries before it
abbrev pub ShowsCompletions : Book → List Entry → Type 0
ShowsCompletions book h = All (λ p. ShowsWhatIsOwed book (ledger_of p.0) p.1.command p.1.reply) (with_before h)

-- each reply is right, and each residual that is shown means what is still owed
pub record IsRightHistory (book : Book) (reports : List Report) (h : List Entry) : Type 0 where
  pub legal : IsLegal book reports h
  pub shows : ShowsCompletions book h
