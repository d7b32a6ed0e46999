-- The words `explain NAME`.
use Rattle.std.specs.Prelude.{◌≡◌, ℕ, Bool, List, [], ◌∷◌, ◌++◌, length, codes, Option, Some}
use Rattle.std.specs.Fmt.{decimal}
use Rattle.std.specs.Io.KnownBytes.{Appends}
use Rattle.std.specs.List.{flat_map}
use Rattle.poets_value.specs.declared.value.Name.{Name}
use Rattle.poets_value.specs.declared.event.Event.{Event}
use Rattle.poets_io.specs.Streams.{GivesAll}
use Rattle.poets_lex.specs.Table.{Table, place_of}
use Rattle.poets_syntax.specs.Contract.{Contract}
use Rattle.poets_syntax.specs.Plain.{Book}
use Rattle.poets_meaning.specs.Perf.{Perf}
use Rattle.poets_way.specs.Texts.{way_text}
use Rattle.poets_way.specs.Way.{Way}
use Rattle.poets_way.specs.Ways.{Ways}
use Rattle.poets_open.specs.Next.{Step, next}
use Rattle.poets_command.specs.Declarations.{book_from, reports_of}
use Rattle.poets_command.specs.Plain.{Entry}
use Rattle.poets_command.specs.Said.{Statement}
use Rattle.poets_history.specs.Frame.{Frame, frame_of}
use Rattle.poets_history.specs.Ledger.{Ledger, ledger_of, trace}
use Rattle.poets_history.specs.Owed.{Owed, WithRightMarks}
use Rattle.poets_history.specs.Replies.{IsNamed, TellsWhetherPerformed}
use Rattle.poets_print.specs.Lines.{yes_text}
use Rattle.poets_print.specs.Texts.{step_text}
use Rattle.poets_session.specs.declared.form.Form.TheVariants as F
use Rattle.poets_session.specs.Sessions.{Text, IsSession}
use Rattle.poets_top.specs.Replaying.{IsReplayOf}

-- `no contract c`, and LF (10)
abbrev pub absent_line : (name : List ℕ) → List ℕ
absent_line name = codes "no contract " ++ name ++ 10 ∷ []

-- `contract c: events 2, may end yes`, and LF
abbrev pub contract_line : (name : List ℕ) → (events : ℕ) → (may_end : Bool) → List ℕ
contract_line name events may_end =
    codes "contract " ++ name ++ codes ": events " ++ decimal events
    ++ codes ", may end " ++ yes_text may_end ++ 10 ∷ []

-- `next transmit(a, b, r, t | kind(r) = Oil)`, and LF
abbrev pub next_line : Table → Step → List ℕ
next_line names step = codes "next " ++ step_text names step.binders step.when ++ 10 ∷ []

-- a line for each open transmission
abbrev pub next_lines : Table → List Step → List ℕ
next_lines names steps = flat_map (next_line names) steps

-- `way left take done`, and LF
abbrev pub way_line : Way → List ℕ
way_line way = codes "way " ++ way_text way ++ 10 ∷ []

-- `way none`, and LF
abbrev pub no_way_line : List ℕ
no_way_line = codes "way none" ++ 10 ∷ []

-- the line gives a way in which the trace performs the contract, or says that the trace does not
-- perform it
pub data TellsWay (book : Book) (o : Contract) (s : List Event) : (line : List ℕ) → Type 0 where
  Performed : {way : Way} → Ways book [] o s way → TellsWay book o s (way_line way)
  NotPerformed : (Perf book [] o s → ⊥) → TellsWay book o s no_way_line

-- the contract whose name is this text has this number and this original
abbrev pub IsCalled : Table → Ledger → (name : List ℕ) → (number : ℕ) → (original : Contract) → Type 0
IsCalled names l name i o = (x : Name) × (place_of name names ≡ Some x.id) × IsNamed l x i o

-- these are the open transmissions of the contract
abbrev pub AreNext : Book → Contract → List Step → Type 0
AreNext book c steps = WithRightMarks book (λ marks. next book marks c ≡ steps)

-- by the ledger this text explains the contract with a name: how many events its trace has, whether
-- the trace performs it, the open transmissions of what is owed, and a way in which the trace
-- performs it
pub data Explains (f : Frame) (names : Table) (l : Ledger) (name : List ℕ) : (text : List ℕ) → Type 0 where
  OfNone :
      ((i : ℕ) (o : Contract) → IsCalled names l name i o → ⊥) →
      Explains f names l name (absent_line name)
  OfContract :
      {i : ℕ} {o residual : Contract} {may_end : Bool} {steps : List Step} {way : List ℕ} →
      IsCalled names l name i o → TellsWhetherPerformed f may_end o (trace l i) →
      Owed f.book o (trace l i) residual → AreNext f.book residual steps → TellsWay f.book o (trace l i) way →
      Explains f names l name
      (contract_line name (length (trace l i)) may_end ++ next_lines names steps ++ way)

-- after a history of the session this text explains the contract with a name
abbrev pub IsExplanation : (name : List ℕ) → Table → List Statement → List Entry → (text : List ℕ) → Type 0
IsExplanation name names statements h text =
    Explains (frame_of (book_from statements) (reports_of statements)) names (ledger_of h) name text

-- the history is that of the journal's calls, and after it the text explains the contract with a
-- name
pub record ExplainsJournal (name : List ℕ) (names : Table) (statements : List Statement) (h : List Entry)
    (text : List ℕ) : Type 0 where
  pub history : IsReplayOf statements h
  pub explains : IsExplanation name names statements h text

-- a journal was replayed, and the contract with a name explained: what the source had left before
-- and after, what the sink held before and after, and the history
pub record HasExplained (name : List ℕ) (left left' held held' : Option (List ℕ)) (h : List Entry) : Type 0 where
  -- the source was read to its end, and its bytes are the text of a session with a journal; where
  -- it does not tell its bytes, there is such a text
  pub text : Text
  pub given : GivesAll left left' text
  pub names : Table
  pub statements : List Statement
  pub session : IsSession text F.Journal names statements
  -- the history is right, and has the journal's calls
  pub history : IsReplayOf statements h
  -- the sink got the explanation, where it tells what it holds
  pub explanation : List ℕ
  pub explains : IsExplanation name names statements h explanation
  pub written : Appends held held' explanation
