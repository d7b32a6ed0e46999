-- The laws of what is owed, of replies and of histories, as statements.
use Rattle.std.specs.Prelude.{◌≡◌, ◌↔◌, List, false, IsTrue}
use Rattle.poets_value.specs.declared.event.Event.{Event}
use Rattle.poets_syntax.specs.Contract.{Contract}
use Rattle.poets_syntax.specs.Plain.{Book}
use Rattle.poets_meaning.specs.Marks.{Marks, AreRight}
use Rattle.poets_meaning.specs.Spread.{is_past_limit}
use Rattle.poets_calculus.specs.Residual.{residual_after}
use Rattle.poets_command.specs.Plain.{Command, Reply, Entry}
use Rattle.poets_command.specs.Calls.{Call, calls_of}
use Rattle.poets_history.specs.Ledger.{Ledger, is_accepted, with_entry}
use Rattle.poets_history.specs.Frame.{Frame}
use Rattle.poets_history.specs.Owed.{Owed, IsPastLimit}
use Rattle.poets_history.specs.Replies.{Replies, Legal, Answers}

-- a command has at most one reply
abbrev pub OneReply : Type 0
OneReply = (f : Frame) (ledger : Ledger) (command : Command) (r r' : Reply) →
    Replies f ledger command r → Replies f ledger command r' → r ≡ r'

-- only an accepted command changes the ledger
abbrev pub OnlyAcceptedChange : Type 0
OnlyAcceptedChange = (ledger : Ledger) (command : Command) (r : Reply) →
    is_accepted r ≡ false → with_entry ledger command r ≡ ledger

-- legal histories of the same calls are one
abbrev pub OneHistory : Type 0
OneHistory = (f : Frame) (h h' : List Entry) → Legal f h → Legal f h' → calls_of h ≡ calls_of h' → h ≡ h'

-- after given calls a command has at most one reply
abbrev pub OneAnswer : Type 0
OneAnswer = (f : Frame) (calls : List Call) (command : Command) (r r' : Reply) →
    Answers f calls command r → Answers f calls command r' → r ≡ r'

-- of each book one choice of marks is right
abbrev pub OneMarks : Type 0
OneMarks = (book : Book) (marks marks' : Marks) → AreRight book marks → AreRight book marks' → marks ≡ marks'

-- after a trace one contract is owed at most
abbrev pub OneOwed : Type 0
OneOwed = (book : Book) (o : Contract) (s : List Event) (r r' : Contract) →
    Owed book o s r → Owed book o s r' → r ≡ r'

-- with right marks exactly the residual by the trace is owed
abbrev pub OwedIsResidual : Type 0
OwedIsResidual = (book : Book) (marks : Marks) (o : Contract) (s : List Event) (r : Contract) →
    AreRight book marks → Owed book o s r ↔ (residual_after book marks o s ≡ r)

-- with right marks exactly the contracts that `is_past_limit` finds are past the limit
abbrev pub PastLimitIs : Type 0
PastLimitIs = (book : Book) (marks : Marks) (c : Contract) →
    AreRight book marks → IsPastLimit book c ↔ IsTrue (is_past_limit book marks c)
