-- The histories of journals can be exported.
use Rattle.std.proofs.Common.{◌^◌, ◌<◌, List, [], ◌∷◌, All, sym, subst}
use Rattle.std.proofs.lemmas.List.Elements.{All-nil, All-cons, All-head, All-tail, All-weaker}
use Rattle.poets_syntax.specs.Plain.{Book}
use Rattle.poets_report.specs.Plain as plain
use Rattle.poets_lex.specs.Table.{Table}
use Rattle.poets_command.specs.Calls.{Call, calls_of}
use Rattle.poets_command.specs.Declarations.{book_from, reports_of}
use Rattle.poets_command.specs.Plain.{Entry}
use Rattle.poets_command.specs.Said.{Statement, Numbered}
use Rattle.poets_command.specs.Taken.{IsTaken}
use Rattle.poets_print.specs.Laws.{CanWriteCommand}
use Rattle.poets_session.specs.Sessions.{journal_of}
use Rattle.poets_session.specs.Written.{IsWrittenCommand}
use Rattle.poets_session.specs.code.Scripts.{HasShortNumber}
use Rattle.poets_session.proofs.LawsFitting.{journal_written, read_written}
use Rattle.poets_session.proofs.Scripting.{numbers_fit}
use Rattle.poets_making.proofs.Taking.{All-of_map, journal_taken}
use Rattle.poets_json.specs.Plain.{Exported}
use Rattle.poets_import.specs.Reading.{Declare}
use Rattle.poets_exchange.specs.Exportable.{book_in}
use Rattle.poets_exchange.specs.Laws.{JournalsCanBeExported}
use Rattle.poets_exchange.proofs.Lists.{both_hold}
use Rattle.poets_exchange.proofs.SessionBooks.{same_book}

-- the number of the call's clerk has 32 bits
abbrev IsShortCall : Call → Type 0
IsShortCall call = call.0 < 2 ^ 32

journal_short : (ss : List Statement) → All HasShortNumber ss → All IsShortCall (journal_of ss)
journal_short [] h = All-nil IsShortCall
journal_short (Numbered clerk command ∷ ss) h =
    All-cons IsShortCall (clerk, command) (journal_of ss) (All-head HasShortNumber (Numbered clerk command) ss h)
    (journal_short ss (All-tail HasShortNumber (Numbered clerk command) ss h))
journal_short (s ∷ ss) h = journal_short ss (All-tail HasShortNumber s ss h)

-- an engine of the book and the reports takes the call's command
abbrev IsTakenCall : Book → List plain.Report → Call → Type 0
IsTakenCall book reports call = IsTaken book reports call.1

-- what a session declares is the book of x, so an engine of that book takes the calls
taken_in_book :
    (statements : List Statement) (x : Exported) (calls : List Call) → Declare statements x →
    All (IsTakenCall (book_from statements) (reports_of statements)) calls →
    All (IsTakenCall (book_in x) x.reports) calls
taken_in_book statements x calls declare taken =
    subst (λ (book : Book). All (IsTakenCall book x.reports) calls) (same_book statements x declare)
    (subst (λ (qs : List plain.Report). All (IsTakenCall (book_from statements) qs) calls) declare.reports taken)

module _ (names : Table) (x : Exported) where
  abbrev IsWrittenCall : Call → Type 0
  IsWrittenCall call = IsWrittenCommand names call.1

  abbrev IsKnownCall : Call → Type 0
  IsKnownCall call = IsTakenCall (book_in x) x.reports call × IsWrittenCall call

  -- what is known of the calls of entries is known of the entries
  entries_known :
      (es : List Entry) → All IsKnownCall (calls_of es) →
      All (λ e. IsTaken (book_in x) x.reports e.command × CanWriteCommand names e.command) es
  entries_known es h =
      All-weaker (λ e. IsKnownCall (e.clerk, e.command))
      (λ e. IsTaken (book_in x) x.reports e.command × CanWriteCommand names e.command) (λ e k. (k.0, k.1.0)) es
      (All-of_map IsKnownCall (λ e. (e.clerk, e.command)) es h)

pub journals_can_be_exported : JournalsCanBeExported
journals_can_be_exported text form names statements x session declare legal calls =
    let journal = journal_of statements in
    let written = journal_written names statements (read_written text names statements session.read) in
    let typed = journal_taken names statements session.valid.typed written in
    let taken = taken_in_book statements x journal declare typed in
    let known = both_hold (IsTakenCall (book_in x) x.reports) (IsWrittenCall names x) journal taken written in
    let short = journal_short statements (numbers_fit form statements session.valid.placed) in
    record {
      legal = legal;
      commands = entries_known names x x.history (subst (All (IsKnownCall names x)) (sym calls) known);
      clerks = All-of_map IsShortCall (λ e. (e.clerk, e.command)) x.history (subst (All IsShortCall) (sym calls) short);
    }
