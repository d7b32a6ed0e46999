use Rattle.std.proofs.Common.{refl, sym, ◌∙◌, ap, subst}
use Rattle.std.specs.Prelude.{string_bytes}
use Rattle.poets_command.specs.Calls.{history_of}
use Rattle.poets_session.specs.Sessions.{calls_in, journal_of}
use Rattle.poets_session.proofs.LawsFitting.{read_written, journal_written}
use Rattle.poets_top.specs.Exporting.{IsDocumentLine}
use Rattle.poets_top.specs.Runs.{IsAnswerTo}
use Rattle.poets_making.specs.Noted.{AreTaken}
use Rattle.poets_words.specs.declared.mode.Task.TheVariants as T
use Rattle.poets_writing.proofs.Written.{IsWritten-nothing, IsWritten-outcome}
use Rattle.poets_top.proofs.Owning.{IsReplayOf-made}
use Rattle.poets_top.proofs.Exported.{document_of_session}
use Rattle.poets_making.proofs.Taking.{journal_taken, AreTaken-code, whole_rules}
use Rattle.poets_top.proofs.exporting.export.Goals as goal

pub make_calls-requires-clause-whole : goal.make_calls-requires-clause-whole
make_calls-requires-clause-whole g c = λ _ _.
    let session = c.requires.1.1 in
    let written = read_written c.requires.0 c.args.session.names c.requires.1.0 session.is.read in
    whole_rules c.args.session.rules c.args.session.names c.requires.1.0 session.holds.book written

pub make_calls-requires-clause-taken : goal.make_calls-requires-clause-taken
make_calls-requires-clause-taken g c = λ _ _.
    let statements = c.requires.1.0 in
    let session = c.requires.1.1 in
    let written = read_written c.requires.0 c.args.session.names statements session.is.read in
    let commands = journal_written c.args.session.names statements written in
    subst (AreTaken c.args.session.rules) (sym c.as_slice.ensures)
    (AreTaken-code c.args.session.rules statements c.args.session.journal.items (journal_of statements) session.holds.book session.holds.reports session.holds.journal
    (journal_taken c.args.session.names statements session.is.valid.typed commands))

pub returns-in_default : goal.returns-in_default
returns-in_default g c = λ text statements session.
    IsWritten-nothing (IsAnswerTo text T.Export) _ _ c.without_history.result.status _ refl c.without_history.ensures.status (ap history_of c.without_history.ensures.history)

pub returns-in-Ok-document_line : goal.returns-in-Ok-document_line
returns-in-Ok-document_line g c = λ text statements session.
    let rules = c.args.session.rules in
    let names = c.args.session.names in
    let h = history_of c.in-Ok.history.items in
    let calls = c.in-Ok.ensures.calls ∙ ap calls_in c.as_slice.ensures ∙ session.holds.journal in
    let document = document_of_session rules c.in-Ok.engine.rules statements names h (string_bytes c.in-Ok-document_line.line) c.in-Ok.ensures.rules session.holds.book session.holds.reports
    c.in-Ok-document_line.ensures in
    IsWritten-outcome (IsAnswerTo text T.Export) _ _ 0 c.write_outcome.result.status _ h c.as_str.result.now (ap (λ l. history_of l.items) c.write_outcome.ensures.history)
    (subst (IsAnswerTo text T.Export 0 h) (sym c.as_str.ensures.value) (IsAnswerTo.Made session.is (record {
      history = IsReplayOf-made rules statements h session.holds.book session.holds.reports c.in-Ok.ensures.right calls;
      document = document;
    })))
    c.write_outcome.ensures.line

pub returns : goal.returns
returns g c = λ text statements session.
    IsWritten-nothing (IsAnswerTo text T.Export) _ _ c.without_history-in-Err.result.status _ refl c.without_history-in-Err.ensures.status
    (ap history_of c.without_history-in-Err.ensures.history)
