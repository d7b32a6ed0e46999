-- The same calls have one history, and where bytes are told there is one text of it.
use Rattle.std.proofs.Common.{◌≡◌, ℕ, List, [], ◌∷◌, ◌++◌, sym, ◌∙◌, ap, ap₂, subst}
use Rattle.std.specs.Prelude.{Option, Some, None}
use Rattle.std.specs.Io.KnownBytes.{Appends}
use Rattle.poets_io.specs.Streams.{GivesAll}
use Rattle.poets_lex.specs.Table.{Table}
use Rattle.poets_syntax.specs.Plain.{Book}
use Rattle.poets_report.specs.Plain.{Report}
use Rattle.poets_command.specs.Plain.{Entry}
use Rattle.poets_command.specs.Calls.{calls_of}
use Rattle.poets_command.specs.Declarations.{book_from, reports_of}
use Rattle.poets_command.specs.Said.{Statement}
use Rattle.poets_history.specs.Frame.{frame_of}
use Rattle.poets_history.specs.Histories.{IsRightHistory}
use Rattle.poets_history.proofs.Histories.{one_history}
use Rattle.poets_print.specs.Lines.{history_text}
use Rattle.poets_session.specs.Sessions.{Text, IsSession, IsReadAs}
use Rattle.poets_session.specs.declared.form.Form.{Form}
use Rattle.poets_session.proofs.LawsSaid.{read_once}
use Rattle.poets_top.specs.Laws.{OneRun, OneReplay, OneReplayed, RunsAreReplayed}
use Rattle.poets_top.specs.Running.{IsHistoryOf}
use Rattle.poets_top.specs.Replaying.{IsReplayOf}
use Rattle.poets_top.proofs.Owning.{one_clerk}

-- ---- histories

-- right histories of the same calls are one
right_once : (b : Book) (reports : List Report) (h h' : List Entry) → IsRightHistory b reports h → IsRightHistory b reports h' → calls_of h ≡ calls_of h' → h ≡ h'
right_once b reports h h' p q calls = one_history (frame_of b reports) h h' p.legal q.legal calls

-- a journal has one history at most
pub one_replay : OneReplay
one_replay statements h h' p q = right_once (book_from statements) (reports_of statements) h h' p.right q.right (p.calls ∙ sym q.calls)

-- the journal of the calls of clerks has their history
pub runs_are_replayed : RunsAreReplayed
runs_are_replayed statements journal h book reports calls made = record {
  right = subst (λ q. IsRightHistory (book_from journal) q h) (sym reports) (subst (λ b. IsRightHistory b (reports_of statements) h) (sym book) made.right);
  calls = sym calls;
}

-- ---- bytes that are told

-- what a source gives that tells its bytes
given_once : (bytes : List ℕ) (left left' : Option (List ℕ)) (text text' : Text) → GivesAll (Some bytes) left text → GivesAll (Some bytes) left' text' → (text ≡ text') × (left ≡ left')
given_once bytes left left' text text' g g' = (sym g.0 ∙ g'.0, g.1 ∙ sym g'.1)

-- what a sink holds that tells its bytes
appended_once : (held : List ℕ) (held' held'' : Option (List ℕ)) (text text' : List ℕ) → text ≡ text' → Appends (Some held) held' text → Appends (Some held) held'' text' → held' ≡ held''
appended_once held None held'' text text' same a b = absurd a
appended_once held (Some xs) None text text' same a b = absurd b
appended_once held (Some xs) (Some ys) text text' same a b = ap (λ q. Some q) (a ∙ (ap (λ q. held ++ q) same ∙ sym b))

-- a text is one session of a form at most
session_once : (text text' : Text) (form : Form) (names names' : Table) (statements statements' : List Statement) → text ≡ text' → IsSession text form names statements → IsSession text' form names' statements' →
    (names ≡ names') × (statements ≡ statements')
session_once text text' form names names' statements statements' same s s' =
    read_once text' names names' statements statements' (subst (λ q. IsReadAs q names statements) same s.read) s'.read

-- where bytes are told, a replay of a journal has one history and writes one text
pub one_replayed : OneReplayed
one_replayed bytes held left left' held' held'' h h' r r' =
    let given = given_once bytes left left' r.text r'.text r.given r'.given in
    let said = session_once r.text r'.text _ r.names r'.names r.statements r'.statements given.0 r.session r'.session in
    let history = one_replay r'.statements h h' (subst (λ q. IsReplayOf q h) said.1 r.history) r'.history in
    let lines : history_text r.names h ≡ history_text r'.names h' = ap₂ history_text said.0 history in
    (history, given.1, appended_once held held' held'' (history_text r.names h) (history_text r'.names h') lines r.written r'.written)

-- where bytes are told, a run of one clerk's session has one history and writes one text
pub one_run : OneRun
one_run bytes held left left' held' held'' script h h' r one r' =
    let given = given_once bytes left left' r.text r'.text r.given r'.given in
    let said = session_once r.text r'.text _ r.names r'.names r.statements r'.statements given.0 r.session r'.session in
    let mine : IsHistoryOf r.statements h' = subst (λ q. IsHistoryOf q h') (sym said.1) r'.history in
    let calls = one_clerk r.statements script h one r.history ∙ sym (one_clerk r.statements script h' one mine) in
    let history = right_once (book_from r.statements) (reports_of r.statements) h h' r.history.right mine.right calls in
    let lines : history_text r.names h ≡ history_text r'.names h' = ap₂ history_text said.0 history in
    (history, given.1, appended_once held held' held'' (history_text r.names h) (history_text r'.names h') lines r.written r'.written)
