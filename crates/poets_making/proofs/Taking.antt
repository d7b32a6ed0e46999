-- The engine takes the calls of a session.
use Rattle.std.proofs.Common.{◌≡◌, ℕ, ◌+◌, ◌<◌, List, [], ◌∷◌, Some, None, map, length, get_or, sym, subst, arith}
use Rattle.std.specs.Arc.{arc_value}
use Rattle.std.specs.List.{All}
use Rattle.std.specs.declared.alloc.Global.{Global}
use Rattle.std.specs.declared.sync.Arc.{Arc}
use Rattle.std.proofs.lemmas.List.{get_or-map, length-map}
use Rattle.std.proofs.lemmas.List.Elements.{All-nil, All-cons, All-head, All-tail, All-append, All-map}
use Rattle.poets_syntax.specs.Plain.{Book}
use Rattle.poets_syntax.specs.Whole.{IsWholeContract, IsWholeBook}
use Rattle.poets_report.specs.Plain.{Report}
use Rattle.poets_command.specs.declared.call.Command.{Command as CodeCommand}
use Rattle.poets_command.specs.Calls.{Call, command_of}
use Rattle.poets_command.specs.Said.{Statement, Clerk, Command, Numbered, Template}
use Rattle.poets_command.specs.Declarations.{book_from, reports_of}
use Rattle.poets_command.specs.Taken.{IsTaken}
use Rattle.poets_command.specs.Plain.{TypeFault}
use Rattle.poets_command.specs.TypedStatements.{check_command, check_statement, first_of, twice_from, mistyped_from}
use Rattle.poets_command.specs.StatementDemands.{AreTypedStatements}
use Rattle.poets_command.proofs.Demanded.{statements_by_demands}
use Rattle.poets_command.specs.Typing.{IsTypedCommand}
use Rattle.poets_command.proofs.TypingRules.{command_typed}
use Rattle.poets_command.specs.Plain as plain
use Rattle.poets_rules.specs.declared.rules.Rules.{Rules}
use Rattle.poets_rules.specs.Rules as R
use Rattle.poets_lex.specs.Table.{Table}
use Rattle.poets_types.proofs.CheckedBooks.{or_else-none}
use Rattle.poets_value.specs.Listed.{Listed}
use Rattle.poets_session.specs.Sessions.{Represents, IsSession, Text, calls_in, commands_ahead, commands_in, scripts_of, journal_of}
use Rattle.poets_session.specs.declared.form.Form.TheVariants as F
use Rattle.poets_session.specs.declared.session.Session.{Session}
use Rattle.poets_session.proofs.LawsFitting.{read_written, scripts_written}
use Rattle.poets_session.specs.Written.{IsWritten, IsWrittenCommand}
use Rattle.poets_making.specs.Noted.{AreTaken, AreScriptsTaken}

-- ---- typed commands

no_later_fault : (first later : TypeFault) → first_of first later ≡ None → later ≡ None
no_later_fault None later h = h
no_later_fault (Some f) later h = absurd cc

module _ (book : Book) (reports : List Report) where
  abbrev Typed : plain.Command → Type 0
  Typed r = IsTypedCommand book reports r

  typed_ahead : (number : ℕ) (statements : List Statement) → mistyped_from number book reports statements ≡ None → All Typed (commands_ahead statements)
  typed_ahead number [] h = All-nil Typed
  typed_ahead number (Clerk ∷ statements) h = All-nil Typed
  typed_ahead number (Command r ∷ statements) h =
      let p = or_else-none (check_command book reports r) number (mistyped_from (number + 1) book reports statements) h in
      All-cons Typed r (commands_ahead statements) (command_typed book reports r p.0) (typed_ahead (number + 1) statements p.1)
  typed_ahead number (s ∷ statements) h =
      typed_ahead (number + 1) statements (or_else-none (check_statement book reports s) number (mistyped_from (number + 1) book reports statements) h).1

  typed_scripts : (number : ℕ) (statements : List Statement) → mistyped_from number book reports statements ≡ None → All (All Typed) (scripts_of statements)
  typed_scripts number [] h = All-nil (All Typed)
  typed_scripts number (Clerk ∷ statements) h =
      All-cons (All Typed) (commands_ahead statements) (scripts_of statements) (typed_ahead (number + 1) statements h) (typed_scripts (number + 1) statements h)
  typed_scripts number (s ∷ statements) h =
      typed_scripts (number + 1) statements (or_else-none (check_statement book reports s) number (mistyped_from (number + 1) book reports statements) h).1

  typed_journal : (number : ℕ) (statements : List Statement) → mistyped_from number book reports statements ≡ None → All (λ call. Typed call.1) (journal_of statements)
  typed_journal number [] h = All-nil (λ call. Typed call.1)
  typed_journal number (Numbered clerk r ∷ statements) h =
      let p = or_else-none (check_command book reports r) number (mistyped_from (number + 1) book reports statements) h in
      All-cons (λ call. Typed call.1) (clerk, r) (journal_of statements) (command_typed book reports r p.0) (typed_journal (number + 1) statements p.1)
  typed_journal number (s ∷ statements) h =
      typed_journal (number + 1) statements (or_else-none (check_statement book reports s) number (mistyped_from (number + 1) book reports statements) h).1

-- ---- written ones are whole

abbrev Takes : List Statement → plain.Command → Type 0
Takes statements r = IsTaken (book_from statements) (reports_of statements) r

mistyped_none : (statements : List Statement) → AreTypedStatements statements → mistyped_from 1 (book_from statements) (reports_of statements) statements ≡ None
mistyped_none statements typed = no_later_fault (twice_from 1 [] statements) (mistyped_from 1 (book_from statements) (reports_of statements) statements) ((statements_by_demands statements).1 typed)

-- the commands of scripts
pub scripts_taken : (names : Table) (statements : List Statement) → AreTypedStatements statements → All (All (IsWrittenCommand names)) (scripts_of statements) →
    All (All (Takes statements)) (scripts_of statements)
scripts_taken names statements typed written =
    let passed = typed_scripts (book_from statements) (reports_of statements) 1 statements (mistyped_none statements typed) in
    λ k d lt i e under. record { typed = passed k d lt i e under; whole = (written k d lt i e under).1 }

-- the calls of a journal
pub journal_taken : (names : Table) (statements : List Statement) → AreTypedStatements statements → All (λ call. IsWrittenCommand names call.1) (journal_of statements) →
    All (λ call. Takes statements call.1) (journal_of statements)
journal_taken names statements typed written =
    let passed = typed_journal (book_from statements) (reports_of statements) 1 statements (mistyped_none statements typed) in
    λ k d lt. record { typed = passed k d lt; whole = (written k d lt).1 }

-- ---- the calls of the code

-- what holds of each image
pub All-of_map : {X Y : Type 0} (P : Y → Type 0) (f : X → Y) (xs : List X) → All P (map f xs) → All (λ x. P (f x)) xs
All-of_map P f xs h k x lt = subst P (get_or-map f xs k x (f x) lt) (h k (f x) (omega (arith, lt, length-map xs f)))

pub AreTaken-code : (rules : Rules) (statements : List Statement) (calls : List (ℕ × Arc CodeCommand Global)) (plain : List Call) →
    R.book_of_rules rules ≡ book_from statements → R.reports_of_rules rules ≡ reports_of statements → calls_in calls ≡ plain →
    All (λ call. Takes statements call.1) plain → AreTaken rules calls
AreTaken-code rules statements calls plain book reports same taken =
    let there = subst (λ b. All (λ call. IsTaken b (reports_of statements) call.1) plain) (sym book) taken in
    let here = subst (λ q. All (λ call. IsTaken (R.book_of_rules rules) q call.1) plain) (sym reports) there in
    All-of_map (λ (call : Call). IsTaken (R.book_of_rules rules) (R.reports_of_rules rules) call.1) (λ (p : ℕ × Arc CodeCommand Global). (p.0, command_of (arc_value p.1))) calls
    (subst (All (λ call. IsTaken (R.book_of_rules rules) (R.reports_of_rules rules) call.1)) (sym same) here)

pub AreScriptsTaken-code : (rules : Rules) (statements : List Statement) (scripts : List (Listed (Arc CodeCommand Global))) →
    R.book_of_rules rules ≡ book_from statements → R.reports_of_rules rules ≡ reports_of statements → commands_in scripts ≡ scripts_of statements →
    All (All (Takes statements)) (scripts_of statements) → AreScriptsTaken rules scripts
AreScriptsTaken-code rules statements scripts book reports same taken =
    let there = subst (λ b. All (All (λ r. IsTaken b (reports_of statements) r)) (scripts_of statements)) (sym book) taken in
    let here = subst (λ q. All (All (λ r. IsTaken (R.book_of_rules rules) q r)) (scripts_of statements)) (sym reports) there in
    let plain = All-of_map (All (λ r. IsTaken (R.book_of_rules rules) (R.reports_of_rules rules) r)) (λ (s : Listed (Arc CodeCommand Global)). map (λ c. command_of (arc_value c)) s.items) scripts
    (subst (All (All (λ r. IsTaken (R.book_of_rules rules) (R.reports_of_rules rules) r))) (sym same) here) in
    λ k d lt. All-of_map (λ r. IsTaken (R.book_of_rules rules) (R.reports_of_rules rules) r) (λ (c : Arc CodeCommand Global). command_of (arc_value c)) (get_or scripts k d).items (plain k d lt)

-- one of the calls
pub taken_at : (rules found : Rules) (calls : List (ℕ × Arc CodeCommand Global)) (i : ℕ) (p : ℕ × Arc CodeCommand Global) → AreTaken rules calls → i < length calls →
    p ≡ get_or calls i p → found ≡ rules → IsTaken (R.book_of_rules found) (R.reports_of_rules found) (command_of (arc_value p.1))
taken_at rules found calls i p taken lt at same =
    subst (λ r. IsTaken (R.book_of_rules r) (R.reports_of_rules r) (command_of (arc_value p.1))) (sym same)
    (subst (λ q. IsTaken (R.book_of_rules rules) (R.reports_of_rules rules) (command_of (arc_value q.1))) (sym at) (taken i p lt))

-- ---- the book

whole_templates : (names : Table) (statements : List Statement) → All (IsWritten names) statements → IsWholeBook (book_from statements)
whole_templates names [] h = All-nil (λ t. IsWholeContract t.body)
whole_templates names (Template t ∷ statements) h =
    All-cons (λ (u : plain.Template). IsWholeContract u.body) t (book_from statements).templates (All-head (IsWritten names) (Template t) statements h).body.1
    (whole_templates names statements (All-tail (IsWritten names) (Template t) statements h))
whole_templates names (s ∷ statements) h = whole_templates names statements (All-tail (IsWritten names) s statements h)

pub whole_rules : (rules : Rules) (names : Table) (statements : List Statement) → R.book_of_rules rules ≡ book_from statements → All (IsWritten names) statements →
    IsWholeBook (R.book_of_rules rules)
whole_rules rules names statements book written = subst IsWholeBook (sym book) (whole_templates names statements written)

-- ---- a session of clerks

-- its book is whole
pub session_whole : (text : Text) (statements : List Statement) (session : Session) → IsSession text F.Clerks session.names statements → Represents statements session → IsWholeBook (R.book_of_rules session.rules)
session_whole text statements session is holds = whole_rules session.rules session.names statements holds.book (read_written text session.names statements is.read)

-- an engine takes its scripts
pub session_taken : (text : Text) (statements : List Statement) (session : Session) → IsSession text F.Clerks session.names statements → Represents statements session → AreScriptsTaken session.rules session.scripts.items
session_taken text statements session is holds =
    AreScriptsTaken-code session.rules statements session.scripts.items holds.book holds.reports holds.scripts
    (scripts_taken session.names statements is.valid.typed (scripts_written session.names statements (read_written text session.names statements is.read)))
