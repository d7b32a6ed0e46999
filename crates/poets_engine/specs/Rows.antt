-- What an engine keeps is the ledger of its history.
use Rattle.std.specs.Prelude.{◌≡◌, ℕ, suc, ◌≤◌, ◌≤ℤ◌, List, [], ◌∷◌, map, length, take, All, Some}
use Rattle.std.specs.Prelude.{false}
use Rattle.std.specs.List.{AllZip}
use Rattle.poets_value.specs.declared.value.Name.{Name}
use Rattle.poets_value.specs.declared.event.Event.{Event}
use Rattle.poets_value.specs.Whole.{IsWholeTrace}
use Rattle.poets_expr.specs.Expression.{Expression}
use Rattle.poets_expr.specs.Val.{val}
use Rattle.poets_syntax.specs.Contract.{Contract, contract_of}
use Rattle.poets_syntax.specs.declared.term.Term.{Term}
use Rattle.poets_syntax.specs.Applied.{CountsFit}
use Rattle.poets_syntax.specs.Book.{book_of}
use Rattle.poets_syntax.specs.WellFormed.{IsWellFormed, IsDeclaredEvent}
use Rattle.poets_syntax.specs.Whole.{IsWholeContract, IsWholeBook}
use Rattle.poets_meaning.specs.Studied.{StudiedBook, IsStudiedBook, marks_of}
use Rattle.poets_meaning.specs.Marks.{Hopeful}
use Rattle.poets_calculus.specs.Residual.{residual_after}
use Rattle.poets_cons.specs.declared.node.Node.{Node}
use Rattle.poets_cons.specs.Table.{contract_of_rows}
use Rattle.poets_residue.specs.Limits.{is_past_limit_in}
use Rattle.poets_report.specs.Reports.{report_of}
use Rattle.poets_table.specs.TableView.{RowView, HasStarts}
use Rattle.poets_live.specs.Watching.{WatchView, Follows}
use Rattle.poets_command.specs.Plain.{Entry}
use Rattle.poets_command.specs.Calls.{Call, calls_of}
use Rattle.poets_command.specs.Reports.{report_in}
use Rattle.poets_rules.specs.declared.rules.Rules.{Rules}
use Rattle.poets_rules.specs.Rules.{book_of_rules, reports_of_rules}
use Rattle.poets_history.specs.Ledger.{Ledger, ledger_of, events, trace, is_ended}
use Rattle.poets_history.specs.Histories.{IsLegal}
use Rattle.poets_engine.specs.Store.{StoreView}

-- the days of the events do not fall
abbrev pub NeverFall : List Event → Type 0
NeverFall [] = Unit {0}
NeverFall (e ∷ []) = Unit {0}
NeverFall (e ∷ e' ∷ s) = (e.day ≤ℤ e'.day) × NeverFall (e' ∷ s)

-- what is owed on the row's contract after a trace
abbrev pub owed_after : StudiedBook → RowView Term (List Node) → List Event → Contract
owed_after s r trace = residual_after (book_of s.book) (marks_of s) (contract_of r.original) trace

-- a row is what the ledger says of the contract with that number
pub record RowIs (s : StudiedBook) (l : Ledger) (i : ℕ) (r : RowView Term (List Node)) : Type 0 where
  pub events : r.events ≡ trace l i
  pub ended : r.ended ≡ is_ended l i
  pub formed : IsWellFormed (book_of s.book).declared (contract_of r.original)
  pub fit : CountsFit (book_of s.book) (contract_of r.original)
  pub declared : All (IsDeclaredEvent (book_of s.book).declared) r.events
  pub days : NeverFall r.events
  -- what is owed is the residual, and some granted steps perform it
  pub current : contract_of_rows r.current ≡ owed_after s r r.events
  pub hopeful : Hopeful (book_of s.book) (contract_of_rows r.current)
  -- after none of the first events is what is owed past the limit
  pub within_limit : (n : ℕ) → is_past_limit_in s (owed_after s r (take n r.events)) ≡ false
  -- the events are in pieces, and for each piece there is what was owed before it
  pub starts : HasStarts r
  pub points : AllZip (λ n point. contract_of_rows point ≡ owed_after s r (take n r.events)) r.starts r.points
  -- all numbers and days are those of the language
  pub whole_original : IsWholeContract (contract_of r.original)
  pub whole_events : IsWholeTrace r.events
  pub whole_current : IsWholeContract (contract_of_rows r.current)

-- the rows from a number on
abbrev pub RowsAre : StudiedBook → Ledger → ℕ → List (RowView Term (List Node)) → Type 0
RowsAre s l i [] = Unit {0}
RowsAre s l i (r ∷ rows) = RowIs s l i r × RowsAre s l (suc i) rows

-- the watch is of the report with the name, under the values of the arguments, and has its answer
-- over all events
pub record WatchIs (rules : Rules) (l : Ledger) (asked : Name × List Expression) (w : WatchView) : Type 0 where
  pub report : report_in (reports_of_rules rules) asked.0 ≡ Some (report_of w.report)
  pub args : w.args ≡ map (val (book_of_rules rules).declared []) asked.1
  pub follows : Follows (book_of_rules rules).declared (events l) w

-- the book was studied and is whole, and what is kept is the ledger's
pub record IsLedger (rules : Rules) (l : Ledger) (store : StoreView) : Type 0 where
  pub studied : IsStudiedBook (book_of_rules rules) rules.studied.marks
  pub whole : IsWholeBook (book_of_rules rules)
  pub contracts : map (λ r. (r.name, contract_of r.original)) store.rows ≡ l.contracts
  pub log : store.log ≡ l.log
  pub rows : RowsAre rules.studied l 1 store.rows
  pub watches : AllZip (WatchIs rules l) l.watches store.watches
  -- the log and the ends have numbers of these contracts alone
  pub logged : All (λ p. p.0 ≤ length store.rows) l.log
  pub ended : All (λ n. n ≤ length store.rows) l.ends

-- what is kept is the ledger of a legal history with these calls
pub record IsStoreOf (rules : Rules) (calls : List Call) (store : StoreView) : Type 0 where
  pub history : List Entry
  pub legal : IsLegal (book_of_rules rules) (reports_of_rules rules) history
  pub same : calls_of history ≡ calls
  pub ledger : IsLedger rules (ledger_of history) store
