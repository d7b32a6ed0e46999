-- What explains a contract, by its account.
use Rattle.std.proofs.Common.{◌≡◌, ℕ, ◌+◌, ◌<◌, Bool, List, [], ◌∷◌, ◌++◌, length, map, take, get_or, Some, None, refl, sym, ◌∙◌, ap, ap₂, subst, append-nil}
use Rattle.std.specs.Prelude.{IsTrue, ◌↔◌, All, String, string_bytes}
use Rattle.std.specs.declared.alloc.Global.{Global}
use Rattle.std.proofs.lemmas.List.{map_more}
use Rattle.std.proofs.lemmas.List.Concat.{flat_map-append}
use Rattle.poets_value.specs.declared.value.Name.{Name}
use Rattle.poets_lex.specs.Table.{Table, place_of}
use Rattle.poets_syntax.specs.Book.{book_of}
use Rattle.poets_syntax.specs.Contract.{Contract}
use Rattle.poets_syntax.specs.WellFormed.{IsDeclaredEvent, IsWellFormed}
use Rattle.poets_syntax.specs.Applied.{CountsFit}
use Rattle.poets_meaning.specs.Perf.{Perf}
use Rattle.poets_meaning.specs.Studied.{StudiedBook, IsStudiedBook, marks_of}
use Rattle.poets_meaning.proofs.StudiedMarks.{AreRight-studied}
use Rattle.poets_calculus.specs.Residual.{residual_after}
use Rattle.poets_residue.proofs.Studies.{IsStudied-book}
use Rattle.poets_open.specs.Next.{next, step_of}
use Rattle.poets_open.specs.declared.opening.Step.{Step as OpenStep}
use Rattle.poets_report.specs.Plain.{Report}
use Rattle.poets_command.specs.Declarations.{book_from, reports_of}
use Rattle.poets_command.specs.Plain.{Entry}
use Rattle.poets_command.specs.Said.{Statement}
use Rattle.poets_rules.specs.declared.rules.Rules.{Rules}
use Rattle.poets_rules.specs.Rules as R
use Rattle.poets_history.specs.Frame.{Frame, frame_of}
use Rattle.poets_history.specs.Ledger.{Ledger, ledger_of, contract_named, trace}
use Rattle.poets_history.proofs.Owing.{residual_owed, with_marks}
use Rattle.poets_engine.specs.Accounts.{Accounts, IsFormedAccount}
use Rattle.poets_engine.specs.declared.accounts.Account.{Account}
use Rattle.poets_engine.proofs.Owed.{residual_performed}
use Rattle.poets_top.specs.Explaining.{Explains, IsExplanation, TellsWay, contract_line, next_line, next_lines, absent_line}
use Rattle.poets_top.specs.code.Explained.{ExplainsAccount}

-- ---- where there is an account

-- of a formed contract, by what it was registered as, its trace and its residual
module _ (s : StudiedBook) (reports : List Report) (names : Table) (l : Ledger) (name : List ℕ) (x : Name) (n : ℕ) (o : Contract)
    (at : place_of name names ≡ Some x.id) (named : contract_named l x ≡ Some (n, o)) (studied : IsStudiedBook (book_of s.book) s.marks)
    (formed : IsWellFormed (book_of s.book).declared o) (fit : CountsFit (book_of s.book) o) (declared : All (IsDeclaredEvent (book_of s.book).declared) (trace l n)) where
  abbrev residual : Contract
  residual = residual_after (book_of s.book) (marks_of s) o (trace l n)

  explained_by : (may_end : Bool) (way text : List ℕ) → IsTrue may_end ↔ Perf (book_of s.book) [] residual [] → TellsWay (book_of s.book) o (trace l n) way →
      text ≡ contract_line name (length (trace l n)) may_end ++ next_lines names (next (book_of s.book) (marks_of s) residual) ++ way →
      Explains (frame_of (book_of s.book) reports) names l name text
  explained_by may_end way text tells tells_way is =
      let law = residual_performed (book_of s.book) (marks_of s) (IsStudied-book (book_of s.book) s.marks studied) o (trace l n) formed fit declared in
      let right = AreRight-studied (book_of s.book) s.marks studied in
      let steps = next (book_of s.book) (marks_of s) residual in
      subst (Explains (frame_of (book_of s.book) reports) names l name) (sym is)
      (Explains.OfContract (x, at, named) (λ y. law.0 (tells.0 y), λ p. tells.1 (law.1 p)) (residual_owed (book_of s.book) (marks_of s) right o (trace l n))
      (with_marks (book_of s.book) (marks_of s) right (λ m. next (book_of s.book) m residual ≡ steps) refl) tells_way)

pub explained : (s : StudiedBook) (reports : List Report) (names : Table) (l : Ledger) (name : List ℕ) (x : Name) (a : Account) (text : String Global) →
    place_of name names ≡ Some x.id → Accounts s l x (Some a) → IsFormedAccount s a → ExplainsAccount s names name a text →
    Explains (frame_of (book_of s.book) reports) names l name (string_bytes text)
explained s reports names l name x a text at (c, named, is) formed e =
    let book = book_of s.book in
    explained_by s reports names l name x c.0 c.1 at named e.studied (subst (IsWellFormed book.declared) is.original formed.formed) (subst (CountsFit book) is.original formed.original)
    (subst (All (IsDeclaredEvent book.declared)) is.events formed.events) e.may_end e.way (string_bytes text)
    (subst (λ r. IsTrue e.may_end ↔ Perf book [] r []) is.residual e.tells)
    (subst (λ t. TellsWay book c.1 t e.way) is.events (subst (λ o. TellsWay book o a.events.items e.way) is.original e.tells_way))
    (e.is ∙ ap₂ (λ t r. contract_line name (length t) e.may_end ++ next_lines names (next book (marks_of s) r) ++ e.way) is.events is.residual)

-- ---- where no contract has the name

-- the table does not have it
pub unknown_name : (f : Frame) (names : Table) (l : Ledger) (name : List ℕ) → place_of name names ≡ None → Explains f names l name (absent_line name)
unknown_name f names l name none = Explains.OfNone (λ i o called. absurd (let e : None ≡ Some called.0.id = sym none ∙ called.1 in cc))

abbrev name_with : ℕ → Name
name_with n = record { id = n }

-- no contract has it
pub unknown_contract : (f : Frame) (names : Table) (l : Ledger) (name : List ℕ) (x : Name) → place_of name names ≡ Some x.id → contract_named l x ≡ None → Explains f names l name (absent_line name)
unknown_contract f names l name x at none =
    Explains.OfNone (λ i o called.
    let id : Some x.id ≡ Some called.0.id = sym at ∙ called.1 in
    let number : x.id ≡ called.0.id = cc in
    let same : x ≡ called.0 = ap name_with number in
    absurd (let e : None ≡ Some (i, o) = sym none ∙ ap (contract_named l) same ∙ called.2 in cc))

-- ---- one open transmission more

pub next_lines-more : (names : Table) (steps : List OpenStep) (i : ℕ) (step : OpenStep) → i < length steps → step ≡ get_or steps i step →
    next_lines names (map step_of (take (i + 1) steps)) ≡ next_lines names (map step_of (take i steps)) ++ next_line names (step_of step)
next_lines-more names steps i step lt at =
    let before = map step_of (take i steps) in
    ap (next_lines names) (map_more step_of steps i step lt ∙ ap (λ s. before ++ step_of s ∷ []) (sym at))
    ∙ flat_map-append (next_line names) before (step_of step ∷ [])
    ∙ ap (λ l. next_lines names before ++ l) (append-nil (next_line names (step_of step)))

-- ---- what explains a contract by the rules explains it by what they say

pub explanation_read : (rules found : Rules) (statements : List Statement) (names : Table) (h : List Entry) (name text : List ℕ) → found ≡ rules →
    R.book_of_rules rules ≡ book_from statements → R.reports_of_rules rules ≡ reports_of statements →
    Explains (frame_of (R.book_of_rules found) (R.reports_of_rules found)) names (ledger_of h) name text → IsExplanation name names statements h text
explanation_read rules found statements names h name text same book reports e =
    subst (λ r. Explains (frame_of (book_from statements) r) names (ledger_of h) name text) (ap R.reports_of_rules same ∙ reports)
    (subst (λ b. Explains (frame_of b (R.reports_of_rules found)) names (ledger_of h) name text) (ap R.book_of_rules same ∙ book) e)
