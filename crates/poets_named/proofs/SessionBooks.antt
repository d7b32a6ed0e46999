-- The book of a session can be written with the session's names.
use Rattle.std.proofs.Common.{◌≡◌, ℕ, ◌+◌, Bool, true, false, List, [], ◌∷◌, map, Option, Some, None, IfSome, refl, subst}
use Rattle.std.specs.Prelude.{if◌then◌else◌}
use Rattle.std.specs.List.{All, flat_map}
use Rattle.std.proofs.lemmas.List.Elements.{All-nil, All-cons, All-head, All-tail, All-append}
use Rattle.poets_value.specs.declared.value.Name.{Name}
use Rattle.poets_value.specs.declared.value.Ty.{Ty}
use Rattle.poets_value.specs.declared.value.Ty.TheVariants as T
use Rattle.poets_lex.specs.Table.{Table}
use Rattle.poets_expr.specs.Env.{same_name}
use Rattle.poets_expr.specs.Expression.{Expression}
use Rattle.poets_expr.proofs.SameTrees.{name_one}
use Rattle.poets_syntax.specs.Plain.{Book}
use Rattle.poets_syntax.specs.TypeOf.{Scope, type_in}
use Rattle.poets_syntax.specs.Whole.{IsWholeBook, IsWholeContract}
use Rattle.poets_command.specs.Declarations.{agents_and_kinds, template_in_statement, book_from, reports_of}
use Rattle.poets_command.specs.Plain.{TypeFault}
use Rattle.poets_command.specs.Plain as plain
use Rattle.poets_command.specs.Said.{Statement, Agents, Kinds, Template, Report}
use Rattle.poets_command.proofs.Demanded.{statements_by_demands}
use Rattle.poets_command.specs.TypedStatements.{report_names, check_statement, check_report, first_of, twice_from, mistyped_from}
use Rattle.poets_command.specs.Typing.{IsTypedReport}
use Rattle.poets_command.proofs.TypingRules.{report_typed}
use Rattle.poets_print.specs.Laws.{IsListed}
use Rattle.poets_books.specs.Laws.{CanWriteTemplate, IsWholeKey}
use Rattle.poets_types.proofs.CheckedBooks.{or_else-none}
use Rattle.poets_session.specs.Written.{IsWritten, IsWrittenTemplate, IsWrittenReport, IsWrittenExpression}
use Rattle.poets_session.proofs.LawsFitting.{read_written}
use Rattle.poets_named.specs.Laws.{BooksOfSessionsCanBeWritten}
use Rattle.poets_named.specs.Written.{CanWriteBook, IsWholeReport, AreTypedRules}

-- ---- names

module _ (names : Table) where
  abbrev IsListedPair : Name × Ty → Type 0
  IsListedPair p = IsListed names p.0

  in_scope : (scope : Scope) (x : Name) (t : Ty) → All IsListedPair scope → type_in (λ _. None) scope x ≡ Some t → IsListed names x
  in_scope [] x t h e = absurd cc
  in_scope (p ∷ scope) x t h e = by_test (same_name p.0 x) refl (in_scope scope x t (All-tail IsListedPair p scope h)) e
    where
      by_test : (b : Bool) → same_name p.0 x ≡ b → (type_in (λ _. None) scope x ≡ Some t → IsListed names x) →
          (if b then Some p.1 else type_in (λ _. None) scope x) ≡ Some t → IsListed names x
      by_test true same rest e = subst (IsListed names) (name_one p.0 x same) (All-head IsListedPair p scope h)
      by_test false other rest e = rest e

  scope_listed : (t : Ty) (xs : List Name) → All (IsListed names) xs → All IsListedPair (map (λ (x : Name). (x, t)) xs)
  scope_listed t [] h = All-nil IsListedPair
  scope_listed t (x ∷ xs) h =
      All-cons IsListedPair (x, t) (map (λ (y : Name). (y, t)) xs) (All-head (IsListed names) x xs h) (scope_listed t xs (All-tail (IsListed names) x xs h))

  declared_listed : (statements : List Statement) → All (IsWritten names) statements → All IsListedPair (flat_map agents_and_kinds statements)
  declared_listed [] h = All-nil IsListedPair
  declared_listed (Agents xs ∷ statements) h =
      All-append IsListedPair (map (λ (x : Name). (x, T.Agent)) xs) (flat_map agents_and_kinds statements)
      (scope_listed T.Agent xs (All-head (IsWritten names) (Agents xs) statements h)) (declared_listed statements (All-tail (IsWritten names) (Agents xs) statements h))
  declared_listed (Kinds xs ∷ statements) h =
      All-append IsListedPair (map (λ (x : Name). (x, T.Kind)) xs) (flat_map agents_and_kinds statements)
      (scope_listed T.Kind xs (All-head (IsWritten names) (Kinds xs) statements h)) (declared_listed statements (All-tail (IsWritten names) (Kinds xs) statements h))
  declared_listed (s ∷ statements) h = declared_listed statements (All-tail (IsWritten names) s statements h)

  -- ---- templates

  can_template : (t : plain.Template) → IsWrittenTemplate names t → CanWriteTemplate names t
  can_template t h = record { name = h.name; params = h.params; body = h.body.0 }

  can_templates : (statements : List Statement) → All (IsWritten names) statements → All (CanWriteTemplate names) (flat_map template_in_statement statements)
  can_templates [] h = All-nil (CanWriteTemplate names)
  can_templates (Template t ∷ statements) h =
      All-cons (CanWriteTemplate names) t (flat_map template_in_statement statements) (can_template t (All-head (IsWritten names) (Template t) statements h))
      (can_templates statements (All-tail (IsWritten names) (Template t) statements h))
  can_templates (s ∷ statements) h = can_templates statements (All-tail (IsWritten names) s statements h)

  whole_templates : (statements : List Statement) → All (IsWritten names) statements → IsWholeBook (book_from statements)
  whole_templates [] h = All-nil (λ t. IsWholeContract t.body)
  whole_templates (Template t ∷ statements) h =
      All-cons (λ (u : plain.Template). IsWholeContract u.body) t (book_from statements).templates (All-head (IsWritten names) (Template t) statements h).body.1
      (whole_templates statements (All-tail (IsWritten names) (Template t) statements h))
  whole_templates (s ∷ statements) h = whole_templates statements (All-tail (IsWritten names) s statements h)

  -- ---- reports

  whole_key : (key : Option Expression) → IfSome key (IsWrittenExpression names) → IsWholeKey key
  whole_key None h = tt
  whole_key (Some key) h = h.1

  whole_report : (q : plain.Report) → IsWrittenReport names q → IsWholeReport q
  whole_report q h = record { start = h.start.1; step = h.step.1; key = whole_key q.key h.key }

  whole_reports : (statements : List Statement) → All (IsWritten names) statements → All IsWholeReport (reports_of statements)
  whole_reports [] h = All-nil IsWholeReport
  whole_reports (Report q ∷ statements) h =
      All-cons IsWholeReport q (reports_of statements) (whole_report q (All-head (IsWritten names) (Report q) statements h))
      (whole_reports statements (All-tail (IsWritten names) (Report q) statements h))
  whole_reports (s ∷ statements) h = whole_reports statements (All-tail (IsWritten names) s statements h)

module _ (book : Book) (reports : List plain.Report) where
  abbrev IsTypedOne : plain.Report → Type 0
  IsTypedOne q = IsTypedReport book (report_names reports) q

  typed_reports : (number : ℕ) (statements : List Statement) → mistyped_from number book reports statements ≡ None → All IsTypedOne (reports_of statements)
  typed_reports number [] h = All-nil IsTypedOne
  typed_reports number (Report q ∷ statements) h =
      let p = or_else-none (check_report book (report_names reports) q) number (mistyped_from (number + 1) book reports statements) h in
      All-cons IsTypedOne q (reports_of statements) (report_typed book (report_names reports) q p.0) (typed_reports (number + 1) statements p.1)
  typed_reports number (s ∷ statements) h =
      typed_reports (number + 1) statements (or_else-none (check_statement book reports s) number (mistyped_from (number + 1) book reports statements) h).1

no_later_fault : (first later : TypeFault) → first_of first later ≡ None → later ≡ None
no_later_fault None later h = h
no_later_fault (Some f) later h = absurd cc

pub books_of_sessions_can_be_written : BooksOfSessionsCanBeWritten
books_of_sessions_can_be_written text form names statements session =
    let written = read_written text names statements session.read in
    let passed = no_later_fault (twice_from 1 [] statements) (mistyped_from 1 (book_from statements) (reports_of statements) statements) ((statements_by_demands statements).1 session.valid.typed) in
    let can : CanWriteBook names (book_from statements) = record {
      declared = λ x t e. in_scope names (flat_map agents_and_kinds statements) x t (declared_listed names statements written) e;
      templates = can_templates names statements written;
    } in
    let rules : AreTypedRules (book_from statements) (reports_of statements) = record {
      typed = typed_reports (book_from statements) (reports_of statements) 1 statements passed;
      whole = whole_reports names statements written;
      templates = whole_templates names statements written;
    } in
    (can, rules)
