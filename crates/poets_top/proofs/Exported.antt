-- The document of a book, its reports and a history.
use Rattle.std.proofs.Common.{◌≡◌, ℕ, List, [], ◌∷◌, ◌++◌, map, true, arith, Some, sym, ◌∙◌, subst}
use Rattle.std.specs.Prelude.{All, Contains}
use Rattle.std.specs.List.{AllByRecursion}
use Rattle.std.specs.List.Sorted.{IsStrictlySortedBy}
use Rattle.std.specs.Ordering.{eq_by_cmp, nat_cmp}
use Rattle.std.specs.declared.cmp.Ordering.TheVariants.{Less}
use Rattle.std.specs.BTreeMap.{BTreeMap, IsOrdered, get}
use Rattle.std.specs.Map.{keys_of}
use Rattle.std.proofs.lemmas.Bool.Decides.{nat_tests}
use Rattle.std.proofs.lemmas.List.Elements.{All-contains}
use Rattle.std.proofs.lemmas.Map.Keys.{IsStrictlyIncreasing-from_sorted}
use Rattle.std.proofs.lemmas.Map.Views.{Contains-from_lookup}
use Rattle.poets_value.specs.Names.{name_cmp}
use Rattle.poets_value.specs.declared.value.Name.{Name}
use Rattle.poets_value.specs.declared.value.Ty.{Ty}
use Rattle.poets_expr.specs.Env.{declared_of, same_name}
use Rattle.poets_expr.proofs.SameTrees.{name_one}
use Rattle.poets_syntax.specs.Book.{book_of}
use Rattle.poets_syntax.specs.declared.term.Book.{Book}
use Rattle.poets_report.specs.Reports.{report_of}
use Rattle.poets_report.specs.declared.report.Report.{Report}
use Rattle.poets_value.specs.Listed.{Listed}
use Rattle.poets_lex.specs.Table.{Table}
use Rattle.poets_command.specs.Declarations.{book_from, reports_of}
use Rattle.poets_command.specs.Calls.{history_of}
use Rattle.poets_command.specs.Plain.{Entry}
use Rattle.poets_command.specs.declared.call.Entry as code
use Rattle.poets_command.specs.Said.{Statement}
use Rattle.poets_rules.specs.Rules as R
use Rattle.poets_rules.specs.declared.rules.Rules.{Rules}
use Rattle.poets_json.specs.Document.{document_bytes}
use Rattle.poets_json.specs.Plain.{AreDeclaredNames, exported_with}
use Rattle.poets_top.specs.Exporting.{IsDocumentLine}

-- of what a session was read for
pub document_of_session : (rules own : Rules) (statements : List Statement) (names : Table) (h : List Entry) (line : List ℕ) → own ≡ rules →
    R.book_of_rules rules ≡ book_from statements → R.reports_of_rules rules ≡ reports_of statements →
    IsDocumentLine names (R.book_of_rules own) (R.reports_of_rules own) h line → IsDocumentLine names (book_from statements) (reports_of statements) h line
document_of_session rules own statements names h line same book reports is =
    subst (λ q. IsDocumentLine names (book_from statements) q h line) reports
    (subst (λ b. IsDocumentLine names b (R.reports_of_rules rules) h line) book
    (subst (λ r. IsDocumentLine names (R.book_of_rules r) (R.reports_of_rules r) h line) same is))

-- ---- the declared names of a map

all_below : (k : Name) (ds : List (Name × Ty)) → AllByRecursion (λ y. name_cmp k y ≡ Less) (keys_of ds) → AllByRecursion (λ y. nat_cmp k.id y ≡ Less) (map (λ d. d.0.id) ds)
all_below k [] h = tt
all_below k (d ∷ ds) h = (h.0, all_below k ds h.1)

names_rise : (ds : List (Name × Ty)) → IsStrictlySortedBy name_cmp (keys_of ds) → IsStrictlySortedBy nat_cmp (map (λ d. d.0.id) ds)
unfolding IsStrictlySortedBy
names_rise [] h = tt
names_rise (d ∷ ds) h = (all_below d.0 ds h.0, names_rise ds h.1)

order_tells : (x y : Name) → eq_by_cmp name_cmp x y ≡ same_name x y
order_tells x y = grind (arith, nat_tests)

same_names : (x y : Name) → eq_by_cmp name_cmp x y ≡ true → x ≡ y
same_names x y e = name_one x y (sym (order_tells x y) ∙ e)

-- the entries of the map
pub entries_are_declared : (m : BTreeMap Name Ty) → IsOrdered name_cmp m → All (λ e. get name_cmp m e.0 ≡ Some e.1) m.entries → AreDeclaredNames (declared_of m) m.entries
entries_are_declared m ordered found = record {
  rise = IsStrictlyIncreasing-from_sorted (map (λ d. d.0.id) m.entries) (names_rise m.entries ordered);
  each = λ x ty. (λ is. Contains-from_lookup same_names x ty m.entries is, λ here. All-contains (λ e. get name_cmp m e.0 ≡ Some e.1) m.entries (x, ty) found here);
}

-- the document of the parts of rules
pub document_of_rules : (rules : Rules) (names : Table) (book : Book) (reports : Listed Report) (history : Listed code.Entry) (line : List ℕ) → book ≡ rules.studied.book → reports ≡ rules.reports →
    IsOrdered name_cmp book.decls.names → All (λ e. get name_cmp book.decls.names e.0 ≡ Some e.1) book.decls.names.entries →
    line ≡ document_bytes names (exported_with book reports history) ++ 10 ∷ [] → IsDocumentLine names (R.book_of_rules rules) (R.reports_of_rules rules) (history_of history.items) line
document_of_rules rules names book reports history line same_book same_reports ordered found is =
    subst (λ q. IsDocumentLine names (R.book_of_rules rules) (map report_of q.items) (history_of history.items) line) same_reports
    (subst (λ b. IsDocumentLine names (book_of b) (map report_of reports.items) (history_of history.items) line) same_book
    (record { declared = book.decls.names.entries; are = entries_are_declared book.decls.names ordered found; is = is }))
