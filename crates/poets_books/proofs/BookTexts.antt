-- Texts of a book's statements, one after the other.
use Rattle.std.proofs.Common.{◌≡◌, ℕ, true, false, length, arith, List, [], ◌∷◌, ◌++◌, map, refl, sym, ap, ◌∙◌}
use Rattle.std.specs.Prelude.{◌==◌, codes, String, string_bytes}
use Rattle.std.specs.declared.alloc.Global.{Global}
use Rattle.std.proofs.lemmas.Bool.Decides.{nat_tests}
use Rattle.std.proofs.lemmas.List.{append-nil, map-append}
use Rattle.poets_value.specs.declared.value.Name.{Name}
use Rattle.poets_value.specs.declared.value.Ty.{Ty}
use Rattle.poets_value.specs.declared.value.Ty.TheVariants as T
use Rattle.poets_syntax.specs.declared.term.Template.{Template}
use Rattle.poets_syntax.specs.Book.{template_of}
use Rattle.poets_report.specs.declared.report.Report.{Report}
use Rattle.poets_report.specs.Reports.{report_of}
use Rattle.poets_command.specs.Said as said
use Rattle.poets_lex.specs.Table.{Table, texts_of}
use Rattle.poets_lex.proofs.Found.{map-push}
use Rattle.poets_print.specs.code.Putting.{names_text}
use Rattle.poets_books.specs.Statements.{statement_text}
use Rattle.poets_books.specs.Books.{names_with, declaration, book_texts}
use Rattle.poets_books.specs.code.Putting.{Adds, listed_texts, template_texts, report_texts}

pub no_names :
    (names : Table) (word : List ℕ) (texts : List (String Global)) (xs : List Name) →
    true ≡ (length xs == 0) → Adds texts texts (listed_texts names word xs)
no_names names word texts [] e = sym (append-nil (texts_of texts))
no_names names word texts (x ∷ xs) e = absurd (grind (arith, nat_tests, e))

pub some_names :
    (names : Table) (word : List ℕ) (old new : List (String Global)) (text : String Global) (xs : List Name) →
    false ≡ (length xs == 0) → new ≡ old ++ text ∷ [] → string_bytes text ≡ word ++ names_text names xs → Adds old new (listed_texts names word xs)
some_names names word old new text [] some e t = absurd (grind (arith, nat_tests, some))
some_names names word old new text (x ∷ xs) some e t =
    rw e (map-push string_bytes old text ∙ ap (λ (u : List ℕ). texts_of old ++ u ∷ []) t)

agents_are :
    (names : Table) (xs : List Name) →
    map (statement_text names) (declaration said.Agents xs) ≡ listed_texts names (codes "agents ") xs
agents_are names [] = refl
agents_are names (x ∷ xs) = refl

kinds_are :
    (names : Table) (xs : List Name) →
    map (statement_text names) (declaration said.Kinds xs) ≡ listed_texts names (codes "kinds ") xs
kinds_are names [] = refl
kinds_are names (x ∷ xs) = refl

templates_are :
    (names : Table) (ts : List Template) →
    map (statement_text names) (map said.Template (map template_of ts)) ≡ template_texts names ts
templates_are names [] = refl
templates_are names (t ∷ ts) =
    ap (λ (us : List (List ℕ)). statement_text names (said.Template (template_of t)) ∷ us) (templates_are names ts)

reports_are :
    (names : Table) (qs : List Report) →
    map (statement_text names) (map said.Report (map report_of qs)) ≡ report_texts names qs
reports_are names [] = refl
reports_are names (q ∷ qs) =
    ap (λ (us : List (List ℕ)). statement_text names (said.Report (report_of q)) ∷ us) (reports_are names qs)

-- lists that are equal piece by piece
pieces :
    (a b c d p q r s : List (List ℕ)) → a ≡ p → b ≡ q → c ≡ r → d ≡ s → a ++ b ++ c ++ d ≡ p ++ q ++ r ++ s
pieces a b c d p q r s ap_ bq cr ds = rw (ap_, bq, cr, ds) refl

-- the texts of a book, piece by piece
book_texts_are :
    (names : Table) (declared : List (Name × Ty)) (ts : List Template) (qs : List Report) →
    book_texts names declared (map template_of ts) (map report_of qs)
    ≡ listed_texts names (codes "agents ") (names_with T.Agent declared) ++ listed_texts names (codes "kinds ") (names_with T.Kind declared)
    ++ template_texts names ts ++ report_texts names qs
book_texts_are names declared ts qs =
    let f = statement_text names in
    let a = declaration said.Agents (names_with T.Agent declared) in
    let k = declaration said.Kinds (names_with T.Kind declared) in
    let t = map said.Template (map template_of ts) in
    let q = map said.Report (map report_of qs) in
    map-append f (a ++ k ++ t) q
    ∙ ap (λ (us : List (List ℕ)). us ++ map f q)
    (map-append f (a ++ k) t ∙ ap (λ (us : List (List ℕ)). us ++ map f t) (map-append f a k))
    ∙ pieces (map f a) (map f k) (map f t) (map f q) _ _ _ _
    (agents_are names (names_with T.Agent declared)) (kinds_are names (names_with T.Kind declared)) (templates_are names ts)
    (reports_are names qs)

-- what was added one after the other
module _ (p q r s : List (List ℕ)) where
  added :
      (a b c d e : List (String Global)) → a ≡ [] → Adds a b p → Adds b c q → Adds c d r → Adds d e s →
      texts_of e ≡ p ++ q ++ r ++ s
  added a b c d e none ab bc cd de =
      de ∙ ap (λ (us : List (List ℕ)). us ++ s)
      (cd ∙ ap (λ (us : List (List ℕ)). us ++ r)
      (bc ∙ ap (λ (us : List (List ℕ)). us ++ q)
      (ab ∙ ap (λ (ts : List (String Global)). texts_of ts ++ p) none)))

-- what was added is the texts of the book
module _ (names : Table) (declared : List (Name × Ty)) (ts templates : List Template) (qs reports : List Report)
    (agents kinds : List Name) (ea : agents ≡ names_with T.Agent declared) (ek : kinds ≡ names_with T.Kind declared)
    (et : templates ≡ ts) (eq : reports ≡ qs) where
  pub all_added : (a b c d e : List (String Global)) → a ≡ [] →
      Adds a b (listed_texts names (codes "agents ") agents) → Adds b c (listed_texts names (codes "kinds ") kinds) →
      Adds c d (template_texts names templates) → Adds d e (report_texts names reports) →
      texts_of e ≡ book_texts names declared (map template_of ts) (map report_of qs)
  all_added a b c d e none ab bc cd de =
      added _ _ _ _ a b c d e none (rw ea at ab) (rw ek at bc) (rw et at cd) (rw eq at de) ∙ sym (book_texts_are names declared ts qs)
