-- The names that a book declares stand in its table.
use Rattle.std.proofs.Common.{◌≡◌, ℕ, Bool, true, false, List, [], ◌∷◌, All, Some, None, map, refl, sym, ap, subst, is_some}
use Rattle.std.specs.Prelude.{◌||◌, if◌then◌else◌}
use Rattle.std.specs.List.{flat_map}
use Rattle.std.proofs.lemmas.Bool.{eqb-true}
use Rattle.std.proofs.lemmas.List.Elements.{All-nil, All-cons, All-head, All-tail, All-append}
use Rattle.poets_value.specs.declared.value.Name.{Name}
use Rattle.poets_value.specs.declared.value.Ty.{Ty}
use Rattle.poets_value.specs.declared.value.Ty.TheVariants as T
use Rattle.poets_expr.specs.Env.{same_name}
use Rattle.poets_syntax.specs.Book.{template_in}
use Rattle.poets_syntax.specs.TypeOf.{Scope, type_in}
use Rattle.poets_syntax.specs.Typed.{is_among}
use Rattle.poets_command.specs.Declarations.{agents_and_kinds, declared_by, template_in_statement, report_in_statement, book_from, reports_of}
use Rattle.poets_command.specs.Said.{Statement, Agents, Kinds, Template, Report, Clerk, Journal, Command, Numbered}
use Rattle.poets_command.specs.Plain as plain
use Rattle.poets_command.specs.TypedStatements.{report_names}
use Rattle.poets_lex.specs.Table.{Table}
use Rattle.poets_print.specs.Laws.{IsListed}
use Rattle.poets_session.specs.Written.{IsWritten}
use Rattle.poets_reread.specs.Reread.{AreListedNames}

all_flat : {A B : Type 0} (P : A → Type 0) (Q : B → Type 0) (f : A → List B) → ((x : A) → P x → All Q (f x)) → (xs : List A) →
    All P xs → All Q (flat_map f xs)
all_flat P Q f each [] h = All-nil Q
all_flat P Q f each (x ∷ xs) h =
    All-append Q (f x) (flat_map f xs) (each x (All-head P x xs h)) (all_flat P Q f each xs (All-tail P x xs h))

one : (x y : Name) → same_name x y ≡ true → x ≡ y
one x y e = let made : ℕ → Name = λ i. record { id = i } in ap made (eqb-true x.id y.id e)

module _ (names : Table) where
  in_scope : (scope : Scope) (x : Name) → All (λ p. IsListed names p.0) scope → is_some (type_in (λ _. None) scope x) ≡ true → IsListed names x
  in_scope [] x h e = absurd cc
  in_scope (p ∷ scope) x h e = by_test (same_name p.0 x) refl (in_scope scope x (All-tail (λ p. IsListed names p.0) p scope h)) e
    where
      by_test : (b : Bool) → same_name p.0 x ≡ b → (is_some (type_in (λ _. None) scope x) ≡ true → IsListed names x) →
          is_some (if b then Some p.1 else type_in (λ _. None) scope x) ≡ true → IsListed names x
      by_test true same rest e = subst (IsListed names) (one p.0 x same) (All-head (λ p. IsListed names p.0) p scope h)
      by_test false other rest e = rest e

  in_templates : (ts : List plain.Template) (x : Name) → All (λ t. IsListed names t.name) ts → is_some (template_in ts x) ≡ true → IsListed names x
  in_templates [] x h e = absurd cc
  in_templates (t ∷ ts) x h e = by_test (same_name t.name x) refl (in_templates ts x (All-tail (λ t. IsListed names t.name) t ts h)) e
    where
      by_test : (b : Bool) → same_name t.name x ≡ b → (is_some (template_in ts x) ≡ true → IsListed names x) →
          is_some (if b then Some t else template_in ts x) ≡ true → IsListed names x
      by_test true same rest e = subst (IsListed names) (one t.name x same) (All-head (λ t. IsListed names t.name) t ts h)
      by_test false other rest e = rest e

  in_reports : (qs : List plain.Report) (x : Name) → All (λ q. IsListed names q.name) qs → is_among (report_names qs) x ≡ true → IsListed names x
  in_reports [] x h e = absurd cc
  in_reports (q ∷ qs) x h e = by_test (same_name x q.name) refl (in_reports qs x (All-tail (λ q. IsListed names q.name) q qs h)) e
    where
      by_test : (b : Bool) → same_name x q.name ≡ b → (is_among (report_names qs) x ≡ true → IsListed names x) →
          (b || is_among (report_names qs) x) ≡ true → IsListed names x
      by_test true same rest e =
          subst (IsListed names) (sym (one x q.name same)) (All-head (λ q. IsListed names q.name) q qs h)
      by_test false other rest e = rest e

  scope_listed : (t : Ty) (xs : List Name) → All (IsListed names) xs → All (λ (p : Name × Ty). IsListed names p.0) (map (λ (x : Name). (x, t)) xs)
  scope_listed t [] h = All-nil (λ (p : Name × Ty). IsListed names p.0)
  scope_listed t (x ∷ xs) h =
      All-cons (λ (p : Name × Ty). IsListed names p.0) (x, t) (map (λ (y : Name). (y, t)) xs) (All-head (IsListed names) x xs h)
      (scope_listed t xs (All-tail (IsListed names) x xs h))

  declared_listed : (s : Statement) → IsWritten names s → All (λ p. IsListed names p.0) (agents_and_kinds s)
  declared_listed (Agents xs) h = scope_listed T.Agent xs h
  declared_listed (Kinds xs) h = scope_listed T.Kind xs h
  declared_listed (Template t) h = All-nil (λ p. IsListed names p.0)
  declared_listed (Report q) h = All-nil (λ p. IsListed names p.0)
  declared_listed Clerk h = All-nil (λ p. IsListed names p.0)
  declared_listed Journal h = All-nil (λ p. IsListed names p.0)
  declared_listed (Command r) h = All-nil (λ p. IsListed names p.0)
  declared_listed (Numbered clerk r) h = All-nil (λ p. IsListed names p.0)

  template_listed : (s : Statement) → IsWritten names s → All (λ t. IsListed names t.name) (template_in_statement s)
  template_listed (Template t) h = All-cons (λ t. IsListed names t.name) t [] h.name (All-nil (λ t. IsListed names t.name))
  template_listed (Agents xs) h = All-nil (λ t. IsListed names t.name)
  template_listed (Kinds xs) h = All-nil (λ t. IsListed names t.name)
  template_listed (Report q) h = All-nil (λ t. IsListed names t.name)
  template_listed Clerk h = All-nil (λ t. IsListed names t.name)
  template_listed Journal h = All-nil (λ t. IsListed names t.name)
  template_listed (Command r) h = All-nil (λ t. IsListed names t.name)
  template_listed (Numbered clerk r) h = All-nil (λ t. IsListed names t.name)

  report_listed : (s : Statement) → IsWritten names s → All (λ q. IsListed names q.name) (report_in_statement s)
  report_listed (Report q) h = All-cons (λ q. IsListed names q.name) q [] h.name (All-nil (λ q. IsListed names q.name))
  report_listed (Agents xs) h = All-nil (λ q. IsListed names q.name)
  report_listed (Kinds xs) h = All-nil (λ q. IsListed names q.name)
  report_listed (Template t) h = All-nil (λ q. IsListed names q.name)
  report_listed Clerk h = All-nil (λ q. IsListed names q.name)
  report_listed Journal h = All-nil (λ q. IsListed names q.name)
  report_listed (Command r) h = All-nil (λ q. IsListed names q.name)
  report_listed (Numbered clerk r) h = All-nil (λ q. IsListed names q.name)

  pub book_listed : (declared : List Statement) → All (IsWritten names) declared →
      AreListedNames (book_from declared) (reports_of declared) names
  book_listed declared h x e =
      let scope = all_flat (IsWritten names) (λ (p : Name × Ty). IsListed names p.0) agents_and_kinds declared_listed declared h in
      let templates = all_flat (IsWritten names) (λ (t : plain.Template). IsListed names t.name) template_in_statement template_listed declared h in
      let reports = all_flat (IsWritten names) (λ (q : plain.Report). IsListed names q.name) report_in_statement report_listed declared h in
      by_tests (is_some (declared_by declared x)) (is_some (template_in (book_from declared).templates x))
      (is_among (report_names (reports_of declared)) x) (in_scope (flat_map agents_and_kinds declared) x scope)
      (in_templates (book_from declared).templates x templates) (in_reports (reports_of declared) x reports) e
    where
      by_tests : (a b c : Bool) → (a ≡ true → IsListed names x) → (b ≡ true → IsListed names x) → (c ≡ true → IsListed names x) →
          (a || b || c) ≡ true → IsListed names x
      by_tests true b c f g k e = f refl
      by_tests false true c f g k e = g refl
      by_tests false false true f g k e = k refl
      by_tests false false false f g k e = absurd cc
