-- Statements without a fault give a checked book.
use Rattle.std.proofs.Common.{◌≡◌, ◌⊎◌, inl, inr, ℕ, ◌+◌, Bool, true, false, List, [], ◌∷◌, ◌++◌, map, All, Option, Some, None, refl, sym, ◌∙◌, subst}
use Rattle.std.specs.Prelude.{◌||◌, if◌then◌else◌}
use Rattle.std.specs.List.{flat_map, IsDistinct}
use Rattle.std.specs.List.Sorted.{IsPermutation}
use Rattle.std.proofs.lemmas.Bool.{or_right}
use Rattle.std.proofs.lemmas.List.Elements.{All-nil, All-cons, All-weaker, recursion_from_All}
use Rattle.std.proofs.lemmas.List.Folds.{list_any-append}
use Rattle.std.proofs.lemmas.List.Sorted.{All-permutation, IsPermutation-middle, IsPermutation-sym}
use Rattle.std.proofs.lemmas.Map.Keys.{IsDistinct-cons, IsDistinct-IsPermutation}
use Rattle.std.proofs.lemmas.Map.Steps.{list_any_congr}
use Rattle.poets_value.specs.declared.value.Name.{Name}
use Rattle.poets_value.specs.declared.value.Ty.{Ty}
use Rattle.poets_value.specs.declared.value.Ty.TheVariants as T
use Rattle.poets_expr.specs.Env.{Declared, same_name}
use Rattle.poets_syntax.specs.Plain.{Book, Twice}
use Rattle.poets_syntax.specs.Book.{template_in}
use Rattle.poets_syntax.specs.Checked.{IsCheckedBook, names_of_templates_and}
use Rattle.poets_syntax.specs.TypeOf.{Verdict, Passes, Fails, Scope, type_in}
use Rattle.poets_syntax.specs.Typed.{is_among, in_use, check_new, check_contract, scope_of}
use Rattle.poets_syntax.specs.code.Passing.{TemplatePasses}
use Rattle.poets_command.specs.Said.{Statement, Agents, Kinds, Template, Report, Clerk, Journal, Command, Numbered}
use Rattle.poets_command.specs.Declarations.{agents_and_kinds, declared_by, template_in_statement, book_from, reports_of}
use Rattle.poets_command.specs.Plain.{TypeFault}
use Rattle.poets_command.specs.TypedStatements.{report_names, check_template, check_statement, or_else, twice_from, mistyped_from}
use Rattle.poets_syntax.proofs.TypedGivens.{neither}
use Rattle.poets_syntax.proofs.Typedness.{passed}
use Rattle.poets_syntax.proofs.TypingRules.{book_typed}
use Rattle.poets_types.proofs.Scopes.{same_name_laws}
use Rattle.poets_report.specs.Plain as plain

-- no fault at a statement, and none after it
pub or_else-none : (check : Verdict (Unit {0})) (n : ℕ) (others : TypeFault) → or_else check n others ≡ None → (check ≡ Passes tt) × (others ≡ None)
or_else-none (Passes _) n others e = (refl, e)
or_else-none (Fails f) n others e = absurd cc

-- the first name is new, and the others pass
pub check_new-cons : (used : Name → Bool) (seen : List Name) (x : Name) (names : List Name) →
    check_new used seen (x ∷ names) ≡ Passes tt → (used x ≡ false) × (check_new used (x ∷ seen) names ≡ Passes tt)
check_new-cons used seen x names e = by_test (used x) (is_among seen x) (check_new used (x ∷ seen) names) e
  where
    by_test : (a b : Bool) (next : Verdict (Unit {0})) → (if a || b then Fails (Twice x) else next) ≡ Passes tt → (a ≡ false) × (next ≡ Passes tt)
    by_test true b next e = absurd cc
    by_test false true next e = absurd cc
    by_test false false next e = (refl, e)

pub check_new-one : (used : Name → Bool) (x : Name) → check_new used [] (x ∷ []) ≡ Passes tt → used x ≡ false
check_new-one used x e = (check_new-cons used [] x [] e).0

-- ---- templates are typed

found_here : {A : Type 0} (P : A → Type 0) (b : Bool) (t u : A) (o : Option A) → (if b then Some t else o) ≡ Some u → P t → (o ≡ Some u → P u) → P u
found_here P true t u o e here later = let same : t ≡ u = cc in subst P same here
found_here P false t u o e here later = later e

typed_from : (book : Book) (reports : List plain.Report) (n : ℕ) (statements : List Statement) → mistyped_from n book reports statements ≡ None →
    (f : Name) (t : plain.Template) → template_in (flat_map template_in_statement statements) f ≡ Some t → TemplatePasses book (report_names reports) t
typed_from book reports n [] e f t h = absurd cc
typed_from book reports n (Template u ∷ statements) e f t h =
    let parts = or_else-none (check_template book (report_names reports) u) n (mistyped_from (n + 1) book reports statements) e in
    let typed = passed (check_new (in_use book (report_names reports)) [] (map (λ p. p.name) u.params)) (λ _. check_contract book (report_names reports) (scope_of u.params) u.body) tt parts.0 in
    found_here (TemplatePasses book (report_names reports)) (same_name u.name f) u t (template_in (flat_map template_in_statement statements) f) h (typed.1, typed.2) (typed_from book reports (n + 1) statements parts.1 f t)
typed_from book reports n (Agents names ∷ statements) e f t h = typed_from book reports (n + 1) statements e f t h
typed_from book reports n (Kinds names ∷ statements) e f t h = typed_from book reports (n + 1) statements e f t h
typed_from book reports n (Clerk ∷ statements) e f t h = typed_from book reports (n + 1) statements e f t h
typed_from book reports n (Journal ∷ statements) e f t h = typed_from book reports (n + 1) statements e f t h
typed_from book reports n (Report q ∷ statements) e f t h =
    typed_from book reports (n + 1) statements (or_else-none (check_statement book reports (Report q)) n (mistyped_from (n + 1) book reports statements) e).1 f t h
typed_from book reports n (Command r ∷ statements) e f t h =
    typed_from book reports (n + 1) statements (or_else-none (check_statement book reports (Command r)) n (mistyped_from (n + 1) book reports statements) e).1 f t h
typed_from book reports n (Numbered c r ∷ statements) e f t h =
    typed_from book reports (n + 1) statements (or_else-none (check_statement book reports (Numbered c r)) n (mistyped_from (n + 1) book reports statements) e).1 f t h

-- ---- what is declared beside them

-- a property of the type of a name among these, and of that among the others
declared_among : (P : Ty → Type 0) (s : Ty) (names : List Name) (others : Scope) (x : Name) (t : Ty) → type_in (λ _. None) (map (λ y. (y, s)) names ++ others) x ≡ Some t →
    P s → (type_in (λ _. None) others x ≡ Some t → P t) → P t
declared_among P s [] others x t e here later = later e
declared_among P s (y ∷ names) others x t e here later = found_here P (same_name y x) s t _ e here (λ f. declared_among P s names others x t f here later)

agent_or_kind : (statements : List Statement) (x : Name) (t : Ty) → declared_by statements x ≡ Some t → (t ≡ T.Agent) ⊎ (t ≡ T.Kind)
agent_or_kind [] x t e = absurd cc
agent_or_kind (Agents names ∷ statements) x t e = declared_among (λ u. (u ≡ T.Agent) ⊎ (u ≡ T.Kind)) T.Agent names (flat_map agents_and_kinds statements) x t e (inl refl) (agent_or_kind statements x t)
agent_or_kind (Kinds names ∷ statements) x t e = declared_among (λ u. (u ≡ T.Agent) ⊎ (u ≡ T.Kind)) T.Kind names (flat_map agents_and_kinds statements) x t e (inr refl) (agent_or_kind statements x t)
agent_or_kind (Template u ∷ statements) x t e = agent_or_kind statements x t e
agent_or_kind (Report q ∷ statements) x t e = agent_or_kind statements x t e
agent_or_kind (Clerk ∷ statements) x t e = agent_or_kind statements x t e
agent_or_kind (Journal ∷ statements) x t e = agent_or_kind statements x t e
agent_or_kind (Command r ∷ statements) x t e = agent_or_kind statements x t e
agent_or_kind (Numbered c r ∷ statements) x t e = agent_or_kind statements x t e

-- ---- their names stand once, and nothing else has them

-- the name stands neither among earlier ones nor among the declared ones
IsFree : (earlier : List Name) → Declared → Name → Type 0
IsFree earlier declared x = (is_among earlier x ≡ false) × (declared x ≡ None)

-- names that are apart and free, where no earlier name is declared
record AreNew (earlier : List Name) (declared : Declared) (names : List Name) : Type 0 where
  apart : IsDistinct same_name names
  free : All (IsFree earlier declared) names
  undeclared : (x : Name) → is_among earlier x ≡ true → declared x ≡ None

one_more : (earlier : List Name) (declared : Declared) (x : Name) (names : List Name) → is_among earlier x ≡ false → AreNew (x ∷ earlier) declared names → AreNew earlier declared (x ∷ names)
unfolding IsFree
one_more earlier declared x names e h = record {
  apart =
      IsDistinct-cons same_name x names
      (recursion_from_All (λ y. same_name x y ≡ false) names
      (All-weaker (IsFree (x ∷ earlier) declared) (λ y. same_name x y ≡ false) (λ y f. same_name_laws.symm x y ∙ (neither (same_name y x) (is_among earlier y) f.0).0) names h.free)) h.apart;
  free =
      All-cons (IsFree earlier declared) x names (e, h.undeclared x (rw (same_name_laws.refl x) refl))
      (All-weaker (IsFree (x ∷ earlier) declared) (IsFree earlier declared) (λ y f. ((neither (same_name y x) (is_among earlier y) f.0).1, f.1)) names h.free);
  undeclared = λ y among. h.undeclared y (or_right (same_name y x) (is_among earlier y) among);
}

AreNew-IsPermutation : (earlier : List Name) (declared : Declared) (xs ys : List Name) → IsPermutation xs ys → AreNew earlier declared xs → AreNew earlier declared ys
AreNew-IsPermutation earlier declared xs ys p h = record {
  apart = IsDistinct-IsPermutation same_name same_name_laws.symm xs ys p h.apart;
  free = All-permutation (IsFree earlier declared) xs ys p h.free;
  undeclared = h.undeclared;
}

-- names that pass are not among those in use
not_among : (earlier seen names : List Name) (x : Name) → check_new (is_among earlier) seen names ≡ Passes tt → is_among earlier x ≡ true → is_among names x ≡ false
not_among earlier seen [] x e among = refl
not_among earlier seen (y ∷ names) x e among =
    let parts = check_new-cons (is_among earlier) seen y names e in
    rw (differ (same_name x y) refl parts.0) (not_among earlier (y ∷ seen) names x parts.1 among)
  where
    differ : (b : Bool) → same_name x y ≡ b → is_among earlier y ≡ false → b ≡ false
    differ false s n = refl
    differ true s n = let same = list_any_congr same_name_laws x y earlier s in absurd cc

-- a name that stands not among these has its type from the others
type_in-other : (t : Ty) (names : List Name) (others : Scope) (x : Name) → is_among names x ≡ false → type_in (λ _. None) (map (λ y. (y, t)) names ++ others) x ≡ type_in (λ _. None) others x
type_in-other t [] others x e = refl
type_in-other t (y ∷ names) others x e =
    let parts = neither (same_name x y) (is_among names x) e in
    rw (same_name_laws.symm y x, parts.0) (type_in-other t names others x parts.1)

-- the names of agents or kinds that pass
more_declared : (earlier : List Name) (others : Scope) (t : Ty) (declared names : List Name) → check_new (is_among earlier) [] declared ≡ Passes tt →
    AreNew (declared ++ earlier) (type_in (λ _. None) others) names → AreNew earlier (type_in (λ _. None) (map (λ y. (y, t)) declared ++ others)) names
unfolding IsFree
more_declared earlier others t declared names e h =
    let among = λ (x : Name). list_any-append (same_name x) declared earlier in
    record {
      apart = h.apart;
      free =
          All-weaker (IsFree (declared ++ earlier) (type_in (λ _. None) others)) (IsFree earlier (type_in (λ _. None) (map (λ y. (y, t)) declared ++ others)))
          (λ x f.
          let parts = neither (is_among declared x) (is_among earlier x) (sym (among x) ∙ f.0) in
          (parts.1, type_in-other t declared others x parts.0 ∙ f.1))
          names h.free;
      undeclared = λ x a.
          type_in-other t declared others x (not_among earlier [] declared x e a)
          ∙ h.undeclared x (among x ∙ or_right (is_among declared x) (is_among earlier x) a);
    }

-- the names of the templates and of the reports
template_and_report_names : List Statement → List Name
template_and_report_names statements = names_of_templates_and (book_from statements) (report_names (reports_of statements))

names_new : (n : ℕ) (earlier : List Name) (statements : List Statement) → twice_from n earlier statements ≡ None → AreNew earlier (declared_by statements) (template_and_report_names statements)
unfolding template_and_report_names IsDistinct
names_new n earlier [] e = record { apart = tt; free = All-nil (IsFree earlier (declared_by [])); undeclared = λ x among. refl }
names_new n earlier (Template t ∷ statements) e =
    let parts = or_else-none (check_new (is_among earlier) [] (t.name ∷ [])) n (twice_from (n + 1) (t.name ∷ earlier) statements) e in
    one_more earlier (declared_by statements) t.name (template_and_report_names statements) (check_new-one (is_among earlier) t.name parts.0) (names_new (n + 1) (t.name ∷ earlier) statements parts.1)
names_new n earlier (Report q ∷ statements) e =
    let parts = or_else-none (check_new (is_among earlier) [] (q.name ∷ [])) n (twice_from (n + 1) (q.name ∷ earlier) statements) e in
    let templates = map (λ (t : plain.Template). t.name) (flat_map template_in_statement statements) in
    let reports = report_names (reports_of statements) in
    AreNew-IsPermutation earlier (declared_by statements) (q.name ∷ (templates ++ reports)) (templates ++ q.name ∷ reports)
    (IsPermutation-sym (templates ++ q.name ∷ reports) (q.name ∷ (templates ++ reports)) (IsPermutation-middle templates q.name reports))
    (one_more earlier (declared_by statements) q.name (template_and_report_names statements) (check_new-one (is_among earlier) q.name parts.0) (names_new (n + 1) (q.name ∷ earlier) statements parts.1))
names_new n earlier (Agents names ∷ statements) e =
    let parts = or_else-none (check_new (is_among earlier) [] names) n (twice_from (n + 1) (names ++ earlier) statements) e in
    more_declared earlier (flat_map agents_and_kinds statements) T.Agent names (template_and_report_names statements) parts.0 (names_new (n + 1) (names ++ earlier) statements parts.1)
names_new n earlier (Kinds names ∷ statements) e =
    let parts = or_else-none (check_new (is_among earlier) [] names) n (twice_from (n + 1) (names ++ earlier) statements) e in
    more_declared earlier (flat_map agents_and_kinds statements) T.Kind names (template_and_report_names statements) parts.0 (names_new (n + 1) (names ++ earlier) statements parts.1)
names_new n earlier (Clerk ∷ statements) e = names_new (n + 1) earlier statements e
names_new n earlier (Journal ∷ statements) e = names_new (n + 1) earlier statements e
names_new n earlier (Command r ∷ statements) e = names_new (n + 1) earlier statements e
names_new n earlier (Numbered c r ∷ statements) e = names_new (n + 1) earlier statements e

pub IsCheckedBook-none : (statements : List Statement) (book : Book) (reports : List plain.Report) → twice_from 1 [] statements ≡ None → mistyped_from 1 book reports statements ≡ None →
    book ≡ book_from statements → reports ≡ reports_of statements → IsCheckedBook book (report_names reports)
unfolding template_and_report_names IsFree
IsCheckedBook-none statements book reports twice mistyped b r =
    let new = names_new 1 [] statements twice in
    let names = template_and_report_names statements in
    rw (b, r) (record {
      typed = book_typed (book_from statements) (report_names (reports_of statements)) (typed_from (book_from statements) (reports_of statements) 1 statements (rw (b, r) at mistyped));
      distinct = new.apart;
      undeclared = All-weaker (IsFree [] (declared_by statements)) (λ f. declared_by statements f ≡ None) (λ x f. f.1) names new.free;
      agent_or_kind = agent_or_kind statements;
    })
