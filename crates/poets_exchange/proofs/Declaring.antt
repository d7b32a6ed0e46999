-- The statements of a book declare that book.
use Rattle.std.proofs.Common.{◌≡◌, Bool, true, false, List, [], ◌∷◌, ◌++◌, map, Option, Some, None, ◌⊎◌, inl, inr, refl}
use Rattle.std.proofs.Common.{sym, ap, subst, ◌∙◌, Less, is_eq}
use Rattle.std.specs.Prelude.{All, if◌then◌else◌}
use Rattle.std.specs.List.{AllByRecursion, flat_map}
use Rattle.std.specs.List.Sorted.{IsStrictlySortedBy}
use Rattle.std.specs.Option.{option_or}
use Rattle.std.proofs.lemmas.List.{append-nil}
use Rattle.std.proofs.lemmas.List.Concat.{flat_map-append}
use Rattle.std.proofs.lemmas.List.Elements.{All-head, All-tail}
use Rattle.std.proofs.lemmas.Map.Keys.{sorted_head, sorted_tail}
use Rattle.poets_value.specs.declared.value.Name.{Name}
use Rattle.poets_value.specs.declared.value.Ty.{Ty}
use Rattle.poets_value.specs.declared.value.Ty.TheVariants as T
use Rattle.poets_value.specs.Names.{name_cmp}
use Rattle.poets_expr.specs.Env.{same_name}
use Rattle.poets_expr.proofs.SameTrees.{name_one}
use Rattle.poets_syntax.specs.TypeOf.{Scope}
use Rattle.poets_report.specs.Plain as plain
use Rattle.poets_command.specs.Said.{Statement, Agents, Kinds}
use Rattle.poets_command.specs.Said as said
use Rattle.poets_command.specs.Declarations.{agents_and_kinds, reports_of, report_in_statement, template_in_statement}
use Rattle.poets_types.proofs.Scopes.{type_in_append}
use Rattle.poets_types.proofs.Tables.{same_is_eq}
use Rattle.poets_books.specs.Books.{names_with, declaration}
use Rattle.poets_json.specs.Plain.{Exported}
use Rattle.poets_import.specs.Reading.{declared_in}
use Rattle.poets_exchange.specs.Exportable.{statements_in}
use Rattle.poets_exchange.specs.Laws.{BooksDeclareThemselves}

-- ---- the agents and the kinds among declared names

abbrev with_type : Ty → Scope → Scope
with_type ty ds = map (λ x. (x, ty)) (names_with ty ds)

-- what is declared first as an agent, or else as a kind
abbrev in_parts : Scope → Name → Option Ty
in_parts ds x = option_or (declared_in (with_type T.Agent ds) x) (declared_in (with_type T.Kind ds) x)

abbrev SaysSame : Scope → Name → Type 0
SaysSame ds x = in_parts ds x ≡ declared_in ds x

first_agent :
    (b : Bool) (o p q : Option Ty) → option_or o p ≡ q →
    option_or (if b then Some T.Agent else o) p ≡ (if b then Some T.Agent else q)
first_agent true o p q e = refl
first_agent false o p q e = e

first_kind :
    (b : Bool) (o p q : Option Ty) → (b ≡ true → o ≡ None) → option_or o p ≡ q →
    option_or o (if b then Some T.Kind else p) ≡ (if b then Some T.Kind else q)
first_kind true o p q none e = ap (λ (a : Option Ty). option_or a (Some T.Kind)) (none refl)
first_kind false o p q none e = e

with_agent : (x : Name) (ds : Scope) (y : Name) → SaysSame ds y → SaysSame ((x, T.Agent) ∷ ds) y
with_agent x ds y e =
    first_agent (same_name x y) (declared_in (with_type T.Agent ds) y) (declared_in (with_type T.Kind ds) y)
    (declared_in ds y) e

with_kind :
    (x : Name) (ds : Scope) (y : Name) → (same_name x y ≡ true → declared_in (with_type T.Agent ds) y ≡ None) →
    SaysSame ds y → SaysSame ((x, T.Kind) ∷ ds) y
with_kind x ds y none e =
    first_kind (same_name x y) (declared_in (with_type T.Agent ds) y) (declared_in (with_type T.Kind ds) y)
    (declared_in ds y) none e

-- ---- a name stands once

no_first : (o p : Option Ty) → option_or o p ≡ None → o ≡ None
no_first None p e = refl
no_first (Some t) p e = e

says_other :
    (d : Name × Ty) (ds : Scope) (x : Name) → same_name d.0 x ≡ false → declared_in (d ∷ ds) x ≡ declared_in ds x
says_other d ds x e = rw e refl

-- a name below those of the list is not in it
below :
    (x : Name) (ds : Scope) → AllByRecursion (λ y. name_cmp x y ≡ Less) (map (λ d. d.0) ds) → declared_in ds x ≡ None
below x [] less = refl
below x (d ∷ ds) less = says_other d ds x (same_is_eq d.0 x ∙ ap is_eq less.0) ∙ below x ds less.1

abbrev IsDeclarable : Name × Ty → Type 0
IsDeclarable d = (d.1 ≡ T.Agent) ⊎ (d.1 ≡ T.Kind)

abbrev IsSorted : Scope → Type 0
IsSorted ds = IsStrictlySortedBy name_cmp (map (λ d. d.0) ds)

-- one name more, below all others
one_more :
    (d : Name × Ty) (ds : Scope) (x : Name) → IsDeclarable d → IsSorted (d ∷ ds) → SaysSame ds x → SaysSame (d ∷ ds) x
one_more d ds x type order rest = elim type [
  | inl agent ↦ subst (λ (t : Ty). SaysSame ((d.0, t) ∷ ds) x) (sym agent) (with_agent d.0 ds x rest)
  | inr kind ↦ subst (λ (t : Ty). SaysSame ((d.0, t) ∷ ds) x) (sym kind) (with_kind d.0 ds x none rest)
]
  where
    none : same_name d.0 x ≡ true → declared_in (with_type T.Agent ds) x ≡ None
    none e =
        let absent : declared_in ds d.0 ≡ None = below d.0 ds (sorted_head name_cmp d.0 (map (λ e. e.0) ds) order) in
        no_first (declared_in (with_type T.Agent ds) x) (declared_in (with_type T.Kind ds) x)
        (rest ∙ subst (λ (y : Name). declared_in ds y ≡ None) (name_one d.0 x e) absent)

says_same : (ds : Scope) → All IsDeclarable ds → IsSorted ds → (x : Name) → SaysSame ds x
says_same [] types order x = refl
says_same (d ∷ ds) types order x =
    one_more d ds x (All-head IsDeclarable d ds types) order
    (says_same ds (All-tail IsDeclarable d ds types) (sorted_tail name_cmp d.0 (map (λ e. e.0) ds) order) x)

-- ---- what statements declare

in_four :
    {B : Type 0} (f : Statement → List B) (a b c d : List Statement) →
    flat_map f (a ++ b ++ c ++ d) ≡ flat_map f a ++ flat_map f b ++ flat_map f c ++ flat_map f d
in_four f a b c d =
    flat_map-append f (a ++ b ++ c) d
    ∙ ap (λ l. l ++ flat_map f d)
    (flat_map-append f (a ++ b) c ∙ ap (λ l. l ++ flat_map f c) (flat_map-append f a b))

none_of_each :
    {A B : Type 0} (f : Statement → List B) (g : A → Statement) → ((a : A) → f (g a) ≡ []) → (xs : List A) →
    flat_map f (map g xs) ≡ []
none_of_each f g none [] = refl
none_of_each f g none (x ∷ xs) = λ i. none x i ++ none_of_each f g none xs i

none_of_one :
    {B : Type 0} (f : Statement → List B) (g : List Name → Statement) → ((xs : List Name) → f (g xs) ≡ []) →
    (xs : List Name) → flat_map f (declaration g xs) ≡ []
none_of_one f g none [] = refl
none_of_one f g none (x ∷ xs) = ap (λ l. l ++ []) (none (x ∷ xs))

agents_said : (xs : List Name) → flat_map agents_and_kinds (declaration Agents xs) ≡ map (λ x. (x, T.Agent)) xs
agents_said [] = refl
agents_said (x ∷ xs) = append-nil (map (λ y. (y, T.Agent)) (x ∷ xs))

kinds_said : (xs : List Name) → flat_map agents_and_kinds (declaration Kinds xs) ≡ map (λ x. (x, T.Kind)) xs
kinds_said [] = refl
kinds_said (x ∷ xs) = append-nil (map (λ y. (y, T.Kind)) (x ∷ xs))

templates_said : (ts : List plain.Template) → flat_map template_in_statement (map said.Template ts) ≡ ts
templates_said [] = refl
templates_said (t ∷ ts) = ap (λ l. t ∷ l) (templates_said ts)

reports_said : (qs : List plain.Report) → flat_map report_in_statement (map said.Report qs) ≡ qs
reports_said [] = refl
reports_said (q ∷ qs) = ap (λ l. q ∷ l) (reports_said qs)

module _ (x : Exported) where
  abbrev agents : List Statement
  agents = declaration Agents (names_with T.Agent x.declared)

  abbrev kinds : List Statement
  kinds = declaration Kinds (names_with T.Kind x.declared)

  scope_said :
      flat_map agents_and_kinds (statements_in x) ≡ with_type T.Agent x.declared ++ with_type T.Kind x.declared
  scope_said =
      let names = with_type T.Agent x.declared ++ with_type T.Kind x.declared in
      in_four agents_and_kinds agents kinds (map said.Template x.templates) (map said.Report x.reports)
      ∙ (λ i. agents_said (names_with T.Agent x.declared) i ++ kinds_said (names_with T.Kind x.declared) i
      ++ none_of_each agents_and_kinds said.Template (λ _. refl) x.templates i
      ++ none_of_each agents_and_kinds said.Report (λ _. refl) x.reports i)
      ∙ append-nil (names ++ []) ∙ append-nil names

  their_templates : flat_map template_in_statement (statements_in x) ≡ x.templates
  their_templates =
      in_four template_in_statement agents kinds (map said.Template x.templates) (map said.Report x.reports)
      ∙ (λ i. none_of_one template_in_statement Agents (λ _. refl) (names_with T.Agent x.declared) i
      ++ none_of_one template_in_statement Kinds (λ _. refl) (names_with T.Kind x.declared) i
      ++ templates_said x.templates i
      ++ none_of_each template_in_statement said.Report (λ _. refl) x.reports i)
      ∙ append-nil x.templates

  their_reports : reports_of (statements_in x) ≡ x.reports
  their_reports =
      in_four report_in_statement agents kinds (map said.Template x.templates) (map said.Report x.reports)
      ∙ (λ i. none_of_one report_in_statement Agents (λ _. refl) (names_with T.Agent x.declared) i
      ++ none_of_one report_in_statement Kinds (λ _. refl) (names_with T.Kind x.declared) i
      ++ none_of_each report_in_statement said.Template (λ _. refl) x.templates i
      ++ reports_said x.reports i)

pub books_declare_themselves : BooksDeclareThemselves
books_declare_themselves names x can = record {
  names = λ name.
      ap (λ (scope : Scope). declared_in scope name) (scope_said x)
      ∙ type_in_append (λ _. None) (with_type T.Agent x.declared) (with_type T.Kind x.declared) name
      ∙ says_same x.declared can.declared.types can.declared.order name;
  templates = their_templates x;
  reports = their_reports x;
}
