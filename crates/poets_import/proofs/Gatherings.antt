-- What statements declare, one after the other.
use Rattle.std.proofs.Common.{◌≡◌, List, [], ◌∷◌, ◌++◌, map, Option, None, sym, ap, subst, ◌∙◌}
use Rattle.std.specs.List.{flat_map}
use Rattle.std.specs.Option.{option_or}
use Rattle.std.proofs.lemmas.Grind.{flat_map-append}
use Rattle.std.proofs.lemmas.List.{append-nil}
use Rattle.poets_value.specs.declared.value.Name.{Name}
use Rattle.poets_value.specs.declared.value.Ty.{Ty}
use Rattle.poets_report.specs.Plain.{Template, Report}
use Rattle.poets_expr.specs.declared.env.Decls.{Decls}
use Rattle.poets_syntax.specs.Book.{template_of}
use Rattle.poets_report.specs.Reports.{report_of}
use Rattle.poets_syntax.specs.TypeOf.{Scope, type_in}
use Rattle.poets_command.specs.Said.{Statement}
use Rattle.poets_command.specs.Declarations.{agents_and_kinds, declared_by, report_in_statement, template_in_statement}
use Rattle.poets_types.proofs.Scopes.{type_in_append}
use Rattle.poets_import.specs.code.Gathering.{Adds, Declares, IsDeclaredBy}
use Rattle.poets_import.specs.declared.book.Declared.{Declared}

flat_map_push : {A : Type 0} (f : Statement → List A) (ss : List Statement) (s : Statement) → flat_map f (ss ++ s ∷ []) ≡ flat_map f ss ++ f s
flat_map_push f ss s = flat_map-append f ss (s ∷ []) ∙ ap (λ ys. flat_map f ss ++ ys) (append-nil (f s))

declared_push :
    (ss : List Statement) (s : Statement) (x : Name) →
    declared_by (ss ++ s ∷ []) x ≡ option_or (declared_by ss x) (type_in (λ _. None) (agents_and_kinds s) x)
declared_push ss s x =
    ap (λ (scope : Scope). type_in (λ _. None) scope x) (flat_map_push agents_and_kinds ss s)
    ∙ type_in_append (λ _. None) (flat_map agents_and_kinds ss) (agents_and_kinds s) x

-- one statement more
pub declared_more :
    (ss : List Statement) (s : Statement) (old new : Declared) → IsDeclaredBy ss old → Adds s old new →
    IsDeclaredBy (ss ++ s ∷ []) new
declared_more ss s old new are adds = record {
  names = λ x.
      adds.names.names x ∙ ap (λ (o : Option Ty). option_or o (type_in (λ _. None) (agents_and_kinds s) x)) (are.names x)
      ∙ sym (declared_push ss s x);
  order = adds.names.order are.order;
  templates =
      adds.templates ∙ ap (λ (ts : List Template). ts ++ template_in_statement s) are.templates
      ∙ sym (flat_map_push template_in_statement ss s);
  reports =
      adds.reports ∙ ap (λ (qs : List Report). qs ++ report_in_statement s) are.reports
      ∙ sym (flat_map_push report_in_statement ss s);
}

-- a statement that declares names alone
pub adds_names :
    (s : Statement) (types : Scope) (old : Declared) (decls : Decls) → agents_and_kinds s ≡ types →
    template_in_statement s ≡ [] → report_in_statement s ≡ [] → Declares types old.book.decls decls →
    Adds s old (record { book = record { decls = decls; templates = old.book.templates }; reports = old.reports })
adds_names s types old decls e no_template no_report names = record {
  names = subst (λ (scope : Scope). Declares scope old.book.decls decls) (sym e) names;
  templates = rw no_template (sym (append-nil (map template_of old.book.templates.items)));
  reports = rw no_report (sym (append-nil (map report_of old.reports.items)));
}
