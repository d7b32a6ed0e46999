-- What statements declare, one by one.
use Rattle.std.proofs.Common.{◌≡◌, ℕ, ◌+◌, ◌<◌, List, [], ◌∷◌, ◌++◌, length, take, get_or, map, Option, Some, None, refl, ap, ◌∙◌}
use Rattle.std.specs.Prelude.{if◌then◌else◌}
use Rattle.std.specs.Option.{option_or}
use Rattle.std.specs.List.{flat_map}
use Rattle.std.proofs.Math.Path.{fun_ext}
use Rattle.std.proofs.lemmas.Grind.{flat_map-append}
use Rattle.std.proofs.lemmas.List.{append-nil, map-append, take_more}
use Rattle.poets_value.specs.declared.value.Name.{Name}
use Rattle.poets_value.specs.declared.value.Ty.{Ty}
use Rattle.poets_expr.specs.Env.{Declared, same_name}
use Rattle.poets_syntax.specs.Plain.{Template, Book}
use Rattle.poets_syntax.specs.TypeOf.{Scope, type_in}
use Rattle.poets_command.specs.declared.statement.Statement.{Statement}
use Rattle.poets_command.specs.Statements.{statement_of, statements_of}
use Rattle.poets_command.specs.Declarations.{agents_and_kinds, declared_by}
use Rattle.poets_command.specs.Said as said
use Rattle.poets_types.proofs.Scopes.{type_in_append}
use Rattle.poets_types.proofs.Twice.{statements_more}

pub option_or_assoc : {A : Type 0} (a b c : Option A) → option_or (option_or a b) c ≡ option_or a (option_or b c)
option_or_assoc None b c = refl
option_or_assoc (Some a) b c = refl

-- one more name
pub type_in_named : (names : List Name) (i : ℕ) (d : Name) (ty : Ty) (x : Name) → i < length names →
    type_in (λ _. None) (map (λ y. (y, ty)) (take (i + 1) names)) x
    ≡ option_or (type_in (λ _. None) (map (λ y. (y, ty)) (take i names)) x) (if same_name (get_or names i d) x then Some ty else None)
type_in_named names i d ty x l =
    ap (λ (ns : List Name). type_in (λ _. None) (map (λ y. (y, ty)) ns) x) (take_more names i d l)
    ∙ ap (λ (s : Scope). type_in (λ _. None) s x) (map-append (λ (y : Name). (y, ty)) (take i names) (get_or names i d ∷ []))
    ∙ type_in_append (λ _. None) (map (λ y. (y, ty)) (take i names)) ((get_or names i d, ty) ∷ []) x

-- one more statement
pub flat_map-more : {A : Type 0} (f : said.Statement → List A) (statements : List Statement) (i : ℕ) (s : Statement) → i < length statements → s ≡ get_or statements i s →
    flat_map f (statements_of (take (i + 1) statements)) ≡ flat_map f (statements_of (take i statements)) ++ f (statement_of s)
flat_map-more f statements i s l e =
    ap (λ (ss : List said.Statement). flat_map f ss) (statements_more statements i s l e)
    ∙ flat_map-append f (statements_of (take i statements)) (statement_of s ∷ [])
    ∙ ap (λ ys. flat_map f (statements_of (take i statements)) ++ ys) (append-nil (f (statement_of s)))

pub declared_by-more : (statements : List Statement) (i : ℕ) (s : Statement) (x : Name) → i < length statements → s ≡ get_or statements i s →
    declared_by (statements_of (take (i + 1) statements)) x ≡ option_or (declared_by (statements_of (take i statements)) x) (type_in (λ _. None) (agents_and_kinds (statement_of s)) x)
declared_by-more statements i s x l e =
    ap (λ (scope : Scope). type_in (λ _. None) scope x) (flat_map-more agents_and_kinds statements i s l e)
    ∙ type_in_append (λ _. None) (flat_map agents_and_kinds (statements_of (take i statements))) (agents_and_kinds (statement_of s)) x

-- definitions with the same declared names and templates
pub same_books : (a b : Book) → ((x : Name) → a.declared x ≡ b.declared x) → a.templates ≡ b.templates → a ≡ b
same_books a b e f =
    ap (λ (d : Declared). record { declared = d; templates = a.templates }) (fun_ext e)
    ∙ ap (λ (ts : List Template). record { declared = b.declared; templates = ts }) f
