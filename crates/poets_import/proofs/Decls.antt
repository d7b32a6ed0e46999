-- Declared names as a table and as a list.
use Rattle.std.proofs.Common.{◌≡◌, Bool, true, false, cond, List, [], ◌∷◌, map, Option, Some, None, ◌⊎◌, inl, inr, refl, sym, ap, subst, ◌∙◌, arith, Ordering, Less, Equal, Greater, is_eq}
use Rattle.std.specs.Prelude.{All, if◌then◌else◌}
use Rattle.std.specs.BTreeMap.{BTreeMap, is_at}
use Rattle.std.specs.List.{AllByRecursion, flat_map}
use Rattle.std.specs.List.Sorted.{IsStrictlySortedBy}
use Rattle.std.specs.Map.{lookup}
use Rattle.std.specs.Option.{option_or}
use Rattle.std.specs.Ordering.{ordering_reverse}
use Rattle.std.proofs.lemmas.Cmp.{nat_cmp_total, on_total}
use Rattle.std.proofs.lemmas.Bool.Decides.{nat_tests}
use Rattle.std.proofs.lemmas.List.Elements.{All-nil, All-cons}
use Rattle.std.proofs.lemmas.Map.Keys.{sorted_head, sorted_tail}
use Rattle.std.proofs.lemmas.Map.Lookups.{exact_unsigned}
use Rattle.std.specs.Cmp.{IsTotalOrder}
use Rattle.poets_value.specs.declared.value.Name.{Name}
use Rattle.poets_value.specs.declared.value.Ty.{Ty}
use Rattle.poets_value.specs.declared.value.Ty.TheVariants as T
use Rattle.poets_value.specs.Names.{name_cmp}
use Rattle.poets_expr.specs.Env.{declared_of, same_name}
use Rattle.poets_command.specs.Said.{Statement, Agents, Kinds}
use Rattle.poets_command.specs.Said as said
use Rattle.poets_command.specs.Declarations.{agents_and_kinds, declared_by}
use Rattle.poets_types.proofs.Scopes.{type_in_append}
use Rattle.poets_types.proofs.Tables.{same_is_eq}
use Rattle.poets_import.specs.Reading.{AreDeclared, declared_in}

name_total : IsTotalOrder name_cmp
name_total = on_total (λ (n : Name). n.id) nat_cmp_total

abbrev pub Declarations : Type 0
Declarations = List (Name × Ty)

abbrev pub names_of : Declarations → List Name
names_of ds = map (λ d. d.0) ds

abbrev pub IsSorted : Declarations → Type 0
IsSorted ds = IsStrictlySortedBy name_cmp (names_of ds)

-- ---- what a list says of a name

first_is : (b : Bool) (t : Ty) (o p : Option Ty) → o ≡ p → cond b (Some t) o ≡ (if b then Some t else p)
first_is true t o p e = refl
first_is false t o p e = e

pub looked_up : (ds : Declarations) (x : Name) → lookup (is_at (name_cmp x)) ds ≡ declared_in ds x
looked_up [] x = refl
looked_up (d ∷ ds) x = rw (same_is_eq d.0 x) (first_is (is_eq (name_cmp x d.0)) d.1 (lookup (is_at (name_cmp x)) ds) (declared_in ds x) (looked_up ds x))

pub table_says : (table : BTreeMap Name Ty) (x : Name) → declared_of table x ≡ declared_in table.entries x
table_says table x = looked_up table.entries x

says_first : (d : Name × Ty) (ds : Declarations) (x : Name) → same_name d.0 x ≡ true → declared_in (d ∷ ds) x ≡ Some d.1
says_first d ds x e = rw e refl

says_other : (d : Name × Ty) (ds : Declarations) (x : Name) → same_name d.0 x ≡ false → declared_in (d ∷ ds) x ≡ declared_in ds x
says_other d ds x e = rw e refl

same_by : (x y : Name) (o : Ordering) → name_cmp x y ≡ o → same_name y x ≡ is_eq o
same_by x y o e = same_is_eq y x ∙ ap is_eq e

-- a name below those of the list is not in it
below : (x : Name) (ds : Declarations) → AllByRecursion (λ y. name_cmp x y ≡ Less) (names_of ds) → declared_in ds x ≡ None
below x [] less = refl
below x (d ∷ ds) less = says_other d ds x (same_by x d.0 Less less.0) ∙ below x ds less.1

all_below : (x y : Name) (zs : List Name) → name_cmp x y ≡ Less → AllByRecursion (λ z. name_cmp y z ≡ Less) zs → AllByRecursion (λ z. name_cmp x z ≡ Less) zs
all_below x y [] e less = tt
all_below x y (z ∷ zs) e less = (name_total.trans x y z e less.0, all_below x y zs e less.1)

same_ids : (x y : Name) → name_cmp x y ≡ Equal → x ≡ y
same_ids x y e = let i : x.id ≡ y.id = exact_unsigned x.id y.id e in λ k. record { id = i k }

-- names that are the same by test
named_same : (x y : Name) → same_name x y ≡ true → x ≡ y
named_same x y e = let i : x.id ≡ y.id = grind (arith, nat_tests, e) in λ k. record { id = i k }

itself_same : (x : Name) → same_name x x ≡ true
itself_same x = grind (arith, nat_tests)

not_there : (t : Ty) → Some t ≡ None → ⊥
not_there t e = absurd cc

same_some : (s t : Ty) → Some s ≡ Some t → s ≡ t
same_some s t e = cc

abbrev pub Says : (ds es : Declarations) → Type 0
Says ds es = (x : Name) → declared_in ds x ≡ declared_in es x

same_pair : (d e : Name × Ty) (ds es : Declarations) → d.0 ≡ e.0 → d.1 ≡ e.1 → ds ≡ es → d ∷ ds ≡ e ∷ es
same_pair d e ds es n t r i = (n i, t i) ∷ r i

-- a list that has a name below all others says it, and the other does not
head_missing : (d : Name × Ty) (ds es : Declarations) → Says (d ∷ ds) es → AllByRecursion (λ y. name_cmp d.0 y ≡ Less) (names_of es) → ⊥
head_missing d ds es says less = not_there d.1 (sym (says_first d ds d.0 (itself_same d.0)) ∙ says d.0 ∙ below d.0 es less)

same_tails :
    (d e : Name × Ty) (ds es : Declarations) → d.0 ≡ e.0 → IsSorted (d ∷ ds) → IsSorted (e ∷ es) → Says (d ∷ ds) (e ∷ es) → Says ds es
same_tails d e ds es n s t says x = by_test (same_name d.0 x) refl
  where
    less_e : AllByRecursion (λ y. name_cmp d.0 y ≡ Less) (names_of es)
    less_e = subst (λ (y : Name). AllByRecursion (λ z. name_cmp y z ≡ Less) (names_of es)) (sym n) (sorted_head name_cmp e.0 (names_of es) t)

    at_name : (b : Bool) → same_name d.0 x ≡ b → same_name e.0 x ≡ b
    at_name b h = subst (λ (y : Name). same_name y x ≡ b) n h

    by_test : (b : Bool) → same_name d.0 x ≡ b → declared_in ds x ≡ declared_in es x
    by_test true h =
        let y : d.0 ≡ x = named_same d.0 x h in
        subst (λ (z : Name). declared_in ds z ≡ declared_in es z) y
        (below d.0 ds (sorted_head name_cmp d.0 (names_of ds) s) ∙ sym (below d.0 es less_e))
    by_test false h = sym (says_other d ds x h) ∙ says x ∙ says_other e es x (at_name false h)

-- the first names are the same, and so are the rests
one_pair :
    (d e : Name × Ty) (ds es : Declarations) → IsSorted (d ∷ ds) → IsSorted (e ∷ es) → Says (d ∷ ds) (e ∷ es) →
    (o : Ordering) → name_cmp d.0 e.0 ≡ o → (Says ds es → ds ≡ es) → d ∷ ds ≡ e ∷ es
one_pair d e ds es s t says Less h rest =
    absurd (head_missing d ds (e ∷ es) says (h, all_below d.0 e.0 (names_of es) h (sorted_head name_cmp e.0 (names_of es) t)))
one_pair d e ds es s t says Equal h rest =
    let n = same_ids d.0 e.0 h in
    let first = same_some d.1 e.1 (sym (says_first d ds d.0 (itself_same d.0)) ∙ says d.0
    ∙ says_first e es d.0 (subst (λ (y : Name). same_name y d.0 ≡ true) n (itself_same d.0))) in
    same_pair d e ds es n first (rest (same_tails d e ds es n s t says))
one_pair d e ds es s t says Greater h rest =
    let less : name_cmp e.0 d.0 ≡ Less = name_total.antisymm e.0 d.0 ∙ ap ordering_reverse h in
    absurd (head_missing e es (d ∷ ds) (λ x. sym (says x)) (less, all_below e.0 d.0 (names_of ds) less (sorted_head name_cmp d.0 (names_of ds) s)))

-- two lists in order that say the same are the same
pub one_list_says : (ds es : Declarations) → IsSorted ds → IsSorted es → Says ds es → ds ≡ es
one_list_says [] [] s t says = refl
one_list_says [] (e ∷ es) s t says = absurd (not_there e.1 (sym (says_first e es e.0 (itself_same e.0)) ∙ sym (says e.0)))
one_list_says (d ∷ ds) [] s t says = absurd (not_there d.1 (sym (says_first d ds d.0 (itself_same d.0)) ∙ says d.0))
one_list_says (d ∷ ds) (e ∷ es) s t says =
    one_pair d e ds es s t says (name_cmp d.0 e.0) refl
    (one_list_says ds es (sorted_tail name_cmp d.0 (names_of ds) s) (sorted_tail name_cmp e.0 (names_of es) t))

-- ---- the types that statements declare

abbrev IsDeclarable : Ty → Type 0
IsDeclarable t = (t ≡ T.Agent) ⊎ (t ≡ T.Kind)

first_type :
    (b : Bool) (ty t : Ty) (rest : Option Ty) → IsDeclarable ty → (rest ≡ Some t → IsDeclarable t) →
    (if b then Some ty else rest) ≡ Some t → IsDeclarable t
first_type true ty t rest is later e = subst IsDeclarable (same_some ty t e) is
first_type false ty t rest is later e = later e

named_types :
    (ty : Ty) → IsDeclarable ty → (xs : List Name) (x : Name) (t : Ty) → declared_in (map (λ y. (y, ty)) xs) x ≡ Some t →
    IsDeclarable t
named_types ty is [] x t e = absurd (not_there t (sym e))
named_types ty is (y ∷ xs) x t e =
    first_type (same_name y x) ty t (declared_in (map (λ y. (y, ty)) xs) x) is (named_types ty is xs x t) e

statement_types : (s : Statement) (x : Name) (t : Ty) → declared_in (agents_and_kinds s) x ≡ Some t → IsDeclarable t
statement_types (Agents xs) x t e = named_types T.Agent (inl refl) xs x t e
statement_types (Kinds xs) x t e = named_types T.Kind (inr refl) xs x t e
statement_types (said.Template u) x t e = absurd (not_there t (sym e))
statement_types (said.Report q) x t e = absurd (not_there t (sym e))
statement_types said.Clerk x t e = absurd (not_there t (sym e))
statement_types said.Journal x t e = absurd (not_there t (sym e))
statement_types (said.Command c) x t e = absurd (not_there t (sym e))
statement_types (said.Numbered n c) x t e = absurd (not_there t (sym e))

either_type :
    (a b : Option Ty) (t : Ty) → (a ≡ Some t → IsDeclarable t) → (b ≡ Some t → IsDeclarable t) → option_or a b ≡ Some t →
    IsDeclarable t
either_type None b t first later e = later e
either_type (Some s) b t first later e = first e

-- a name is declared as an agent or as a kind
declared_types : (ss : List Statement) (x : Name) (t : Ty) → declared_by ss x ≡ Some t → IsDeclarable t
declared_types [] x t e = absurd (not_there t (sym e))
declared_types (s ∷ ss) x t e =
    either_type (declared_in (agents_and_kinds s) x) (declared_by ss x) t (statement_types s x t) (declared_types ss x t)
    (sym (type_in_append (λ _. None) (agents_and_kinds s) (flat_map agents_and_kinds ss) x) ∙ e)

-- what holds of the type of each name that a list in order says holds of all its types
types_by_names :
    (P : Ty → Type 0) (ds : Declarations) → IsSorted ds → ((x : Name) (t : Ty) → declared_in ds x ≡ Some t → P t) →
    All (λ d. P d.1) ds
types_by_names P [] s each = All-nil (λ (d : Name × Ty). P d.1)
types_by_names P (d ∷ ds) s each =
    All-cons (λ (e : Name × Ty). P e.1) d ds (each d.0 d.1 (says_first d ds d.0 (itself_same d.0)))
    (types_by_names P ds (sorted_tail name_cmp d.0 (names_of ds) s) (λ x t e. each x t (later x t e)))
  where
    later : (x : Name) (t : Ty) → declared_in ds x ≡ Some t → declared_in (d ∷ ds) x ≡ Some t
    later x t e = by_test (same_name d.0 x) refl
      where
        by_test : (b : Bool) → same_name d.0 x ≡ b → declared_in (d ∷ ds) x ≡ Some t
        by_test true h =
            absurd (not_there t (sym e ∙ subst (λ (y : Name). declared_in ds y ≡ None) (named_same d.0 x h)
            (below d.0 ds (sorted_head name_cmp d.0 (names_of ds) s))))
        by_test false h = says_other d ds x h ∙ e

-- a table in order, of which statements say the types, is a list of agents and kinds
pub are_declared :
    (ss : List Statement) (ds : Declarations) → IsSorted ds → ((x : Name) → declared_in ds x ≡ declared_by ss x) → AreDeclared ds
are_declared ss ds s says = record {
  types = types_by_names (λ t. (t ≡ T.Agent) ⊎ (t ≡ T.Kind)) ds s (λ x t e. declared_types ss x t (sym (says x) ∙ e));
  order = s;
}
