-- The first cycle of a book, and the statement that declares its first template.
use Rattle.std.proofs.Common.{◌≡◌, ℕ, zero, suc, ◌+◌, true, false, List, [], ◌∷◌, ◌++◌, All, Some, None, refl, sym, ap, subst, ◌∙◌}
use Rattle.std.specs.Prelude.{slice_get}
use Rattle.std.proofs.lemmas.Bool.{or_parts}
use Rattle.std.proofs.lemmas.List.Elements.{All-head, All-tail}
use Rattle.std.proofs.lemmas.List.Folds.{list_any-append}
use Rattle.poets_value.specs.declared.value.Name.{Name}
use Rattle.poets_expr.specs.Env.{same_name}
use Rattle.poets_syntax.specs.Plain.{Book}
use Rattle.poets_syntax.specs.Typed.{is_among, check_new}
use Rattle.poets_syntax.specs.Plain as plain
use Rattle.poets_meaning.specs.Guarded.{IsCycle, UnguardedEdge}
use Rattle.poets_guard.specs.FirstCycle.{LiesOnCycle, IsFirstCycle}
use Rattle.poets_types.proofs.CheckedBooks.{or_else-none, check_new-one}
use Rattle.poets_types.proofs.Scopes.{same_name_laws}
use Rattle.poets_command.specs.Said.{Statement, Template}
use Rattle.poets_command.specs.Declarations.{names_declared, book_from, reports_of}
use Rattle.poets_command.specs.Plain.{TypeFault}
use Rattle.poets_command.specs.TypedStatements.{twice_from, mistyped_from, first_of, first_fault}
use Rattle.poets_session.specs.Refusals.{IsTemplateAt}

-- ---- the first template on a cycle

first_once :
    {A : Type 0} (P : A → Type 0) (front back : List A) (x y : A) (rest others : List A) → front ++ x ∷ rest ≡ back ++ y ∷ others →
    P x → P y → All (λ z. ¬ (P z)) front → All (λ z. ¬ (P z)) back → x ≡ y
first_once P [] [] x y rest others e h k m n = cc
first_once P [] (z ∷ back) x y rest others e h k m n =
    let same : x ≡ z = cc in absurd (All-head (λ z. ¬ (P z)) z back n (subst P same h))
first_once P (z ∷ front) [] x y rest others e h k m n =
    let same : y ≡ z = cc in absurd (All-head (λ z. ¬ (P z)) z front m (subst P same k))
first_once P (z ∷ front) (w ∷ back) x y rest others e h k m n =
    let after : front ++ x ∷ rest ≡ back ++ y ∷ others = cc in
    first_once P front back x y rest others after h k (All-tail (λ z. ¬ (P z)) z front m) (All-tail (λ z. ¬ (P z)) w back n)

-- its first template lies on it
first_on_cycle : {book : Book} {cycle : List Name} (h : IsFirstCycle book cycle) → LiesOnCycle (UnguardedEdge book) h.first
first_on_cycle {book = book} h = (h.others, subst (IsCycle (UnguardedEdge book)) h.begins h.is_cycle)

pub cycle_begins_once : {book : Book} {cycle other : List Name} (h : IsFirstCycle book cycle) (k : IsFirstCycle book other) → h.first ≡ k.first
cycle_begins_once {book = book} h k =
    first_once (LiesOnCycle (UnguardedEdge book)) h.earlier k.earlier h.first k.first h.later k.later (sym h.split ∙ k.split) (first_on_cycle h) (first_on_cycle k) h.none k.none

-- ---- templates whose names stand once

-- none after the first statement
none_after :
    (n : ℕ) (earlier : List Name) (s : Statement) (statements : List Statement) → twice_from n earlier (s ∷ statements) ≡ None →
    twice_from (n + 1) (names_declared s ++ earlier) statements ≡ None
none_after n earlier s statements e = (or_else-none (check_new (is_among earlier) [] (names_declared s)) n (twice_from (n + 1) (names_declared s ++ earlier) statements) e).1

first_none : (first later : TypeFault) → first_of first later ≡ None → first ≡ None
first_none None later e = refl
first_none (Some fault) later e = absurd cc

-- the name of a template among the statements is new
new_at :
    (n : ℕ) (earlier : List Name) (statements : List Statement) (place : ℕ) (t : plain.Template) → twice_from n earlier statements ≡ None →
    slice_get statements place ≡ Some (Template t) → is_among earlier t.name ≡ false
new_at n earlier [] place t e h = absurd cc
new_at n earlier (s ∷ statements) zero t e h =
    let is : s ≡ Template t = cc in
    let none : twice_from n earlier (Template t ∷ statements) ≡ None = subst (λ (x : Statement). twice_from n earlier (x ∷ statements) ≡ None) is e in
    check_new-one (is_among earlier) t.name
    (or_else-none (check_new (is_among earlier) [] (t.name ∷ [])) n (twice_from (n + 1) (t.name ∷ earlier) statements) none).0
new_at n earlier (s ∷ statements) (suc place) t e h =
    let names = names_declared s in
    let new = new_at (n + 1) (names ++ earlier) statements place t (none_after n earlier s statements e) h in
    (or_parts (is_among names t.name) (is_among earlier t.name) (sym (list_any-append (same_name t.name) names earlier) ∙ new)).1

-- no template after another has its name
not_again :
    (n : ℕ) (earlier : List Name) (s : Statement) (statements : List Statement) (place : ℕ) (t u : plain.Template) → twice_from n earlier (s ∷ statements) ≡ None →
    Some s ≡ Some (Template t) → slice_get statements place ≡ Some (Template u) → t.name ≡ u.name → ⊥
not_again n earlier s statements place t u e h k same =
    let is : s ≡ Template t = cc in
    let later = new_at (n + 1) (names_declared s ++ earlier) statements place u (none_after n earlier s statements e) k in
    let new : is_among (t.name ∷ earlier) u.name ≡ false = subst (λ (x : Statement). is_among (names_declared x ++ earlier) u.name ≡ false) is later in
    let apart : same_name u.name t.name ≡ false = (or_parts (same_name u.name t.name) (is_among earlier u.name) new).0 in
    let one : same_name u.name t.name ≡ true = subst (λ x. same_name u.name x ≡ true) (sym same) (same_name_laws.refl u.name) in
    cc

declared_once :
    (n : ℕ) (earlier : List Name) (statements : List Statement) (i j : ℕ) (t u : plain.Template) → twice_from n earlier statements ≡ None →
    slice_get statements i ≡ Some (Template t) → slice_get statements j ≡ Some (Template u) → t.name ≡ u.name → i ≡ j
declared_once n earlier [] i j t u e h k same = absurd cc
declared_once n earlier (s ∷ statements) zero zero t u e h k same = refl
declared_once n earlier (s ∷ statements) zero (suc j) t u e h k same = absurd (not_again n earlier s statements j t u e h k same)
declared_once n earlier (s ∷ statements) (suc i) zero t u e h k same = absurd (not_again n earlier s statements i u t e k h (sym same))
declared_once n earlier (s ∷ statements) (suc i) (suc j) t u e h k same =
    ap suc (declared_once (n + 1) (names_declared s ++ earlier) statements i j t u (none_after n earlier s statements e) h k same)

-- where no name stands twice, one statement declares a template
pub template_at_once : (statements : List Statement) (m n : ℕ) (f : Name) → first_fault statements ≡ None → IsTemplateAt statements m f → IsTemplateAt statements n f → m ≡ n
template_at_once statements m n f e h k =
    let twice = first_none (twice_from 1 [] statements) (mistyped_from 1 (book_from statements) (reports_of statements) statements) e in
    let place = declared_once 1 [] statements h.place k.place h.template k.template twice h.stands k.stands (h.named ∙ sym k.named) in
    h.counted ∙ ap suc place ∙ sym k.counted
