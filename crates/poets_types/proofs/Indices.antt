-- Templates and reports by their places.
use Rattle.std.proofs.Common.{◌≡◌, ℕ, suc, ◌+◌, Bool, true, false, cond, List, [], ◌∷◌, length, ◌≤◌, map, Option, Some, None, refl, ap, arith, option_map}
use Rattle.std.specs.Prelude.{◌||◌, ◌↔◌, if◌then◌else◌, is_some, slice_get, IfSome, IsNone}
use Rattle.std.specs.List.{position_from, list_any}
use Rattle.std.proofs.lemmas.Option.{slice_get_past}
use Rattle.poets_value.specs.declared.value.Name.{Name}
use Rattle.poets_expr.specs.Env.{same_name}
use Rattle.poets_syntax.specs.declared.term.Template.{Template}
use Rattle.poets_syntax.specs.Book.{template_of, template_in}
use Rattle.poets_syntax.specs.Typed.{is_among}
use Rattle.poets_syntax.specs.Plain as plain
use Rattle.poets_report.specs.declared.report.Report.{Report}
use Rattle.poets_report.specs.Reports.{report_of}
use Rattle.poets_command.specs.TypedStatements.{report_names}

no_template : (b : Bool) (k : ℕ) (t : plain.Template) (o : Option ℕ) (r : Option plain.Template) → cond b (Some k) o ≡ None → (o ≡ None → r ≡ None) → (if b then Some t else r) ≡ None
no_template true k t o r e h = absurd cc
no_template false k t o r e h = h e

-- no place, no template
pub template_in-none : (k : ℕ) (ts : List Template) (f : Name) → position_from (λ t. same_name t.name f) k ts ≡ None → template_in (map template_of ts) f ≡ None
template_in-none k [] f e = refl
template_in-none k (t ∷ ts) f e =
    no_template (same_name t.name f) k (template_of t) (position_from (λ u. same_name u.name f) (k + 1) ts) (template_in (map template_of ts) f) e (template_in-none (k + 1) ts f)

-- the place among the templates from the k-th on
record IsAt (k i : ℕ) (ts : List Template) (found : Option plain.Template) : Type 0 where
  place : ℕ
  after : i ≡ k + place
  same : option_map template_of (slice_get ts place) ≡ found

first_or_later : (b : Bool) (k i : ℕ) (t : Template) (ts : List Template) (o : Option ℕ) (found : Option plain.Template) → cond b (Some k) o ≡ Some i → (o ≡ Some i → IsAt (k + 1) i ts found) →
    IsAt k i (t ∷ ts) (if b then Some (template_of t) else found)
first_or_later true k i t ts o found e later = record { place = 0; after = let here : k ≡ i = cc in omega arith; same = refl }
first_or_later false k i t ts o found e later = let l = later e in record { place = suc l.place; after = omega (arith, l.after); same = l.same }

template_in-from : (k i : ℕ) (ts : List Template) (f : Name) → position_from (λ t. same_name t.name f) k ts ≡ Some i → IsAt k i ts (template_in (map template_of ts) f)
template_in-from k i [] f e = absurd cc
template_in-from k i (t ∷ ts) f e =
    first_or_later (same_name t.name f) k i t ts (position_from (λ u. same_name u.name f) (k + 1) ts) (template_in (map template_of ts) f) e (template_in-from (k + 1) i ts f)

-- the template at the first place
pub template_in-at : (i : ℕ) (ts : List Template) (f : Name) → position_from (λ t. same_name t.name f) 0 ts ≡ Some i → option_map template_of (slice_get ts i) ≡ template_in (map template_of ts) f
template_in-at i ts f e =
    let found = template_in-from 0 i ts f e in
    let place : i ≡ found.place = omega (arith, found.after) in
    rw place found.same

-- a template is there where it has a place
pub is_some-template_in : (ts : List Template) (f : Name) → is_some (template_in (map template_of ts) f) ≡ list_any (λ t. same_name t.name f) ts
is_some-template_in [] f = refl
is_some-template_in (t ∷ ts) f = by_test (same_name t.name f) (template_of t) (template_in (map template_of ts) f) (list_any (λ u. same_name u.name f) ts) (is_some-template_in ts f)
  where
    by_test : (b : Bool) (d : plain.Template) (o : Option plain.Template) (a : Bool) → is_some o ≡ a → is_some (if b then Some d else o) ≡ (b || a)
    by_test true d o a e = refl
    by_test false d o a e = e

-- the names of reports as plain data
pub is_among-report_names : (reports : List Report) (x : Name) → is_among (report_names (map report_of reports)) x ≡ list_any (λ r. same_name x r.name) reports
is_among-report_names [] x = refl
is_among-report_names (r ∷ reports) x = ap (λ b. same_name x r.name || b) (is_among-report_names reports x)

-- an item that is read by its place
pub read_at : {A B C : Type 0} (item : A → B) (f : B → C) (items : List B) (i : ℕ) (r : Option A) → IfSome r (λ x. slice_get items i ≡ Some (item x)) → IsNone r ↔ (length items ≤ i) →
    option_map (λ x. f (item x)) r ≡ option_map f (slice_get items i)
read_at item f items i None found none = rw (slice_get_past items i (none.0 refl)) refl
read_at item f items i (Some x) found none = rw found refl
