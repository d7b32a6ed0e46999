-- Templates by their names: the names in order, the place of one among them, and what stands there.
use Rattle.std.proofs.Common.{◌≡◌, ℕ, zero, suc, ◌+◌, ◌<◌, ◌≤◌, arith, Bool, true, false, List, [], ◌∷◌, ◌++◌, length, map, take, get_or, Some, None, refl, sym, ◌∙◌, ap, subst, inl, inr}
use Rattle.std.specs.Prelude.{◌||◌}
use Rattle.std.specs.Cmp.{IsEquivalence}
use Rattle.std.specs.List.{AllByRecursion, AllZip, IsDistinct, list_any, position}
use Rattle.std.proofs.lemmas.Cmp.{nat_eq_equiv, on_equiv}
use Rattle.std.proofs.lemmas.List.{length-map, map-append, take_all, take_more}
use Rattle.std.proofs.lemmas.List.Quantifiers.{position-Some}
use Rattle.std.proofs.lemmas.Simd.{map-map}
use Rattle.std.proofs.lemmas.Slice.Zip.{AllZip-long}
use Rattle.indexmap.specs.IndexSet.{insert_key, insert_all}
use Rattle.indexmap.proofs.SetLemmas.{set_all_distinct, set_all_push}
use Rattle.poets_value.specs.declared.value.Name.{Name}
use Rattle.poets_expr.specs.Env.{same_name}
use Rattle.poets_syntax.specs.declared.term.Template.{Template}
use Rattle.poets_syntax.specs.Book.{template_of, template_in}
use Rattle.poets_syntax.specs.Plain as plain
use Rattle.poets_syntax.proofs.Replacing.{truth}
use Rattle.poets_meaning.specs.declared.studied.Mark.{Mark}
use Rattle.poets_meaning.specs.Studied.{has_mark}

pub same_name_laws : IsEquivalence same_name
same_name_laws = on_equiv (λ n. n.id) nat_eq_equiv

abbrev pub names_of : List Template → List Name
names_of templates = map (λ t. t.name) templates

-- ---- the names of a checked book are distinct

all_front : {K : Type 0} (P : K → Type 0) (xs ys : List K) → AllByRecursion P (xs ++ ys) → AllByRecursion P xs
all_front P [] ys h = tt
all_front P (x ∷ xs) ys h = (h.0, all_front P xs ys h.1)

distinct_front : {K : Type 0} (e : K → K → Bool) (xs ys : List K) → IsDistinct e (xs ++ ys) → IsDistinct e xs
unfolding IsDistinct
distinct_front e [] ys h = tt
distinct_front e (x ∷ xs) ys h = (all_front (λ y. e x y ≡ false) xs ys h.0, distinct_front e xs ys h.1)

pub IsDistinct-names : (templates : List Template) (others : List Name) →
    IsDistinct same_name (map (λ t. t.name) (map template_of templates) ++ others) → IsDistinct same_name (names_of templates)
IsDistinct-names templates others h =
    subst (IsDistinct same_name) (map-map (λ t. t.name) template_of templates)
    (distinct_front same_name (map (λ t. t.name) (map template_of templates)) others h)

-- ---- names that are entered one after the other

-- one name more
pub entered_more : (templates : List Template) (i : ℕ) (t : Template) (before after : List Name) → i < length templates → t ≡ get_or templates i t →
    before ≡ insert_all same_name [] (names_of (take i templates)) → after ≡ insert_key same_name before t.name →
    after ≡ insert_all same_name [] (names_of (take (i + 1) templates))
entered_more templates i t before after l e b a =
    a ∙ ap (λ names. insert_key same_name names t.name) b ∙ sym (set_all_push same_name [] (names_of (take i templates)) t.name)
    ∙ ap (insert_all same_name []) (sym (map-append (λ t. t.name) (take i templates) (t ∷ [])) ∙ ap (λ u. names_of (take i templates ++ u ∷ [])) e ∙ ap names_of (sym (take_more templates i t l)))

-- all of them, which are distinct
pub entered_all : (templates : List Template) (n : ℕ) → length templates ≤ n → IsDistinct same_name (names_of templates) →
    insert_all same_name [] (names_of (take n templates)) ≡ names_of templates
entered_all templates n l h = ap (λ ts. insert_all same_name [] (names_of ts)) (take_all n templates l) ∙ set_all_distinct same_name_laws [] (names_of templates) h

-- ---- what stands at the place of a name

module _ (f : Name) where
  -- there is no template of that name
  pub record IsNowhere (ts : List Template) (ms : List Mark) : Type 0 where
    pub template : template_in (map template_of ts) f ≡ None
    pub mark : (is : Mark → Bool) → has_mark is (map template_of ts) ms f ≡ false

  no_name : (t : Template) (rest : Bool) → (same_name f t.name || rest) ≡ false → (same_name t.name f ≡ false) × (rest ≡ false)
  no_name t rest h = elim (truth (same_name f t.name)) [
    | inl e ↦ (let k : true ≡ false = rw e at h in absurd cc)
    | inr e ↦ (same_name_laws.symm t.name f ∙ e, rw e at h)
  ]

  pub IsNowhere-unknown : (ts : List Template) (ms : List Mark) → list_any (same_name f) (names_of ts) ≡ false → IsNowhere ts ms
  IsNowhere-unknown [] ms h = record { template = refl; mark = λ is. refl }
  IsNowhere-unknown (t ∷ ts) [] h =
      let p = no_name t (list_any (same_name f) (names_of ts)) h in
      let rest = IsNowhere-unknown ts [] p.1 in
      record { template = rw p.0 rest.template; mark = λ is. refl }
  IsNowhere-unknown (t ∷ ts) (m ∷ ms) h =
      let p = no_name t (list_any (same_name f) (names_of ts)) h in
      let rest = IsNowhere-unknown ts ms p.1 in
      record { template = rw p.0 rest.template; mark = λ is. rw p.0 (rest.mark is) }

  -- the template of that name and its mark
  pub record IsFound (R : plain.Template → Mark → Type 0) (ts : List Template) (ms : List Mark) (t : Template) (m : Mark) : Type 0 where
    pub template : template_in (map template_of ts) f ≡ Some (template_of t)
    pub mark : (is : Mark → Bool) → has_mark is (map template_of ts) ms f ≡ is m
    pub right : R (template_of t) m

  -- they stand at the first place where the name stands
  IsFound-at : (R : plain.Template → Mark → Type 0) (ts : List Template) (ms : List Mark) (k : ℕ) (t : Template) (d : Name) (e : Mark) →
      AllZip R (map template_of ts) ms → k < length ts → t ≡ get_or ts k t → same_name f (get_or (names_of ts) k d) ≡ true →
      ((j : ℕ) → j < k → same_name f (get_or (names_of ts) j d) ≡ false) → IsFound R ts ms t (get_or ms k e)
  IsFound-at R [] ms k t d e zipped l s here before = absurd (omega (arith, l))
  IsFound-at R (u ∷ ts) [] k t d e zipped l s here before = absurd zipped
  IsFound-at R (u ∷ ts) (m ∷ ms) zero t d e zipped l s here before =
      let named : same_name u.name f ≡ true = same_name_laws.symm u.name f ∙ here in
      record {
        template = rw named (ap (λ v. Some (template_of v)) (sym s));
        mark = λ is. rw named refl;
        right = subst (λ v. R (template_of v) m) (sym s) zipped.0;
      }
  IsFound-at R (u ∷ ts) (m ∷ ms) (suc k) t d e zipped l s here before =
      let other : same_name u.name f ≡ false = same_name_laws.symm u.name f ∙ before 0 (omega arith) in
      let rest = IsFound-at R ts ms k t d e zipped.1 (omega (arith, l)) s here (λ j lt. before (suc j) (omega (arith, lt))) in
      record { template = rw other rest.template; mark = λ is. rw other (rest.mark is); right = rest.right }

  -- which is the name's place in the index
  module _ (R : plain.Template → Mark → Type 0) (keys : List Name) (ts : List Template) (ms : List Mark) (k : ℕ) (indexed : keys ≡ names_of ts)
      (zipped : AllZip R (map template_of ts) ms) (place : position (same_name f) keys ≡ Some k) where
    among : (d : Name) → (k < length ts) × (same_name f (get_or (names_of ts) k d) ≡ true) × ((j : ℕ) → j < k → same_name f (get_or (names_of ts) j d) ≡ false)
    among d =
        let p = position-Some (same_name f) (names_of ts) k d (ap (position (same_name f)) (sym indexed) ∙ place) in
        (subst (λ n. k < n) (length-map ts (λ t. t.name)) p.0, p.1, p.2)

    pub marks_reach : k < length ms
    marks_reach = let p = among (record { id = 0 }) in omega (arith, p.0, AllZip-long R (map template_of ts) ms zipped, length-map ts template_of)

    pub IsFound-place : (t : Template) (e : Mark) → t ≡ get_or ts k t → IsFound R ts ms t (get_or ms k e)
    IsFound-place t e s = let p = among t.name in IsFound-at R ts ms k t t.name e zipped p.0 s p.1 p.2
