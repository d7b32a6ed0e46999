-- What the loops over the templates find: marks, or the first cycle.
use Rattle.std.proofs.Common.{◌≡◌, ℕ, zero, suc, ◌+◌, ◌≤◌, ◌<◌, arith, true, false, List, [], ◌∷◌, ◌++◌, length, map, take, drop, All, sym, ◌∙◌, ap, subst, inl, inr}
use Rattle.std.specs.Prelude.{slice_index_or}
use Rattle.std.specs.List.{AllZip}
use Rattle.std.specs.BTreeMap.{BTreeMap}
use Rattle.std.specs.BTreeSet.{BTreeSet, contains}
use Rattle.std.proofs.lemmas.List.{take_more, take_all}
use Rattle.std.proofs.lemmas.List.Elements.{All-head, All-tail, All-push}
use Rattle.poets_value.specs.declared.value.Name.{Name}
use Rattle.poets_value.specs.Names.{name_cmp}
use Rattle.poets_expr.specs.Env.{same_name}
use Rattle.poets_expr.proofs.SameTrees.{name_one}
use Rattle.poets_syntax.specs.declared.term.Template.{Template}
use Rattle.poets_syntax.specs.Typed.{is_among}
use Rattle.poets_meaning.specs.Guarded.{IsCycle}
use Rattle.poets_guard.specs.declared.graph.Node.{Node}
use Rattle.poets_guard.specs.code.Graph.{HasEdge}
use Rattle.poets_guard.specs.code.Walks.{HasCycle}
use Rattle.poets_guard.specs.FirstCycle.{LiesOnCycle, IsFirstOf}
use Rattle.poets_guard.specs.code.Searched.{IsPassed, IsSearched, HasNodesOf}
use Rattle.poets_guard.proofs.Places.{StandsAt}
use Rattle.poets_guard.proofs.Marking.{either_true}
use Rattle.poets_guard.proofs.Walking.{path_node}
use Rattle.poets_guard.proofs.Searching.{no_path}

-- one pair more
AllZip-push : {A B : Type 0} (R : A → B → Type 0) (xs : List A) (ys : List B) (x : A) (y : B) → AllZip R xs ys → R x y → AllZip R (xs ++ x ∷ []) (ys ++ y ∷ [])
AllZip-push R [] [] x y h k = (k, tt)
AllZip-push R [] (b ∷ ys) x y h k = absurd h
AllZip-push R (a ∷ xs) [] x y h k = absurd h
AllZip-push R (a ∷ xs) (b ∷ ys) x y h k = (h.0, AllZip-push R xs ys x y h.1 k)

pub AllZip-more : {A B : Type 0} (R : A → B → Type 0) (xs : List A) (ys zs : List B) (k : ℕ) (x : A) (y : B) → k < length xs → x ≡ slice_index_or xs k x →
    AllZip R (take k xs) ys → R x y → zs ≡ ys ++ y ∷ [] → AllZip R (take (k + 1) xs) zs
AllZip-more R xs ys zs k x y l is h r e =
    let more : take (k + 1) xs ≡ take k xs ++ x ∷ [] = take_more xs k x l ∙ ap (λ z. take k xs ++ z ∷ []) (sym is) in
    rw (more, e) (AllZip-push R (take k xs) ys x y h r)

abbrev pub names_of : List Template → List Name
names_of templates = map (λ t. t.name) templates

one_more : (k : ℕ) → suc k + 1 ≡ suc (k + 1)
one_more k = omega arith

names-cut : (templates : List Template) (k : ℕ) (t : Template) → StandsAt templates k t →
    names_of templates ≡ names_of (take k templates) ++ t.name ∷ names_of (drop (k + 1) templates)
names-cut [] k t s = absurd (let l = s.within in omega (arith, l))
names-cut (u ∷ templates) zero t s = ap (λ v. v.name ∷ names_of templates) (sym s.is)
names-cut (u ∷ templates) (suc k) t s = rw (one_more k) (ap (λ xs. u.name ∷ xs) (names-cut templates k t (record { within = (let l = s.within in omega (arith, l)); is = s.is })))

names-more : (templates : List Template) (k : ℕ) (t : Template) → StandsAt templates k t → names_of (take (k + 1) templates) ≡ names_of (take k templates) ++ t.name ∷ []
names-more [] k t s = absurd (let l = s.within in omega (arith, l))
names-more (u ∷ templates) zero t s = ap (λ v. v.name ∷ []) (sym s.is)
names-more (u ∷ templates) (suc k) t s = rw (one_more k) (ap (λ xs. u.name ∷ xs) (names-more templates k t (record { within = (let l = s.within in omega (arith, l)); is = s.is })))

-- of all but the last and of the last
pub All-names : (P : Name → Type 0) (templates : List Template) (k : ℕ) (t : Template) → k < length templates → t ≡ slice_index_or templates k t →
    All P (names_of (take k templates)) → P t.name → All P (names_of (take (k + 1) templates))
All-names P templates k t l is all here = rw (names-more templates k t (record { within = l; is = is })) (All-push P (names_of (take k templates)) t.name all here)

pub among-all : (P : Name → Type 0) (names : List Name) → All P names → (f : Name) → is_among names f ≡ true → P f
among-all P [] h f k = absurd cc
among-all P (x ∷ names) h f k = elim (either_true (same_name f x) (is_among names f) k) [
  | inl e ↦ subst P (sym (name_one f x e)) (All-head P x names h)
  | inr m ↦ among-all P names (All-tail P x names h) f m
]

module _ (graph : BTreeMap Name Node) where
  -- the cycle on which the template lies is the first
  pub IsFirstOf-found : (templates : List Template) (k : ℕ) (t : Template) → StandsAt templates k t → (cycle others : List Name) → cycle ≡ t.name ∷ others →
      IsCycle (HasEdge graph) (t.name ∷ others) → All (λ f. ¬ (LiesOnCycle (HasEdge graph) f)) (names_of (take k templates)) → IsFirstOf (HasEdge graph) (names_of templates) cycle
  IsFirstOf-found templates k t s cycle others begins is none = record {
    earlier = names_of (take k templates);
    first = t.name;
    later = names_of (drop (k + 1) templates);
    others = others;
    split = names-cut templates k t s;
    begins = begins;
    is_cycle = subst (IsCycle (HasEdge graph)) (sym begins) is;
    none = none;
  }

  -- the search from a name on a cycle to itself finds a path
  pub found-cycle : (f : Name) (old new : BTreeSet Name) → old.keys ≡ [] → IsSearched graph f f old new → LiesOnCycle (HasEdge graph) f → ⊥
  found-cycle f old new empty searched c = no_path graph f new passed f c.0 searched.0 c.1
    where
      passed : (g : Name) → contains name_cmp new g ≡ true → IsPassed graph f new g
      passed g h = elim (searched.1.passed g h) [
        | inl o ↦ absurd (let e : false ≡ true = sym (ap (λ xs. contains name_cmp (record { keys = xs }) g) empty) ∙ o in cc)
        | inr p ↦ p
      ]

  -- some template lies on the cycle that there is
  pub not_none : (templates : List Template) (k : ℕ) → length templates ≤ k → HasCycle graph → HasNodesOf graph templates →
      All (λ f. ¬ (LiesOnCycle (HasEdge graph) f)) (names_of (take k templates)) → ⊥
  not_none templates k l c nodes none = by c.0 c.1
    where
      by : (names : List Name) → IsCycle (HasEdge graph) names → ⊥
      by [] p = p
      by (f ∷ names) p =
          among-all (λ f. ¬ (LiesOnCycle (HasEdge graph) f)) (names_of (take k templates)) none f
          (rw (take_all k templates l) (nodes f (path_node graph f f names p))) (names, p)
