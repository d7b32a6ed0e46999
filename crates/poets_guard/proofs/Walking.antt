-- What a walk over the graph gives: widths, or a cycle.
use Rattle.std.proofs.Common.{◌≡◌, ℕ, zero, suc, ◌+◌, ◌≤◌, ◌<◌, arith, Bool, true, false, not, cond, List, [], ◌∷◌, ◌++◌, length, take, Option, Some, None, refl, sym, ◌∙◌, ap, subst, ◌⊎◌, inl, inr}
use Rattle.std.specs.Prelude.{slice_index_or, sum_by, IsSome}
use Rattle.std.specs.Ordering.{is_eq}
use Rattle.std.specs.Cmp.{eq_by_cmp_equiv}
use Rattle.std.specs.BTreeMap.{BTreeMap, get}
use Rattle.std.specs.BTreeSet.{BTreeSet, contains, IsOrdered}
use Rattle.std.proofs.lemmas.List.{take_more, take_all}
use Rattle.std.proofs.lemmas.List.Sums.{sum_by_more}
use Rattle.std.proofs.lemmas.Map.Keys.{IsDistinct-from_sorted}
use Rattle.std.proofs.lemmas.Map.Steps.{length-le_from_keys}
use Rattle.poets_value.specs.declared.value.Name.{Name}
use Rattle.poets_value.specs.Names.{name_cmp}
use Rattle.poets_value.proofs.Orders.{name_cmp_total}
use Rattle.poets_expr.specs.Env.{same_name}
use Rattle.poets_expr.proofs.SameTrees.{name_one}
use Rattle.poets_syntax.specs.Typed.{is_among}
use Rattle.poets_syntax.proofs.Replacing.{truth}
use Rattle.poets_meaning.specs.Guarded.{IsPath}
use Rattle.poets_meaning.proofs.Guarding.{further}
use Rattle.poets_guard.specs.declared.graph.Node.{Node}
use Rattle.poets_meaning.specs.Width.{cut}
use Rattle.poets_guard.specs.code.Graph.{HasEdge}
use Rattle.poets_guard.specs.code.Walks.{HasCycle, PathsEnd, width_at, IsWidthOf, HasWidth, HaveWidths, AllReach, HaveSameNames}
use Rattle.poets_guard.proofs.Places.{name_cmp-same, same_name-self}
use Rattle.poets_guard.proofs.Marking.{either_true, or_second, said}

-- ---- lists of names

pub among_at : (names : List Name) (k : ℕ) (d : Name) → k < length names → is_among names (slice_index_or names k d) ≡ true
among_at [] k d l = absurd (omega (arith, l))
among_at (x ∷ names) zero d l = rw (same_name-self x) refl
among_at (x ∷ names) (suc k) d l = or_second (same_name (slice_index_or names k d) x) (is_among names (slice_index_or names k d)) (among_at names k d (omega (arith, l)))

among_push : (names : List Name) (x y : Name) → is_among (names ++ x ∷ []) y ≡ true → (is_among names y ≡ true) ⊎ (y ≡ x)
among_push [] x y h = elim (either_true (same_name y x) false h) [ inl k ↦ inr (name_one y x k) | inr k ↦ absurd cc ]
among_push (z ∷ names) x y h = elim (truth (same_name y z)) [
  | inl e ↦ inl (rw e refl)
  | inr e ↦ elim (among_push names x y (rw e at h)) [ inl k ↦ inl (rw e k) | inr k ↦ inr k ]
]

pub among_more : (names : List Name) (k : ℕ) (d y : Name) → k < length names → is_among (take (k + 1) names) y ≡ true →
    (is_among (take k names) y ≡ true) ⊎ (y ≡ slice_index_or names k d)
among_more names k d y l h = among_push (take k names) (slice_index_or names k d) y (rw (take_more names k d l) at h)

-- ---- edges

module _ (graph : BTreeMap Name Node) (f : Name) (n : Node) (names : List Name) (k : ℕ) (here : get name_cmp graph f ≡ Some n) (all : names ≡ n.exposed.items) where
  -- an edge leads to each exposed name
  pub edge-at : (d : Name) → k < length names → HasEdge graph f (slice_index_or names k d)
  edge-at d l = (n, here, subst (λ xs. is_among xs (slice_index_or names k d) ≡ true) all (among_at names k d l))

  -- and to no others
  pub edges-all : (P : Name → Type 0) → length names ≤ k → ((g : Name) → is_among (take k names) g ≡ true → P g) → (g : Name) → HasEdge graph f g → P g
  edges-all P l each g e = each g (let same : e.0 ≡ n = one e.1 here in rw (take_all k names l ∙ all) (subst (λ m. is_among m.exposed.items g ≡ true) same e.2))
    where
      one : {o : Option Node} {x y : Node} → o ≡ Some x → o ≡ Some y → x ≡ y
      one i j = cc

-- ---- cycles

module _ (graph : BTreeMap Name Node) where
  -- a name from which all paths end lies on no cycle
  pub no_cycle : {f : Name} → PathsEnd graph f → (names : List Name) → IsPath (HasEdge graph) f names f → ⊥
  no_cycle (PathsEnd.Ends {f = f} ends) [] p = no_cycle (ends f p) [] p
  no_cycle (PathsEnd.Ends {f = f} ends) (g ∷ names) p =
      let q = further (HasEdge graph) g f g names p.1 p.0 in
      no_cycle (ends g p.0) q.0 q.1

  -- a name that is met again on the way to itself
  pub met_again : (path : BTreeSet Name) (f : Name) (b : Bool) → AllReach graph path f → b ≡ not (contains name_cmp path f) → b ≡ false → HasCycle graph
  met_again path f b reach added e = (let p = reach f (unsaid (contains name_cmp path f) (sym added ∙ e)) in (f ∷ p.0, p.1))
    where
      unsaid : (a : Bool) → not a ≡ false → a ≡ true
      unsaid true k = refl
      unsaid false k = absurd cc

  -- names that reach one reach the next
  pub AllReach-next : (old inserted now : BTreeSet Name) (f g : Name) → AllReach graph old f →
      ((q : Name) → contains name_cmp inserted q ≡ cond (is_eq (name_cmp f q)) true (contains name_cmp old q)) → HaveSameNames inserted now →
      HasEdge graph f g → AllReach graph now g
  AllReach-next old inserted now f g reach more same edge x h =
      elim (said (contains name_cmp old) (contains name_cmp inserted) f more x (sym (same.same x) ∙ h)) [
        | inl q ↦ ([], subst (λ y. HasEdge graph y g) q edge)
        | inr k ↦ (let p = reach x k in further (HasEdge graph) x f g p.0 p.1 edge)
      ]

  has_node : (o : Option Node) (n : Node) → o ≡ Some n → IsSome o
  has_node o n e = rw e refl

  -- a name from which a path leads has a node
  pub path_node : (f g : Name) (names : List Name) → IsPath (HasEdge graph) f names g → IsSome (get name_cmp graph f)
  path_node f g [] p = has_node (get name_cmp graph f) p.0 p.1
  path_node f g (x ∷ names) p = has_node (get name_cmp graph f) p.0.0 p.0.1

  -- names that reach one are names of the graph, and so are no more than its nodes
  pub few : (old inserted : BTreeSet Name) (f : Name) (n : Node) → AllReach graph old f →
      ((q : Name) → contains name_cmp inserted q ≡ cond (is_eq (name_cmp f q)) true (contains name_cmp old q)) → IsOrdered name_cmp inserted →
      get name_cmp graph f ≡ Some n → length inserted.keys ≤ length graph.entries
  few old inserted f n reach more ordered here =
      length-le_from_keys (eq_by_cmp_equiv name_cmp_total) inserted.keys graph.entries (IsDistinct-from_sorted name_cmp inserted.keys ordered)
      (λ q h. elim (said (contains name_cmp old) (contains name_cmp inserted) f more q h) [
        | inl e ↦ has_node (get name_cmp graph q) n (ap (get name_cmp graph) (sym e) ∙ here)
        | inr k ↦ (let p = reach q k in path_node q f p.0 p.1)
      ])

  -- ---- widths

  pub HasWidth-none : (f : Name) → get name_cmp graph f ≡ None → HasWidth graph f 0
  HasWidth-none f none = (
    PathsEnd.Ends (λ g e. absurd (let p : Some e.0 ≡ None = sym e.1 ∙ none in cc)),
    λ width fits. sym (fits f ∙ ap (width_at width) none),
  )

  -- the width at a node, after those of all that it exposes
  pub HasWidth-node : (f : Name) (n : Node) (exposed wide : ℕ) (names : List Name) (k : ℕ) → get name_cmp graph f ≡ Some n → names ≡ n.exposed.items → length names ≤ k →
      ((g : Name) → is_among (take k names) g ≡ true → PathsEnd graph g) →
      ((width : Name → ℕ) → IsWidthOf graph width → exposed ≡ cut (sum_by width (take k names))) → wide ≡ cut (n.own + exposed) → HasWidth graph f wide
  HasWidth-node f n exposed wide names k here all l ends sum is = (
    PathsEnd.Ends (edges-all graph f n names k here all (PathsEnd graph) l ends),
    λ width fits. (let s = sum width fits in let t : sum_by width (take k names) ≡ sum_by width n.exposed.items = ap (sum_by width) (take_all k names l ∙ all) in
        let w = fits f ∙ ap (width_at width) here in omega (arith, s, t, w, is)),
  )

  -- one exposed name more
  pub ends_more : (names : List Name) (k : ℕ) (d : Name) → k < length names → ((g : Name) → is_among (take k names) g ≡ true → PathsEnd graph g) →
      PathsEnd graph (slice_index_or names k d) → (g : Name) → is_among (take (k + 1) names) g ≡ true → PathsEnd graph g
  ends_more names k d l ends here g h = elim (among_more names k d g l h) [
    | inl a ↦ ends g a
    | inr e ↦ subst (PathsEnd graph) (sym e) here
  ]

  pub sum_more : (names : List Name) (k : ℕ) (d : Name) (exposed more wide : ℕ) → k < length names →
      ((width : Name → ℕ) → IsWidthOf graph width → exposed ≡ cut (sum_by width (take k names))) →
      ((width : Name → ℕ) → IsWidthOf graph width → more ≡ width (slice_index_or names k d)) → wide ≡ cut (exposed + more) →
      (width : Name → ℕ) → IsWidthOf graph width → wide ≡ cut (sum_by width (take (k + 1) names))
  sum_more names k d exposed more wide l sum here is width fits =
      let s = sum width fits in let h = here width fits in let t = sum_by_more width names k d l in omega (arith, s, h, t, is)

  -- one width more
  pub HaveWidths-more : (old new : BTreeMap Name ℕ) (f : Name) (n : ℕ) → HaveWidths graph old → HasWidth graph f n →
      ((q : Name) → get name_cmp new q ≡ cond (is_eq (name_cmp f q)) (Some n) (get name_cmp old q)) → HaveWidths graph new
  HaveWidths-more old new f n have here more g m e = by (same_name f g) (name_cmp-same f g) refl
    where
      by : (b : Bool) → is_eq (name_cmp f g) ≡ same_name f g → same_name f g ≡ b → HasWidth graph g m
      by true k l = (let q : Some n ≡ Some m = sym (rw (k ∙ l) at (more g)) ∙ e in let r : n ≡ m = cc in subst (λ x. HasWidth graph x m) (name_one f g l) (subst (λ j. HasWidth graph f j) r here))
      by false k l = have g m (sym (rw (k ∙ l) at (more g)) ∙ e)

-- ---- names on the way

pub HaveSameNames-trans : (xs ys zs : BTreeSet Name) → HaveSameNames xs ys → HaveSameNames ys zs → HaveSameNames xs zs
HaveSameNames-trans xs ys zs h k = record { same = λ f. k.same f ∙ h.same f; as_many = k.as_many ∙ h.as_many }

-- a name that was put in and taken out
module _ (old inserted now removed : BTreeSet Name) (f : Name) where
  pub HaveSameNames-removed : (added taken : Bool) → added ≡ not (contains name_cmp old f) → added ≡ true →
      ((q : Name) → contains name_cmp inserted q ≡ cond (is_eq (name_cmp f q)) true (contains name_cmp old q)) → length inserted.keys ≡ length old.keys + 1 →
      HaveSameNames inserted now → taken ≡ contains name_cmp now f →
      ((q : Name) → contains name_cmp removed q ≡ cond (is_eq (name_cmp f q)) false (contains name_cmp now q)) →
      length removed.keys + cond taken 1 0 ≡ length now.keys → HaveSameNames old removed
  HaveSameNames-removed added taken new put more longer same was less shorter = record {
    same = λ q. less q ∙ by (same_name f q) q (name_cmp-same f q) refl;
    as_many = (let t : taken ≡ true = was ∙ same.same f ∙ more f ∙ rw (name_cmp-same f f ∙ same_name-self f) refl in
        let s : length removed.keys + 1 ≡ length now.keys = rw t at shorter in let m = same.as_many in omega (arith, s, m, longer));
  }
    where
      unsaid : (a : Bool) → not a ≡ true → a ≡ false
      unsaid true k = absurd cc
      unsaid false k = refl

      by : (b : Bool) (q : Name) → is_eq (name_cmp f q) ≡ same_name f q → same_name f q ≡ b → cond (is_eq (name_cmp f q)) false (contains name_cmp now q) ≡ contains name_cmp old q
      by true q e k = rw (e ∙ k) (sym (ap (contains name_cmp old) (sym (name_one f q k)) ∙ unsaid (contains name_cmp old f) (sym new ∙ put)))
      by false q e k = rw (e ∙ k) (same.same q ∙ rw (e ∙ k) at (more q))
