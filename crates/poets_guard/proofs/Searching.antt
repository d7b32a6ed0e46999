-- The search for a path finds one exactly where there is one.
use Rattle.std.proofs.Common.{◌≡◌, ◌≢◌, ℕ, ◌+◌, ◌≤◌, ◌<◌, arith, true, cond, List, [], ◌∷◌, ◌++◌, length, take, Some, None, refl, sym, ◌∙◌, ap, subst, inl, inr, append_assoc}
use Rattle.std.specs.Prelude.{slice_index_or, IsSome}
use Rattle.std.specs.Ordering.{is_eq}
use Rattle.std.specs.Cmp.{eq_by_cmp_equiv}
use Rattle.std.specs.BTreeMap.{BTreeMap, get}
use Rattle.std.specs.BTreeSet.{BTreeSet, contains, IsOrdered}
use Rattle.std.proofs.lemmas.Map.Keys.{IsDistinct-from_sorted}
use Rattle.std.proofs.lemmas.Map.Steps.{length-le_from_keys}
use Rattle.poets_value.specs.declared.value.Name.{Name}
use Rattle.poets_value.specs.Names.{name_cmp}
use Rattle.poets_value.proofs.Orders.{name_cmp_total}
use Rattle.poets_syntax.specs.Typed.{is_among}
use Rattle.poets_meaning.specs.Guarded.{IsPath}
use Rattle.poets_guard.specs.declared.graph.Node.{Node}
use Rattle.poets_guard.specs.code.Graph.{HasEdge}
use Rattle.poets_guard.specs.code.Searched.{HaveNodes, IsSeen, IsPassed, IsSearching, IsSearched, LeadsOn}
use Rattle.poets_guard.proofs.Marking.{said, still_said, now_said}
use Rattle.poets_guard.proofs.Walking.{among_more, edges-all}

module _ (graph : BTreeMap Name Node) where
  -- what is seen stays seen
  still_seen : (old new : BTreeSet Name) → ((f : Name) → contains name_cmp old f ≡ true → contains name_cmp new f ≡ true) → (f : Name) → IsSeen graph old f → IsSeen graph new f
  still_seen old new kept f (inl h) = inl (kept f h)
  still_seen old new kept f (inr e) = inr e

  still_passed : (goal : Name) (old new : BTreeSet Name) → ((f : Name) → contains name_cmp old f ≡ true → contains name_cmp new f ≡ true) → (f : Name) →
      IsPassed graph goal old f → IsPassed graph goal new f
  still_passed goal old new kept f p g e = (still_seen old new kept g (p g e).0, (p g e).1)

  pub IsSearching-self : (goal : Name) (seen : BTreeSet Name) → HaveNodes graph seen → IsSearching graph goal seen seen
  IsSearching-self goal seen have = record { kept = λ f h. h; passed = λ f h. inl h; have_nodes = have; as_many = omega arith }

  pub IsSearching-trans : (goal : Name) (xs ys zs : BTreeSet Name) → IsSearching graph goal xs ys → IsSearching graph goal ys zs → IsSearching graph goal xs zs
  IsSearching-trans goal xs ys zs h k = record {
    kept = λ f e. k.kept f (h.kept f e);
    passed = λ f e. elim (k.passed f e) [
      | inl l ↦ elim (h.passed f l) [ inl m ↦ inl m | inr p ↦ inr (still_passed goal ys zs k.kept f p) ]
      | inr p ↦ inr p
    ];
    have_nodes = k.have_nodes;
    as_many = (let l = h.as_many in let m = k.as_many in omega (arith, l, m));
  }

  -- the name that the search begins with
  pub HaveNodes-more : (old new : BTreeSet Name) (f : Name) (n : Node) → HaveNodes graph old → get name_cmp graph f ≡ Some n →
      ((q : Name) → contains name_cmp new q ≡ cond (is_eq (name_cmp f q)) true (contains name_cmp old q)) → HaveNodes graph new
  HaveNodes-more old new f n have here more g h = elim (said (contains name_cmp old) (contains name_cmp new) f more g h) [
    | inl e ↦ subst (λ x. IsSome (get name_cmp graph x)) e (rw here refl)
    | inr k ↦ have g k
  ]

  -- one exposed name more
  pub passed_more : (goal : Name) (old new : BTreeSet Name) (names : List Name) (k : ℕ) (d : Name) → k < length names →
      ((g : Name) → is_among (take k names) g ≡ true → IsSeen graph old g × (g ≢ goal)) → (slice_index_or names k d ≢ goal) →
      IsSearched graph goal (slice_index_or names k d) old new →
      (g : Name) → is_among (take (k + 1) names) g ≡ true → IsSeen graph new g × (g ≢ goal)
  passed_more goal old new names k d l before other searched g h = elim (among_more names k d g l h) [
    | inl a ↦ (let p = before g a in (still_seen old new searched.1.kept g p.0, p.1))
    | inr e ↦ subst (λ x. IsSeen graph new x × (x ≢ goal)) (sym e) (searched.0, other)
  ]

  -- the search from a name that was put in, after all that the name exposes
  module _ (goal f : Name) (old inserted new : BTreeSet Name) (longer : length inserted.keys ≡ length old.keys + 1)
      (more : (q : Name) → contains name_cmp inserted q ≡ cond (is_eq (name_cmp f q)) true (contains name_cmp old q))
      (searching : IsSearching graph goal inserted new) where
    pub IsSearched-node : (n : Node) (names : List Name) (k : ℕ) → get name_cmp graph f ≡ Some n → names ≡ n.exposed.items → length names ≤ k →
        ((g : Name) → is_among (take k names) g ≡ true → IsSeen graph new g × (g ≢ goal)) → IsSearched graph goal f old new
    IsSearched-node n names k here all l passed = (
      inl (searching.kept f (now_said (contains name_cmp old) (contains name_cmp inserted) f more)),
      record {
        kept = λ g e. searching.kept g (still_said (contains name_cmp old) (contains name_cmp inserted) f more g e);
        passed = λ g e. elim (searching.passed g e) [
          | inl i ↦ elim (said (contains name_cmp old) (contains name_cmp inserted) f more g i) [
            | inl q ↦ inr (subst (IsPassed graph goal new) q (edges-all graph f n names k here all (λ x. IsSeen graph new x × (x ≢ goal)) l passed))
            | inr o ↦ inl o
          ]
          | inr p ↦ inr p
        ];
        have_nodes = searching.have_nodes;
        as_many = (let m = searching.as_many in omega (arith, longer, m));
      },
    )

  -- names with nodes are no more than the nodes
  pub no_more_seen : (seen : BTreeSet Name) → HaveNodes graph seen → IsOrdered name_cmp seen → length seen.keys ≤ length graph.entries
  no_more_seen seen have ordered =
      length-le_from_keys (eq_by_cmp_equiv name_cmp_total) seen.keys graph.entries (IsDistinct-from_sorted name_cmp seen.keys ordered) (λ q h. have q h)

  -- no path leads from a passed name to the goal
  pub no_path : (goal : Name) (seen : BTreeSet Name) → ((f : Name) → contains name_cmp seen f ≡ true → IsPassed graph goal seen f) →
      (f : Name) (names : List Name) → IsSeen graph seen f → IsPath (HasEdge graph) f names goal → ⊥
  no_path goal seen passed f [] (inl h) p = (passed f h goal p).1 refl
  no_path goal seen passed f [] (inr e) p = absurd (let q : Some p.0 ≡ None = sym p.1 ∙ e in cc)
  no_path goal seen passed f (g ∷ names) (inl h) p = no_path goal seen passed g names (passed f h g p.0).0 p.1
  no_path goal seen passed f (g ∷ names) (inr e) p = absurd (let q : Some p.0.0 ≡ None = sym p.0.1 ∙ e in cc)

  -- the path goes on over the next name
  pub LeadsOn-next : (goal from next : Name) (old longer new : List Name) → longer ≡ old ++ from ∷ [] → HasEdge graph from next →
      LeadsOn graph goal next longer new → LeadsOn graph goal from old new
  LeadsOn-next goal from next old longer new e edge led = (
    next ∷ led.0,
    led.1 ∙ ap (λ xs. xs ++ next ∷ led.0) e ∙ append_assoc old (from ∷ []) (next ∷ led.0),
    (edge, led.2),
  )
