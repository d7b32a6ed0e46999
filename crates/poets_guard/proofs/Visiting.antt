-- What a visit of the graph leaves.
use Rattle.std.proofs.Common.{◌≡◌, ℕ, zero, suc, ◌+◌, ◌≤◌, ◌<◌, arith, true, false, min, List, [], ◌∷◌, ◌++◌, length, take, Option, Some, None, refl, sym, ◌∙◌, ap, subst, ◌⊎◌, inl, inr}
use Rattle.std.specs.Prelude.{slice_get, slice_index_or, IsSome, IsTrue, ◌↔◌}
use Rattle.std.specs.Ordering.{is_eq}
use Rattle.std.specs.Cmp.{eq_by_cmp_equiv}
use Rattle.std.specs.Map.{keys_of, lookup}
use Rattle.std.specs.BTreeMap.{BTreeMap, get, IsOrdered}
use Rattle.std.specs.BTreeSet.{contains}
use Rattle.std.proofs.lemmas.Bool.{cases_lt}
use Rattle.std.proofs.lemmas.Option.{slice_get_within, slice_get-get_or}
use Rattle.std.proofs.lemmas.List.{take_all, take-take, length-append, length-take}
use Rattle.std.proofs.Math.Seq.{take-append_seam}
use Rattle.std.proofs.lemmas.Map.Entries.{length-keys_of}
use Rattle.std.proofs.lemmas.Map.Keys.{IsDistinct-from_sorted}
use Rattle.std.proofs.lemmas.Map.Made.{is_some-lookup}
use Rattle.std.proofs.lemmas.Map.Steps.{length-le_from_keys}
use Rattle.poets_value.specs.declared.value.Name.{Name}
use Rattle.poets_value.specs.Names.{name_cmp}
use Rattle.poets_value.proofs.Orders.{name_cmp_total}
use Rattle.poets_expr.specs.Env.{same_name}
use Rattle.poets_expr.proofs.SameTrees.{name_one}
use Rattle.poets_syntax.specs.Typed.{is_among}
use Rattle.poets_syntax.proofs.Replacing.{truth}
use Rattle.poets_meaning.specs.Guarded.{IsPath}
use Rattle.poets_meaning.proofs.Guarding.{further}
use Rattle.poets_guard.specs.declared.graph.Node.{Node}
use Rattle.poets_guard.specs.declared.visits.Visits.{Visits}
use Rattle.poets_guard.specs.code.Graph.{HasEdge}
use Rattle.poets_guard.specs.code.Walks.{Reaches}
use Rattle.poets_guard.specs.FirstCycle.{LiesOnCycle}
use Rattle.poets_guard.specs.code.Visited.{IsOpenAt, AllLead, IsFrom, LeadsFrom, IsClosed, IsDone, AreRight, AreGrown, AreOpened, IsVisited, IsPushed}
use Rattle.poets_guard.proofs.Places.{name_cmp-same, same_name-self, same_name-one}
use Rattle.poets_guard.proofs.Walking.{among_more, path_node}

-- ---- names on the stack

slice_get-take : (n : ℕ) (xs : List Name) (k : ℕ) → k < n → slice_get (take n xs) k ≡ slice_get xs k
slice_get-take zero xs k l = absurd (omega (arith, l))
slice_get-take (suc n) [] k l = refl
slice_get-take (suc n) (x ∷ xs) zero l = refl
slice_get-take (suc n) (x ∷ xs) (suc k) l = slice_get-take n xs k (omega (arith, l))

slice_get-last : (xs : List Name) (f : Name) → slice_get (xs ++ f ∷ []) (length xs) ≡ Some f
slice_get-last [] f = refl
slice_get-last (x ∷ xs) f = slice_get-last xs f

slice_get-push : (xs : List Name) (f : Name) (k : ℕ) (g : Name) → slice_get (xs ++ f ∷ []) k ≡ Some g → (slice_get xs k ≡ Some g) ⊎ (f ≡ g)
slice_get-push [] f zero g h = inr cc
slice_get-push [] f (suc k) g h = absurd cc
slice_get-push (x ∷ xs) f zero g h = inl h
slice_get-push (x ∷ xs) f (suc k) g h = slice_get-push xs f k g h

-- a name is open at a height, or not
open-or : (visits : Visits) (k : ℕ) (f : Name) → IsOpenAt visits k f ⊎ ¬ (IsOpenAt visits k f)
open-or visits k f = by (slice_get visits.stack.items k) refl
  where
    by : (o : Option Name) → slice_get visits.stack.items k ≡ o → IsOpenAt visits k f ⊎ ¬ (IsOpenAt visits k f)
    by None e = inr (λ h. absurd (let q = sym e ∙ h in cc))
    by (Some g) e = elim (truth (same_name g f)) [
      | inl t ↦ inl (e ∙ ap Some (name_one g f t))
      | inr t ↦ inr (λ h. absurd (let same : g ≡ f = (let q = sym e ∙ h in cc) in let q = sym (same_name-one g f same) ∙ t in cc))
    ]

pub not-open : (visits : Visits) (k n : ℕ) (f : Name) → n ≡ length visits.stack.items → n ≤ k → IsOpenAt visits k f → ⊥
not-open visits k n f e l h = let w = slice_get_within visits.stack.items k f h in absurd (omega (arith, w, e, l))

-- ---- one visit after another

unlike : {k : ℕ} {o : Option ℕ} → o ≡ Some k → o ≡ None → ⊥
unlike e n = absurd (let q = sym e ∙ n in cc)

module _ (old new : Visits) (g : AreGrown old new) where
  same-below : (k : ℕ) → k < length old.stack.items → slice_get old.stack.items k ≡ slice_get new.stack.items k
  same-below k l = ap (λ xs. slice_get xs k) (sym g.stack) ∙ slice_get-take (length old.stack.items) new.stack.items k l

  still-open : (k : ℕ) (f : Name) → IsOpenAt old k f → IsOpenAt new k f
  still-open k f s = sym (same-below k (slice_get_within old.stack.items k f s)) ∙ s

  -- what is closed stays so
  was-open : (k : ℕ) (f : Name) → get name_cmp old.heights f ≡ Some k → IsOpenAt new k f → IsOpenAt old k f
  was-open k f e s = elim (cases_lt k (length old.stack.items)) [
    | inl l ↦ same-below k l ∙ s
    | inr l ↦ absurd (unlike e (g.fresh k f l s))
  ]

  was-fresh : (f : Name) → get name_cmp new.heights f ≡ None → get name_cmp old.heights f ≡ None
  was-fresh f n = by (get name_cmp old.heights f) refl
    where
      by : (o : Option ℕ) → get name_cmp old.heights f ≡ o → get name_cmp old.heights f ≡ None
      by None e = e
      by (Some k) e = absurd (unlike (g.kept f k e) n)

pub AreGrown-self : (visits : Visits) → AreGrown visits visits
AreGrown-self visits = record {
  kept = λ f k e. e;
  stack = take_all (length visits.stack.items) visits.stack.items (omega arith);
  fresh = λ k f l s. absurd (not-open visits k (length visits.stack.items) f refl l s);
  still = λ f h. h;
  as_many = omega arith;
}

AreGrown-trans : (xs ys zs : Visits) → AreGrown xs ys → AreGrown ys zs → AreGrown xs zs
AreGrown-trans xs ys zs g h = record {
  kept = λ f k e. h.kept f k (g.kept f k e);
  stack = (let l = length-take (length xs.stack.items) ys.stack.items in let e = ap length g.stack in
      sym (take-take (length xs.stack.items) (length ys.stack.items) zs.stack.items (omega (arith, l, e))) ∙ ap (take (length xs.stack.items)) h.stack ∙ g.stack);
  fresh = λ k f l s. elim (cases_lt k (length ys.stack.items)) [
    | inl b ↦ g.fresh k f l (same-below ys zs h k b ∙ s)
    | inr b ↦ was-fresh xs ys g f (h.fresh k f b s)
  ];
  still = λ f e. h.still f (g.still f e);
  as_many = (let l = g.as_many in let m = h.as_many in omega (arith, l, m));
}

module _ (graph : BTreeMap Name Node) where
  Reaches-trans : (f g h : Name) (names : List Name) → IsPath (HasEdge graph) f names g → Reaches graph g h → Reaches graph f h
  Reaches-trans f g h [] e r = (g ∷ r.0, (e, r.1))
  Reaches-trans f g h (x ∷ names) e r = let l = Reaches-trans x g h names e.1 r in (x ∷ l.0, (e.0, l.1))

  IsFrom-to : (old new : Visits) (least less : ℕ) (f : Name) → ((k : ℕ) → get name_cmp old.heights f ≡ Some k → get name_cmp new.heights f ≡ Some k) →
      ((k : ℕ) → get name_cmp old.heights f ≡ Some k → (IsOpenAt old k f → least ≤ k) → IsOpenAt new k f → less ≤ k) →
      IsFrom graph old least f → IsFrom graph new less f
  IsFrom-to old new least less f kept from (inl e) = inl e
  IsFrom-to old new least less f kept from (inr h) = inr (h.0, kept h.0 h.1, from h.0 h.1 h.2)

  pub IsFrom-later : (old new : Visits) (least less : ℕ) (f : Name) → AreGrown old new → less ≤ least → IsFrom graph old least f → IsFrom graph new less f
  IsFrom-later old new least less f g le h = IsFrom-to old new least less f (g.kept f) (λ k e from s. let l = from (was-open old new g k f e s) in omega (arith, le, l)) h

  pub IsFrom-less : (visits : Visits) (least less : ℕ) (f : Name) → less ≤ least → IsFrom graph visits least f → IsFrom graph visits less f
  IsFrom-less visits least less f le h = IsFrom-later visits visits least less f (AreGrown-self visits) le h

  pub AreOpened-self : (visits : Visits) (least : ℕ) → AreRight graph visits → AreOpened graph least visits visits
  AreOpened-self visits least right = record {
    grown = AreGrown-self visits;
    above = λ k f l s. absurd (not-open visits k (length visits.stack.items) f refl l s);
    back = λ f h. h;
    right = right;
  }

  pub AreOpened-trans : (least next : ℕ) (xs ys zs : Visits) → AreOpened graph least xs ys → AreOpened graph next ys zs → AreOpened graph (min least next) xs zs
  AreOpened-trans least next xs ys zs a b = record {
    grown = AreGrown-trans xs ys zs a.grown b.grown;
    above = λ k f l s. elim (cases_lt k (length ys.stack.items)) [
      | inl low ↦ (let o = a.above k f l (same-below ys zs b.grown k low ∙ s) in (b.grown.still f o.0, λ g e. IsFrom-later ys zs least (min least next) g b.grown (omega arith) (o.1 g e)))
      | inr high ↦ (let o = b.above k f high s in (o.0, λ g e. IsFrom-less zs next (min least next) g (omega arith) (o.1 g e)))
    ];
    back = λ f h. b.back f (a.back f h);
    right = b.right;
  }

  -- a name that is not visited now
  pub IsVisited-before : (visits : Visits) (f : Name) (least : ℕ) → AreRight graph visits → IsFrom graph visits least f →
      ((g : Name) → IsOpenAt visits least g → f ≡ g) → IsVisited graph f least visits visits
  IsVisited-before visits f least right from way = record { opened = AreOpened-self visits least right; here = from; way = λ g s. inl (way g s) }

  -- visited names have nodes, and so are no more
  pub few : (heights : BTreeMap Name ℕ) → IsOrdered name_cmp heights → ((f : Name) → IsSome (get name_cmp heights f) → IsSome (get name_cmp graph f)) → length heights.entries ≤ length graph.entries
  few heights ordered have =
      let l = length-le_from_keys (eq_by_cmp_equiv name_cmp_total) (keys_of heights.entries) graph.entries (IsDistinct-from_sorted name_cmp (keys_of heights.entries) ordered)
      (λ q h. have q (is_some-lookup (λ x. is_eq (name_cmp q x)) heights.entries ∙ h)) in
      rw length-keys_of at l

  -- one exposed name more
  module _ (old new : Visits) (grown : AreGrown old new) (least next : ℕ) where
    pub seen-more : (names : List Name) (k : ℕ) (d : Name) → k < length names → ((g : Name) → is_among (take k names) g ≡ true → IsFrom graph old least g) →
        IsFrom graph new next (slice_index_or names k d) → (g : Name) → is_among (take (k + 1) names) g ≡ true → IsFrom graph new (min least next) g
    seen-more names k d l before here g h = elim (among_more names k d g l h) [
      | inl a ↦ IsFrom-later old new least (min least next) g grown (omega arith) (before g a)
      | inr e ↦ subst (IsFrom graph new (min least next)) (sym e) (IsFrom-less new next (min least next) (slice_index_or names k d) (omega arith) here)
    ]

  pub way-more : (start old : Visits) (least next : ℕ) (f x : Name) → AreGrown start old → HasEdge graph f x → ((g : Name) → IsOpenAt start least g → Reaches graph f g) →
      ((g : Name) → IsOpenAt old next g → (x ≡ g) ⊎ Reaches graph x g) → (g : Name) → IsOpenAt start (min least next) g → Reaches graph f g
  way-more start old least next f x grown edge before here g s = elim (cases_lt least next) [
    | inl l ↦ before g (subst (λ k. IsOpenAt start k g) (let e : min least next ≡ least = omega (arith, l) in e) s)
    | inr l ↦ elim (here g (still-open start old grown next g (subst (λ k. IsOpenAt start k g) (let e : min least next ≡ next = omega (arith, l) in e) s))) [
      | inl e ↦ ([], subst (HasEdge graph f) e edge)
      | inr r ↦ (x ∷ r.0, (edge, r.1))
    ]
  ]

-- ---- a name put on the stack

module _ (f : Name) (height : ℕ) (old new : Visits) (pushed : IsPushed f height old new) where
  height-at : (g : Name) → ((f ≡ g) × (get name_cmp new.heights g ≡ Some height)) ⊎ (get name_cmp new.heights g ≡ get name_cmp old.heights g)
  height-at g = elim (truth (same_name f g)) [
    | inl e ↦ inl (name_one f g e, rw (name_cmp-same f g ∙ e) at (pushed.heights g))
    | inr e ↦ inr (rw (name_cmp-same f g ∙ e) at (pushed.heights g))
  ]

  height-top : get name_cmp new.heights f ≡ Some height
  height-top = rw (name_cmp-same f f ∙ same_name-self f) at (pushed.heights f)

  pub longer : length new.stack.items ≡ height + 1
  longer = ap length pushed.stack ∙ length-append old.stack.items (f ∷ []) ∙ ap (λ n. n + 1) (sym pushed.top)

  open-top : IsOpenAt new height f
  open-top = rw (pushed.stack, pushed.top) (slice_get-last old.stack.items f)

  pushed-or : (k : ℕ) (g : Name) → IsOpenAt new k g → (IsOpenAt old k g) ⊎ (f ≡ g)
  pushed-or k g s = slice_get-push old.stack.items f k g (rw pushed.stack at s)

  AreGrown-pushed : AreGrown old new
  AreGrown-pushed = record {
    kept = λ g k e. elim (height-at g) [
      | inl p ↦ absurd (unlike e (subst (λ x. get name_cmp old.heights x ≡ None) p.0 pushed.fresh))
      | inr p ↦ p ∙ e
    ];
    stack = rw pushed.stack (take-append_seam old.stack.items (f ∷ []));
    fresh = λ k g l s. elim (pushed-or k g s) [
      | inl o ↦ absurd (not-open old k (length old.stack.items) g refl l o)
      | inr e ↦ subst (λ x. get name_cmp old.heights x ≡ None) e pushed.fresh
    ];
    still = λ g h. rw pushed.on_cycles h;
    as_many = (let m = pushed.as_many in omega (arith, m));
  }

  closed-before : (g : Name) → IsClosed new g → IsClosed old g
  closed-before g c = elim (height-at g) [
    | inl p ↦ absurd (let k : height ≡ c.0 = (let q = sym p.1 ∙ c.1 in cc) in let s : IsOpenAt new c.0 g = subst (λ n. IsOpenAt new n g) k
        (subst (λ x. IsOpenAt new height x) p.0 open-top) in c.2 s)
    | inr p ↦ (
      c.0,
      sym p ∙ c.1,
      λ s. c.2 (still-open old new AreGrown-pushed c.0 g s),
    )
  ]

  pub AreRight-pushed : (graph : BTreeMap Name Node) (n : Node) → get name_cmp graph f ≡ Some n → AreRight graph old → AreRight graph new
  AreRight-pushed graph n here right = record {
    have_nodes = λ g h. elim (height-at g) [
      | inl p ↦ subst (λ x. IsSome (get name_cmp graph x)) p.0 (rw here refl)
      | inr p ↦ right.have_nodes g (subst IsSome p h)
    ];
    done = λ g c. (let d = right.done g (closed-before g c) in (λ least x e. IsFrom-later graph old new least least x AreGrown-pushed (omega arith) (d.0 least x e), rw pushed.on_cycles d.1));
    sound = λ g h. right.sound g (rw pushed.on_cycles at h);
  }

  -- what leads to the name leads to the next
  pub AllLead-next : (graph : BTreeMap Name Node) (x : Name) → AllLead graph old f → HasEdge graph f x → AllLead graph new x
  AllLead-next graph x lead edge k g s = elim (pushed-or k g s) [
    | inl o ↦ (let r = lead k g o in further (HasEdge graph) g f x r.0 r.1 edge)
    | inr e ↦ ([], subst (λ y. HasEdge graph y x) e edge)
  ]

-- ---- the end of a visit

-- a name that leads to its height or below it is marked
pub record IsNoted (f : Name) (height least : ℕ) (old new : Visits) : Type 0 where
  pub heights : new.heights ≡ old.heights
  pub on_cycle : least ≤ height → contains name_cmp new.on_cycles f ≡ true
  pub others : (g : Name) → contains name_cmp new.on_cycles g ≡ true → (contains name_cmp old.on_cycles g ≡ true) ⊎ ((least ≤ height) × (f ≡ g))
  pub still : (g : Name) → contains name_cmp old.on_cycles g ≡ true → contains name_cmp new.on_cycles g ≡ true

module _ (graph : BTreeMap Name Node) (f : Name) (node : Node) (here : get name_cmp graph f ≡ Some node) (height least : ℕ) (old start now new : Visits) (pushed : IsPushed f height old start)
    (opened : AreOpened graph least start now) (leads : LeadsFrom graph now least f) (way : (g : Name) → IsOpenAt start least g → Reaches graph f g)
    (lead : AllLead graph old f) (noted : IsNoted f height least now new) where
  grown : AreGrown old now
  grown = AreGrown-trans old start now (AreGrown-pushed f height old start pushed) opened.grown

  place : get name_cmp now.heights f ≡ Some height
  place = opened.grown.kept f height (height-top f height old start pushed)

  on_cycle : least ≤ height → LiesOnCycle (HasEdge graph) f
  on_cycle l =
      let g = slice_index_or start.stack.items least f in
      let s = slice_get-get_or start.stack.items least f (let e = longer f height old start pushed in omega (arith, l, e)) in
      let r = way g s in
      elim (pushed-or f height old start pushed least g s) [
        | inl o ↦ Reaches-trans graph f g f r.0 r.1 (lead least g o)
        | inr e ↦ subst (Reaches graph f) (sym e) r
      ]

  -- where it leads to open names above it alone, so do these
  higher : height < least → (g : Name) → IsFrom graph now (height + 1) g → LeadsFrom graph now (height + 1) g
  higher l g (inl none) x e = absurd (let q = sym e.1 ∙ none in cc)
  higher l g (inr h) x e = elim (open-or now h.0 g) [
    | inl s ↦ IsFrom-less graph now least (height + 1) x (omega (arith, l)) ((opened.above h.0 g (let from = h.2 s in let e = longer f height old start pushed in omega (arith, from, e)) s).1 x e)
    | inr s ↦ (opened.right.done g (h.0, h.1, s)).0 (height + 1) x e
  ]

  no_way : height < least → (names : List Name) (g : Name) → LeadsFrom graph now (height + 1) g → IsPath (HasEdge graph) g names f → ⊥
  no_way l [] g from e = elim (from f e) [
    | inl none ↦ absurd (let q = sym here ∙ none in cc)
    | inr h ↦ (let k : height ≡ h.0 = (let q = sym place ∙ h.1 in cc) in
        let m = h.2 (subst (λ n. IsOpenAt now n f) k (still-open start now opened.grown height f (open-top f height old start pushed))) in absurd (omega (arith, k, m)))
  ]
  no_way l (x ∷ names) g from e = no_way l names x (higher l x (from x e.0)) e.1

  decided : (contains name_cmp new.on_cycles f ≡ true) ⊎ ¬ (LiesOnCycle (HasEdge graph) f)
  decided = elim (cases_lt height least) [
    | inl l ↦ inr (λ c. no_way l c.0 f (λ x e. IsFrom-less graph now least (height + 1) x (omega (arith, l)) (leads x e)) c.1)
    | inr l ↦ inl (noted.on_cycle l)
  ]

  -- it, or a name that was opened after it
  those : (k : ℕ) (g : Name) → height ≤ k → IsOpenAt now k g → (f ≡ g) ⊎ ((contains name_cmp new.on_cycles g ≡ true) × LeadsFrom graph now least g)
  those k g l s = elim (cases_lt k (length start.stack.items)) [
    | inl low ↦ elim (pushed-or f height old start pushed k g (same-below start now opened.grown k low ∙ s)) [
      | inl o ↦ absurd (not-open old k height g pushed.top l o)
      | inr e ↦ inl e
    ]
    | inr high ↦ inr (let o = opened.above k g high s in (noted.still g o.0, o.1))
  ]

  -- where names are taken from the stack that are done
  right : ((k : ℕ) (g : Name) → IsOpenAt new k g → IsOpenAt now k g) →
      ((k : ℕ) (g : Name) → IsOpenAt now k g → ¬ (IsOpenAt new k g) → IsDone graph new g) → AreRight graph new
  right lower taken = record {
    have_nodes = λ g h. opened.right.have_nodes g (rw noted.heights at h);
    done = λ g c. elim (open-or now c.0 g) [
      | inl s ↦ taken c.0 g s c.2
      | inr s ↦ (let d = opened.right.done g (c.0, rw noted.heights at c.1, s) in (
        λ m x e. IsFrom-to graph now new m m x (λ k i. rw noted.heights i) (λ k i from t. from (lower k x t)) (d.0 m x e),
        elim d.1 [ inl h ↦ inl (noted.still g h) | inr n ↦ inr n ],
      ))
    ];
    sound = λ g h. elim (noted.others g h) [
      | inl o ↦ opened.right.sound g o
      | inr p ↦ subst (LiesOnCycle (HasEdge graph)) p.1 (on_cycle p.0)
    ];
  }

  visited : (m : ℕ) → m ≤ height → (m < height → m ≡ least) → take (length old.stack.items) new.stack.items ≡ old.stack.items →
      ((k : ℕ) (g : Name) → height ≤ k → IsOpenAt new k g →
      (get name_cmp old.heights g ≡ None) × ((contains name_cmp new.on_cycles g ≡ true) × LeadsFrom graph new m g)) →
      ((g : Name) → AllLead graph old g → AllLead graph new g) → AreRight graph new → IsVisited graph f m old new
  visited m low is cut above back sound = record {
    opened = record {
      grown = record {
        kept = λ g k i. rw noted.heights (grown.kept g k i);
        stack = cut;
        fresh = λ k g l s. (above k g (let e = pushed.top in omega (arith, l, e)) s).0;
        still = λ g h. noted.still g (grown.still g h);
        as_many = rw noted.heights grown.as_many;
      };
      above = λ k g l s. (above k g (let e = pushed.top in omega (arith, l, e)) s).1;
      back = back;
      right = sound;
    };
    here = inr (height, rw noted.heights place, λ _. low);
    way = λ g s. inr (way g (subst (λ k. IsOpenAt start k g) (is (let w = slice_get_within old.stack.items m g s in let e = pushed.top in omega (arith, w, e)))
        (still-open old start (AreGrown-pushed f height old start pushed) m g s)));
  }

  -- the name stays open where it leads to one below it
  pub IsVisited-open : new.stack.items ≡ now.stack.items → least < height → IsVisited graph f least old new
  IsVisited-open same l =
      visited least (omega (arith, l)) (λ _. refl) (rw same grown.stack)
      (λ k g high s. let t = rw same at s in (
        grown.fresh k g (let e = pushed.top in omega (arith, high, e)) t,
        elim (those k g high t) [
          | inl e ↦ subst (λ y. (contains name_cmp new.on_cycles y ≡ true) × LeadsFrom graph new least y) e (noted.on_cycle (omega (arith, l)), λ x i. later x (leads x i))
          | inr p ↦ (p.0, λ x i. later x (p.1 x i))
        ],
      ))
      (λ g h. rw same (opened.back g (λ k x s. elim (pushed-or f height old start pushed k x s) [ inl o ↦ h k x o | inr e ↦ subst (λ y. Reaches graph y g) e (onward g h) ])))
      (right (λ k g s. rw same at s) (λ k g s t. absurd (t (rw same s))))
    where
      later : (x : Name) → IsFrom graph now least x → IsFrom graph new least x
      later x h = IsFrom-to graph now new least least x (λ k i. rw noted.heights i) (λ k i from s. from (rw same at s)) h

      onward : (g : Name) → AllLead graph old g → Reaches graph f g
      onward g h =
          let x = slice_index_or old.stack.items least f in
          let s = slice_get-get_or old.stack.items least f (let e = pushed.top in omega (arith, l, e)) in
          let r = way x (still-open old start (AreGrown-pushed f height old start pushed) least x s) in
          Reaches-trans graph f x g r.0 r.1 (h least x s)

  -- and is closed with those above it where it leads to none
  pub IsVisited-closed : new.stack.items ≡ take height now.stack.items → height ≤ least → IsVisited graph f height old new
  IsVisited-closed cut l =
      visited height (omega arith) (λ m. absurd (omega (arith, m))) (ap (take (length old.stack.items)) same ∙ take_all (length old.stack.items) old.stack.items (omega arith))
      (λ k g high s. absurd (not-open old k height g pushed.top high (rw same at s))) (λ g h. rw same h)
      (right (λ k g s. still-open old now grown k g (rw same at s)) (λ k g s t. elim (cases_lt k height) [
        | inl low ↦ absurd (t (rw same (same-below old now grown k (let e = pushed.top in omega (arith, low, e)) ∙ s)))
        | inr high ↦ elim (those k g high s) [
          | inl e ↦ subst (IsDone graph new) e (λ m x i. shut m x (leads x i), decided)
          | inr p ↦ (λ m x i. shut m x (p.1 x i), inl p.0)
        ]
      ]))
    where
      same : new.stack.items ≡ old.stack.items
      same = cut ∙ rw pushed.top grown.stack

      shut : (m : ℕ) (x : Name) → IsFrom graph now least x → IsFrom graph new m x
      shut m x h = IsFrom-to graph now new least m x (λ k i. rw noted.heights i) (λ k i from s. let o = rw same at s in let high = from (still-open old now grown k x o) in
          absurd (not-open old k height x pushed.top (omega (arith, l, high)) o)) h

-- ---- all templates

module _ (graph : BTreeMap Name Node) where
  pub AreRight-empty : (visits : Visits) → visits.heights.entries ≡ [] → visits.on_cycles.keys ≡ [] → AreRight graph visits
  AreRight-empty visits none no_cycles = record {
    have_nodes = λ f h. absurd (let q : false ≡ true = subst (λ o. IsSome o) (unvisited f) h in cc);
    done = λ f c. absurd (unlike c.1 (unvisited f));
    sound = λ f h. absurd (let q : false ≡ true = sym (ap (λ xs. contains name_cmp (record { keys = xs }) f) no_cycles) ∙ h in cc);
  }
    where
      unvisited : (f : Name) → get name_cmp visits.heights f ≡ None
      unvisited f = ap (lookup (λ x. is_eq (name_cmp f x))) none

module _ (graph : BTreeMap Name Node) (empty visits : Visits) (none : empty.stack.items ≡ []) (opened : AreOpened graph 0 empty visits) where
  -- all names that are open lead anywhere, as there is none at first
  pub AllLead-any : (f : Name) → AllLead graph visits f
  AllLead-any f = opened.back f (λ k g s. absurd (not-open empty k 0 g (sym (ap length none)) (omega arith) s))

  pub AreOpened-more : (least : ℕ) (new : Visits) → AreOpened graph least visits new → AreOpened graph 0 empty new
  AreOpened-more least new more = subst (λ k. AreOpened graph k empty new) (let e : min 0 least ≡ 0 = omega arith in e) (AreOpened-trans graph 0 least empty visits new opened more)

  -- a visited name is on a cycle exactly if it was found to be
  pub on_cycles-exact : (f : Name) → (IsSome (get name_cmp graph f) → IsFrom graph visits 0 f) → IsTrue (contains name_cmp visits.on_cycles f) ↔ LiesOnCycle (HasEdge graph) f
  on_cycles-exact f seen = (
    opened.right.sound f,
    λ c. let node = path_node graph f f c.0 c.1 in elim (seen node) [
      | inl n ↦ absurd (let q : false ≡ true = subst (λ o. IsSome o) n node in cc)
      | inr h ↦ elim (open-or visits h.0 f) [
        | inl s ↦ (opened.above h.0 f (let e = ap length none in omega (arith, e)) s).0
        | inr s ↦ elim (opened.right.done f (h.0, h.1, s)).1 [ inl m ↦ m | inr n ↦ absurd (n c) ]
      ]
    ],
  )
