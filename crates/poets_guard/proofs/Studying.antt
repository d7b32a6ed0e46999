-- What the marks of the templates and the first cycle say of the book.
use Rattle.std.proofs.Common.{◌≡◌, ℕ, suc, ◌+◌, arith, Bool, true, false, ◌||◌, ◌&&◌, List, [], ◌∷◌, map, Option, Some, None, refl, sym, ◌∙◌, ap, ap₂, subst, inl, inr, ◌↔◌, IsTrue}
use Rattle.std.specs.Prelude.{slice_index_or, option_map, sum_by, IsSome}
use Rattle.std.specs.List.{AllZip}
use Rattle.std.specs.BTreeMap.{BTreeMap, get}
use Rattle.std.proofs.lemmas.List.Sums.{sum_by-cons, sum_by-append}
use Rattle.poets_value.specs.declared.value.Name.{Name}
use Rattle.poets_value.specs.Names.{name_cmp}
use Rattle.poets_expr.specs.Env.{same_name}
use Rattle.poets_expr.proofs.SameTrees.{name_one}
use Rattle.poets_syntax.specs.declared.term.Book.{Book}
use Rattle.poets_syntax.specs.declared.term.Template.{Template}
use Rattle.poets_syntax.specs.Contract.{Contract}
use Rattle.poets_syntax.specs.Book.{template_of, book_of, template_in}
use Rattle.poets_syntax.specs.Checked.{IsChecked}
use Rattle.poets_syntax.specs.Applied.{BodiesFit}
use Rattle.poets_syntax.specs.Typed.{is_among}
use Rattle.poets_syntax.specs.Plain as plain
use Rattle.poets_syntax.proofs.Replacing.{truth}
use Rattle.poets_syntax.proofs.Counts.{CountsFit-fit}
use Rattle.poets_syntax.proofs.TypingRules.{BodiesFit-typed}
use Rattle.poets_meaning.specs.declared.studied.Mark.{Mark}
use Rattle.poets_meaning.specs.Marks.{Marks, AreRight, Nullable, Hopeful, BodySatisfies, nullable}
use Rattle.poets_meaning.specs.Guarded.{UnguardedEdge, IsPath, IsCycle, IsGuarded}
use Rattle.poets_meaning.specs.Width.{wide_by, body_in, width, cut}
use Rattle.poets_meaning.specs.Studied.{marks_in, IsRightMark, IsStudiedBook}
use Rattle.poets_meaning.proofs.StudiedMarks.{has_mark_iff}
use Rattle.poets_meaning.proofs.Unfolded.{width-unfolded}
use Rattle.poets_guard.specs.declared.graph.Node.{Node}
use Rattle.poets_guard.specs.code.Endings.{ends, MayEnd, IsExact}
use Rattle.poets_guard.specs.FirstCycle.{IsFirstOf, IsFirstCycle}
use Rattle.poets_guard.specs.code.Graph.{own, exposures, held, holding, IsGraph, HasEdge}
use Rattle.poets_guard.specs.code.Marked.{IsMarked}
use Rattle.poets_guard.specs.code.Searched.{HasNodesOf}
use Rattle.poets_guard.specs.code.Walks.{PathsEnd, width_at, IsWidthOf, HasWidth}
use Rattle.poets_guard.proofs.Places.{same_name-self, own_template, StandsAt}
use Rattle.poets_guard.proofs.Marking.{one_template, or_second}
use Rattle.poets_guard.proofs.Walking.{no_cycle}
use Rattle.poets_guard.proofs.Exposing.{MayEnd-nullable, MayEnd-hopeful, node_out, edge_in, edge_out, IsPath-alike}

-- ---- widths

ends-nullable : (marks : Marks) (c : Contract) → ends false marks.nullable c ≡ nullable marks c
ends-nullable marks Contract.Success = refl
ends-nullable marks Contract.Failure = refl
ends-nullable marks (Contract.Transmit b p c) = refl
ends-nullable marks (Contract.Plus a b) = ap₂ (λ x y. x || y) (ends-nullable marks a) (ends-nullable marks b)
ends-nullable marks (Contract.Par a b) = ap₂ (λ x y. x && y) (ends-nullable marks a) (ends-nullable marks b)
ends-nullable marks (Contract.Seq a b) = ap₂ (λ x y. x && y) (ends-nullable marks a) (ends-nullable marks b)
ends-nullable marks (Contract.App f args) = refl

-- the width is one's own, and those of the exposed names
wide_by-own : (w : Name → ℕ) (marks : Marks) (c : Contract) → wide_by w marks c ≡ own marks.nullable c + sum_by w (exposures marks.nullable c)
wide_by-own w marks Contract.Success = refl
wide_by-own w marks Contract.Failure = refl
wide_by-own w marks (Contract.Transmit b p c) = omega arith
wide_by-own w marks (Contract.Plus a b) =
    let l = wide_by-own w marks a in let r = wide_by-own w marks b in
    let s = sum_by-append w (exposures marks.nullable a) (exposures marks.nullable b) in omega (arith, l, r, s)
wide_by-own w marks (Contract.Par a b) =
    let l = wide_by-own w marks a in let r = wide_by-own w marks b in
    let s = sum_by-append w (exposures marks.nullable a) (exposures marks.nullable b) in omega (arith, l, r, s)
wide_by-own w marks (Contract.Seq a b) =
    let l = wide_by-own w marks a in
    let same = ends-nullable marks a in
    elim (truth (nullable marks a)) [
      | inl e ↦ (let r = wide_by-own w marks b in let s = sum_by-append w (exposures marks.nullable a) (exposures marks.nullable b) in
          rw (same, e) (omega (arith, l, r, s)))
      | inr e ↦ (let s = sum_by-append w (exposures marks.nullable a) [] in rw (same, e) (omega (arith, l, s)))
    ]
wide_by-own w marks (Contract.App f args) = let s = sum_by-cons w f [] in omega (arith, s)

-- cutting each and cutting the sum
cut-sum : (w : Name → ℕ) (names : List Name) (n : ℕ) → cut (n + sum_by (λ f. cut (w f)) names) ≡ cut (n + sum_by w names)
cut-sum w [] n = refl
cut-sum w (f ∷ names) n =
    let rest = cut-sum w names (n + cut (w f)) in
    let s = sum_by-cons (λ g. cut (w g)) f names in let t = sum_by-cons w f names in
    omega (arith, rest, s, t)

cut-own : (a m n : ℕ) → m ≡ cut a → cut (m + n) ≡ cut (a + n)
cut-own a m n e = omega (arith, e)

-- ---- marks

-- what is found of a template
pub record IsFound (book : plain.Book) (graph : BTreeMap Name Node) (t : plain.Template) (m : Mark) : Type 0 where
  pub named : template_in book.templates t.name ≡ Some t
  pub nullable : IsTrue m.nullable ↔ Nullable book t.body
  pub hopeful : IsTrue m.hopeful ↔ Hopeful book t.body
  pub wide : HasWidth graph t.name m.wide

-- a mark that is exact of the name is exact of the template's body
of_body : (book : plain.Book) (Is Is' : Contract → Type 0) (t : plain.Template) (b : Bool) (says : Name → Bool) → template_in book.templates t.name ≡ Some t →
    ((c : Contract) → Is c ↔ Is' c) → ((f : Name) → IsTrue (says f) ↔ BodySatisfies book Is f) → b ≡ says t.name → IsTrue b ↔ Is' t.body
of_body book Is Is' t b says named same exact e = (
  λ h. (let u = (exact t.name).0 (subst IsTrue e h) in (same t.body).0 (subst (λ v. Is v.body) (one_template u.1 named) u.2)),
  λ h. subst IsTrue (sym e) ((exact t.name).1 (t, named, (same t.body).1 h)),
)

zip_at : (R : Template → Mark → Type 0) (S : plain.Template → Mark → Type 0) (templates : List Template) (marks : List Mark) →
    ((k : ℕ) (t : Template) (m : Mark) → StandsAt templates k t → R t m → S (template_of t) m) → AllZip R templates marks → AllZip S (map template_of templates) marks
zip_at R S [] [] to h = tt
zip_at R S [] (m ∷ marks) to h = absurd h
zip_at R S (t ∷ templates) [] to h = absurd h
zip_at R S (t ∷ templates) (m ∷ marks) to h = (
  to 0 t m (record { within = omega arith; is = refl }) h.0,
  zip_at R S templates marks (λ k u n s r. to (suc k) u n (record { within = (let l = s.within in omega (arith, l)); is = s.is }) r) h.1,
)

zip_weaker : (R S : plain.Template → Mark → Type 0) (templates : List plain.Template) (marks : List Mark) → ((t : plain.Template) (m : Mark) → R t m → S t m) →
    AllZip R templates marks → AllZip S templates marks
zip_weaker R S [] [] to h = tt
zip_weaker R S [] (m ∷ marks) to h = absurd h
zip_weaker R S (t ∷ templates) [] to h = absurd h
zip_weaker R S (t ∷ templates) (m ∷ marks) to h = (to t m h.0, zip_weaker R S templates marks to h.1)

zip_named : (R : plain.Template → Mark → Type 0) (templates : List plain.Template) (marks : List Mark) (f : Name) (t : plain.Template) → AllZip R templates marks →
    template_in templates f ≡ Some t → (m : Mark) × R t m × (t.name ≡ f)
zip_named R [] marks f t h i = absurd cc
zip_named R (u ∷ templates) [] f t h i = absurd h
zip_named R (u ∷ templates) (m ∷ marks) f t h i = elim (truth (same_name u.name f)) [
  | inl e ↦ (let q : Some u ≡ Some t = rw e at i in let p : u ≡ t = cc in (m, subst (λ v. R v m) p h.0, ap (λ v. v.name) (sym p) ∙ name_one u.name f e))
  | inr e ↦ zip_named R templates marks f t h.1 (rw e at i)
]

same_tests : (a b : Bool) → (IsTrue a → IsTrue b) → (IsTrue b → IsTrue a) → a ≡ b
same_tests true true h k = refl
same_tests false false h k = refl
same_tests true false h k = absurd (let e = h refl in cc)
same_tests false true h k = absurd (let e = k refl in cc)

module _ (book : plain.Book) (fit : BodiesFit book) (says : Name → Bool) (exact : IsExact book false says)
    (graph : BTreeMap Name Node) (is : IsGraph book.templates says graph) (ms : List Mark) (found : AllZip (IsFound book graph) book.templates ms) where
  marks : Marks
  marks = marks_in book.templates ms

  right : AreRight book (marks_in book.templates ms)
  right = record {
    nullable = has_mark_iff (Nullable book) (λ m. m.nullable) (IsFound book graph) (λ t m r. r.nullable) book.templates ms found;
    hopeful = has_mark_iff (Hopeful book) (λ m. m.hopeful) (IsFound book graph) (λ t m r. r.hopeful) book.templates ms found;
  }

  -- paths from each template end, so none is on a cycle
  guarded : IsGuarded book
  guarded [] c = c
  guarded (f ∷ names) c =
      let t = starts f f names c in
      let m = zip_named (IsFound book graph) book.templates ms f t.0 found t.1 in
      no_cycle graph (subst (PathsEnd graph) m.2 m.1.wide.0) names (IsPath-alike (UnguardedEdge book) (HasEdge graph) (edge_out book fit says exact graph is) f names f c)
    where
      starts : (f g : Name) (names : List Name) → IsPath (UnguardedEdge book) f names g → (t : plain.Template) × (template_in book.templates f ≡ Some t)
      starts f g [] p = (p.0, p.1)
      starts f g (x ∷ names) p = (p.0.0, p.0.1)

  -- the marks say what the graph was made by
  said_so : (marks_in book.templates ms).nullable ≡ says
  said_so i f = alike f i
    where
      alike : (f : Name) → (marks_in book.templates ms).nullable f ≡ says f
      alike f = same_tests ((marks_in book.templates ms).nullable f) (says f)
          (λ h. (let b = (right.nullable f).0 h in (exact f).1 (b.0, b.1, (MayEnd-nullable book b.0.body).1 b.2)))
          (λ h. (let b = (exact f).0 h in (right.nullable f).1 (b.0, b.1, (MayEnd-nullable book b.0.body).0 b.2)))

  body_wide : Name → ℕ
  body_wide f = body_in (template_in book.templates f) (width book (marks_in book.templates ms))

  -- the widths of the bodies, cut, are those that the graph gives
  cut_widths : IsWidthOf graph (λ f. cut (body_wide f))
  unfolding body_wide
  cut_widths f = by (template_in book.templates f) refl
    where
      none : (o : Option Node) → option_map held o ≡ None → o ≡ None
      none None e = refl
      none (Some n) e = absurd cc

      by : (o : Option plain.Template) → template_in book.templates f ≡ o →
          cut (body_in o (width book (marks_in book.templates ms))) ≡ width_at (λ g. cut (body_in (template_in book.templates g) (width book (marks_in book.templates ms)))) (get name_cmp graph f)
      by None e = rw (none (get name_cmp graph f) (is f ∙ ap (option_map (holding says)) e)) refl
      by (Some t) e =
          let n = node_out book fit says exact graph is (get name_cmp graph f) t (is f ∙ ap (option_map (holding says)) e) in
          let unfolded = width-unfolded book (marks_in book.templates ms) right guarded (λ g u i. CountsFit-fit book u.body (fit g u i)) t.body (CountsFit-fit book t.body (fit f t e)) in
          let w : Name → ℕ = λ g. body_in (template_in book.templates g) (width book (marks_in book.templates ms)) in
          let split = wide_by-own w (marks_in book.templates ms) t.body in
          let owned : n.0.own ≡ cut (own (marks_in book.templates ms).nullable t.body) = ap (λ p. p.0) n.2 ∙ ap (λ s. cut (own s t.body)) (sym said_so) in
          let listed : n.0.exposed.items ≡ exposures (marks_in book.templates ms).nullable t.body = ap (λ p. p.1) n.2 ∙ ap (λ s. exposures s t.body) (sym said_so) in
          rw (n.1, listed) (ap cut (unfolded ∙ split) ∙ sym (cut-own (own (marks_in book.templates ms).nullable t.body) n.0.own
          (sum_by (λ g. cut (w g)) (exposures (marks_in book.templates ms).nullable t.body)) owned
          ∙ cut-sum w (exposures (marks_in book.templates ms).nullable t.body) (own (marks_in book.templates ms).nullable t.body)))

  pub studied_found : IsChecked book → IsStudiedBook book ms
  unfolding body_wide
  studied_found checked = record {
    checked = checked;
    guarded = guarded;
    right = zip_weaker (IsFound book graph) (IsRightMark book (marks_in book.templates ms)) book.templates ms (λ t m r. record {
      nullable = r.nullable;
      hopeful = r.hopeful;
      wide = r.wide.1 (λ f. cut (body_wide f)) cut_widths ∙ ap (λ o. cut (body_in o (width book (marks_in book.templates ms)))) r.named;
    }) found;
  }

-- the marks that are found are those of a studied book
pub IsStudiedBook-marked : (book : Book) → IsChecked (book_of book) → (is_nullable is_hopeful : Name → Bool) (graph : BTreeMap Name Node) (marks : List Mark) →
    IsExact (book_of book) false is_nullable → IsExact (book_of book) true is_hopeful → IsGraph (book_of book).templates is_nullable graph →
    AllZip (IsMarked graph is_nullable is_hopeful) book.templates.items marks → IsStudiedBook (book_of book) marks
IsStudiedBook-marked book checked is_nullable is_hopeful graph marks null hope is h =
    studied_found (book_of book) (BodiesFit-typed (book_of book) checked.0 checked.1.typed) is_nullable null graph is marks
    (zip_at (IsMarked graph is_nullable is_hopeful) (IsFound (book_of book) graph) book.templates.items marks (λ k t m s r.
    let named = own_template book checked k t s.within s.is in
    record {
      named = named;
      nullable = of_body (book_of book) (MayEnd (book_of book) false) (Nullable (book_of book)) (template_of t) m.nullable is_nullable named
          (MayEnd-nullable (book_of book)) null r.nullable;
      hopeful = of_body (book_of book) (MayEnd (book_of book) true) (Hopeful (book_of book)) (template_of t) m.hopeful is_hopeful named
          (MayEnd-hopeful (book_of book)) hope r.hopeful;
      wide = r.wide;
    }) h) checked

-- ---- the first cycle

names-same : (templates : List Template) → map (λ (t : Template). t.name) templates ≡ map (λ (t : plain.Template). t.name) (map template_of templates)
names-same [] = refl
names-same (t ∷ templates) = ap (λ xs. t.name ∷ xs) (names-same templates)

pub HasNodesOf-graph : (says : Name → Bool) (graph : BTreeMap Name Node) (templates : List Template) → IsGraph (map template_of templates) says graph → HasNodesOf graph templates
HasNodesOf-graph says graph templates is f h = among templates f (by (get name_cmp graph f) (template_in (map template_of templates) f) (is f) h)
  where
    by : (o : Option Node) (p : Option plain.Template) → option_map held o ≡ option_map (holding says) p → IsSome o → IsSome p
    by None p e k = absurd cc
    by (Some n) None e k = absurd cc
    by (Some n) (Some t) e k = refl

    among : (templates : List Template) (f : Name) → IsSome (template_in (map template_of templates) f) → is_among (map (λ (t : Template). t.name) templates) f ≡ true
    among [] f k = absurd cc
    among (t ∷ templates) f k = elim (truth (same_name t.name f)) [
      | inl e ↦ (let q : f ≡ t.name = sym (name_one t.name f e) in rw q (rw (same_name-self t.name) refl))
      | inr e ↦ (let rest = among templates f (rw e at k) in or_second (same_name f t.name) (is_among (map (λ (u : Template). u.name) templates) f) rest)
    ]

pub IsFirstCycle-found : (book : Book) → IsChecked (book_of book) → (says : Name → Bool) (graph : BTreeMap Name Node) (cycle : List Name) →
    IsExact (book_of book) false says → IsGraph (book_of book).templates says graph →
    IsFirstOf (HasEdge graph) (map (λ (t : Template). t.name) book.templates.items) cycle → IsFirstCycle (book_of book) cycle
IsFirstCycle-found book checked says graph cycle exact is h = record {
  earlier = h.earlier;
  first = h.first;
  later = h.later;
  others = h.others;
  split = sym (names-same book.templates.items) ∙ h.split;
  begins = h.begins;
  is_cycle = cycle_in cycle h.is_cycle;
  none = λ k d l c. h.none k d l (
    c.0,
    IsPath-alike (UnguardedEdge (book_of book)) (HasEdge graph) (edge_out (book_of book) fit says exact graph is)
        (slice_index_or h.earlier k d) c.0 (slice_index_or h.earlier k d) c.1,
  );
}
  where
    fit : BodiesFit (book_of book)
    fit = BodiesFit-typed (book_of book) checked.0 checked.1.typed

    cycle_in : (names : List Name) → IsCycle (HasEdge graph) names → IsCycle (UnguardedEdge (book_of book)) names
    cycle_in [] p = p
    cycle_in (f ∷ names) p = IsPath-alike (HasEdge graph) (UnguardedEdge (book_of book)) (edge_in (book_of book) fit says exact graph is) f names f p
