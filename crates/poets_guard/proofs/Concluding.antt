-- Rules by which the facts of templates follow.
use Rattle.std.proofs.Common.{◌≡◌, ℕ, suc, ◌+◌, ◌<◌, arith, Bool, true, false, List, [], ◌∷◌, ◌++◌, length, map, length-append, refl, sym, ◌∙◌, ap, subst, Option, Some, None, inl, inr}
use Rattle.std.specs.Prelude.{◌&&◌, slice_get, slice_index_or, is_some, option_map, ◌||◌, if◌then◌else◌}
use Rattle.std.specs.List.{All}
use Rattle.std.proofs.lemmas.Option.{slice_get-get_or, slice_get_within, get_or_from_slice_get}
use Rattle.std.proofs.lemmas.List.{take_all, get_or-map, get_or_push, length-map}
use Rattle.std.proofs.lemmas.List.Elements.{All-nil, All-push, All-contains, Contains-append_left, Contains-push}
use Rattle.std.proofs.Math.ListN.{get_or-append}
use Rattle.poets_value.specs.declared.value.Name.{Name}
use Rattle.poets_expr.specs.Env.{same_name}
use Rattle.poets_expr.specs.Expression.{Expression}
use Rattle.poets_expr.proofs.SameTrees.{both_true, name_one}
use Rattle.poets_syntax.specs.declared.term.Binders.{Binders}
use Rattle.poets_syntax.specs.declared.term.Book.{Book}
use Rattle.poets_syntax.specs.declared.term.Template.{Template}
use Rattle.poets_syntax.specs.Contract.{Contract, contract_of}
use Rattle.poets_syntax.specs.Book.{template_of, book_of, template_in}
use Rattle.poets_syntax.specs.Checked.{IsChecked}
use Rattle.poets_syntax.specs.Applied.{ApplicationsFit}
use Rattle.poets_syntax.specs.Plain as plain
use Rattle.poets_syntax.proofs.TypingRules.{BodiesFit-typed}
use Rattle.poets_meaning.specs.May.{May}
use Rattle.poets_guard.specs.declared.rules.Rule.{Rule}
use Rattle.poets_guard.specs.declared.endings.Rules.{Rules}
use Rattle.poets_guard.specs.code.Endings.{ends, MayEnd, IsExact}
use Rattle.poets_guard.specs.code.Rules.{Follows, is_known, Concludes, AllFollow}
use Rattle.poets_guard.specs.code.Facts.{known_of, says, AllMayEnd, FactHolds, IsRight, AreMeant, GoOn, AreAdded, AreFacts, bodies, first_templates, IsBuilt, IsTold}
use Rattle.poets_guard.proofs.Places.{StandsAt, own_template, template_in-take}
use Rattle.poets_guard.proofs.Marking.{either_true, one_template, ends-complete, MayEnd-transmit, MayEnd-left, MayEnd-right, MayEnd-app}

-- ---- facts go on

GoOn-self : (meant : List (List Contract)) → GoOn meant meant
GoOn-self meant = record { longer = omega arith; same = λ k l. refl }

GoOn-trans : (xs ys zs : List (List Contract)) → GoOn xs ys → GoOn ys zs → GoOn xs zs
GoOn-trans xs ys zs g h = record {
  longer = (let l = g.longer in let m = h.longer in omega (arith, l, m));
  same = λ k l. h.same k (let m = g.longer in omega (arith, l, m)) ∙ g.same k l;
}

module _ (book : plain.Book) (granted : Bool) where
  FactHolds-on : (old new : List (List Contract)) → GoOn old new → (k : ℕ) → k < length old → FactHolds book granted old k → FactHolds book granted new k
  FactHolds-on old new g k l h = subst (AllMayEnd book granted) (sym (g.same k l)) h

  FactHolds-back : (old new : List (List Contract)) → GoOn old new → (k : ℕ) → k < length old → FactHolds book granted new k → FactHolds book granted old k
  FactHolds-back old new g k l h = subst (AllMayEnd book granted) (g.same k l) h

  -- one fact more
  AreMeant-more : (facts : Name → Option ℕ) (meant : List (List Contract)) (cs : List Contract) (old new : Rules) → new.count ≡ old.count + 1 → new.rules.items ≡ old.rules.items →
      AreMeant book granted facts meant old → GoOn meant (meant ++ cs ∷ []) × AreMeant book granted facts (meant ++ cs ∷ []) new
  AreMeant-more facts meant cs old new count rules m = (
    on,
    record {
      many = longer ∙ (let n = m.many in omega (arith, n, count));
      some = (let l = m.some in omega (arith, l, longer));
      given = FactHolds-on meant (meant ++ cs ∷ []) on 0 m.some m.given;
      named = λ f k t e i. (let n = m.named f k t e i in ((let l = n.0 in omega (arith, l, longer)), on.same k n.0 ∙ n.1));
      right = rw rules (λ k d l. let r = m.right k d l in record {
        within = record { first = (let w = r.within.first in omega (arith, w, longer)); second = (let w = r.within.second in omega (arith, w, longer)); conclusion = (let w = r.within.conclusion in omega (arith, w, longer)) };
        sound = λ f s. FactHolds-on meant (meant ++ cs ∷ []) on _ r.within.conclusion (r.sound (FactHolds-back meant (meant ++ cs ∷ []) on _ r.within.first f) (FactHolds-back meant (meant ++ cs ∷ []) on _ r.within.second s));
      });
    },
  )
    where
      longer : length (meant ++ cs ∷ []) ≡ length meant + 1
      longer = length-append meant (cs ∷ [])

      on : GoOn meant (meant ++ cs ∷ [])
      on = record { longer = omega (arith, longer); same = λ k l. get_or-append meant (cs ∷ []) [] k l }

-- ---- rules of a contract

module _ (granted : Bool) (facts : Name → Option ℕ) where
  -- a contract that may end by a second fact has a rule
  pub AreAdded-by : (c : Contract) (given second goal : ℕ) (old new : Rules) → new.count ≡ old.count →
      new.rules.items ≡ old.rules.items ++ record { first = given; second = second; conclusion = goal } ∷ [] →
      ((known : ℕ → Bool) → known 0 ≡ true → ends granted (says known facts) c ≡ true → known second ≡ true) →
      ((book : plain.Book) (meant : List (List Contract)) → ApplicationsFit book c → AreMeant book granted facts meant old → (second < length meant) × (FactHolds book granted meant second → MayEnd book granted c)) →
      AreAdded granted facts c given goal old new
  AreAdded-by c given second goal old new count rules tells means = record {
    complete = λ known closed. (
      (closed.0, λ r h. closed.1 r (rw rules (Contains-append_left old.rules.items (rule ∷ []) r h))),
      λ k e. closed.1 rule (rw rules (Contains-push old.rules.items rule)) k (tells known closed.0 e),
    );
    sound = λ book meant fit m l n to. (let s = means book meant fit m in (
      meant,
      GoOn-self meant,
      record {
        many = m.many ∙ sym count;
        some = m.some;
        given = m.given;
        named = m.named;
        right = rw rules (All-push (IsRight book granted meant) old.rules.items rule m.right (record { within = record { first = l; second = s.0; conclusion = n }; sound = λ f g. to f (s.1 g) }));
      },
    ));
  }
    where
      rule : Rule
      rule = record { first = given; second = second; conclusion = goal }

  pub AreAdded-success : (given goal : ℕ) (old new : Rules) → new.count ≡ old.count → new.rules.items ≡ old.rules.items ++ record { first = given; second = 0; conclusion = goal } ∷ [] →
      AreAdded granted facts Contract.Success given goal old new
  AreAdded-success given goal old new count rules =
      AreAdded-by Contract.Success given 0 goal old new count rules (λ known h _. h) (λ book meant fit m. (m.some, λ _. (0, May.Done, λ _. refl)))

  pub AreAdded-app : (f : Name) (args : List Expression) (given k goal : ℕ) (old new : Rules) → facts f ≡ Some k → new.count ≡ old.count →
      new.rules.items ≡ old.rules.items ++ record { first = given; second = k; conclusion = goal } ∷ [] → AreAdded granted facts (Contract.App f args) given goal old new
  AreAdded-app f args given k goal old new e count rules =
      AreAdded-by (Contract.App f args) given k goal old new count rules (λ known _ h. sym (ap (known_of known) e) ∙ h)
      (λ book meant fit m. let d = m.named f k fit.0 e fit.1 in (d.0, λ h. MayEnd-app book granted fit (fit.0, fit.1, (subst (AllMayEnd book granted) d.1 h).0)))

  pub AreAdded-none : (f : Name) (args : List Expression) (given goal : ℕ) (s : Rules) → facts f ≡ None → AreAdded granted facts (Contract.App f args) given goal s s
  AreAdded-none f args given goal s e = record {
    complete = λ known closed. (closed, λ _ h. absurd (let q : false ≡ true = sym (ap (known_of known) e) ∙ h in cc));
    sound = λ book meant fit m _ _ _. (meant, GoOn-self meant, m);
  }

  pub AreAdded-transmit : (b : Binders) (p : Expression) (c : Contract) (given goal : ℕ) (old new : Rules) → granted ≡ true → AreAdded granted facts c given goal old new →
      AreAdded granted facts (Contract.Transmit b p c) given goal old new
  AreAdded-transmit b p c given goal old new g a = record {
    complete = λ known closed. (let h = a.complete known closed in (h.0, λ k e. h.1 k (both_true granted (ends granted (says known facts) c) e).1));
    sound = λ book meant fit m l n to. a.sound book meant fit m l n (λ h e. to h (MayEnd-transmit book granted g e));
  }

  pub AreAdded-plus : (a b : Contract) (given goal : ℕ) (old now new : Rules) → AreAdded granted facts a given goal old now → AreAdded granted facts b given goal now new →
      AreAdded granted facts (Contract.Plus a b) given goal old new
  AreAdded-plus a b given goal old now new i j = record {
    complete = λ known closed. (let h = j.complete known closed in let k = i.complete known h.0 in (
      k.0,
      λ g e. elim (either_true (ends granted (says known facts) a) (ends granted (says known facts) b) e) [
        | inl x ↦ k.1 g x
        | inr x ↦ h.1 g x
      ],
    ));
    sound = λ book meant fit m l n to. (let x = i.sound book meant fit.0 m l n (λ h e. to h (MayEnd-left book granted e)) in
        let y = j.sound book x.0 fit.1 x.2 (let w = x.1.longer in omega (arith, w, l)) (let w = x.1.longer in omega (arith, w, n))
        (λ h e. FactHolds-on book granted meant x.0 x.1 goal n (to (FactHolds-back book granted meant x.0 x.1 given l h) (MayEnd-right book granted e))) in
        (y.0, GoOn-trans meant x.0 y.0 x.1 y.1, y.2));
  }

  -- both parts of `||` and `;` have to end
  module _ (a b c : Contract) (splits : (says : Name → Bool) → ends granted says c ≡ true → (ends granted says a && ends granted says b) ≡ true)
      (joins : (book : plain.Book) → ApplicationsFit book c
      → ApplicationsFit book a × ApplicationsFit book b × (MayEnd book granted a → MayEnd book granted b → MayEnd book granted c)) where
    pub AreAdded-both : (given goal first : ℕ) (old middle now new : Rules) → first ≡ old.count → middle.count ≡ old.count + 1 → middle.rules ≡ old.rules →
        AreAdded granted facts a given first middle now → AreAdded granted facts b first goal now new → AreAdded granted facts c given goal old new
    AreAdded-both given goal first old middle now new is count rules i j = record {
      complete = λ known closed. (let h = j.complete known closed in let k = i.complete known h.0 in (
        rw rules at k.0,
        λ g e.
            let x = both_true (ends granted (says known facts) a) (ends granted (says known facts) b) (splits (says known facts) e) in h.1 (k.1 g x.0) x.1,
      ));
      sound = λ book meant fit m l n to. (
          let part = joins book fit in
          let gs = slice_index_or meant given [] in
          let s = AreMeant-more book granted facts meant (a ∷ gs) old middle count (ap (λ v. v.items) rules) m in
          let more = meant ++ (a ∷ gs) ∷ [] in
          let place : length meant ≡ first = m.many ∙ sym is in
          let top : slice_index_or more first [] ≡ a ∷ gs = get_or_push meant (a ∷ gs) [] first place in
          let long = length-append meant ((a ∷ gs) ∷ []) in
          let x = i.sound book more part.0 s.1 (omega (arith, l, long)) (omega (arith, place, long))
          (λ h e. subst (AllMayEnd book granted) (sym top) (e, FactHolds-back book granted meant more s.0 given l h)) in
          let y = j.sound book x.0 part.1 x.2 (let w = x.1.longer in omega (arith, w, place, long)) (let w = x.1.longer in omega (arith, w, n, long))
          (λ h e. let k = subst (AllMayEnd book granted) (x.1.same first (omega (arith, place, long)) ∙ top) h in
          FactHolds-on book granted meant x.0 (GoOn-trans meant more x.0 s.0 x.1) goal n (to k.1 (part.2 k.0 e))) in
          (y.0, GoOn-trans meant more y.0 s.0 (GoOn-trans more x.0 y.0 x.1 y.1), y.2));
    }

known_some : (known : ℕ → Bool) (o : Option ℕ) → known_of known o ≡ true → (i : ℕ) × (o ≡ Some i) × (known i ≡ true)
known_some known None h = absurd cc
known_some known (Some i) h = (i, refl, h)

map_some : {V W : Type 0} (h : V → W) (o : Option V) (w : W) → option_map h o ≡ Some w → (v : V) × (o ≡ Some v) × (h v ≡ w)
map_some h None w e = absurd cc
map_some h (Some v) w e = (v, refl, cc)

pub bodies_at : (templates : List Template) (k : ℕ) (t : Template) → StandsAt templates k t → slice_get (bodies templates) (k + 1) ≡ Some (contract_of t.body ∷ [])
bodies_at templates k t s =
    let next : suc k ≡ k + 1 = omega arith in
    let within : k + 1 < length (bodies templates) = (let l = s.within in let m = length-map templates (λ u. contract_of u.body ∷ []) in omega (arith, l, m)) in
    slice_get-get_or (bodies templates) (k + 1) [] within
    ∙ ap Some (subst (λ i. slice_index_or (bodies templates) i [] ≡ contract_of t.body ∷ []) next
    (get_or-map (λ u. contract_of u.body ∷ []) templates k t [] s.within ∙ ap (λ u. contract_of u.body ∷ []) (sym s.is)))

-- one template more was looked at
pub IsTold-more : (book : Book) → IsChecked (book_of book) → (k : ℕ) (t : Template) → StandsAt book.templates.items k t → (says old new : Name → Bool) →
    ((f : Name) → new f ≡ (if same_name t.name f then says t.name || old f else old f)) → IsTold k book.templates.items says old → IsTold (k + 1) book.templates.items says new
IsTold-more book checked k t s says old new more h f =
    more f ∙ by (same_name t.name f) refl ∙ ap (λ o. says f && is_some o) (sym (template_in-take book checked k t s f))
  where
    said_now : (a b : Bool) → (a || (a && b)) ≡ (a && true)
    said_now true b = refl
    said_now false b = refl

    by : (b : Bool) → same_name t.name f ≡ b → (if b then says t.name || old f else old f)
        ≡ (says f && is_some (if b then Some (template_of t) else template_in (first_templates k book.templates.items) f))
    by true e = rw (ap says (name_one t.name f e), h f) (said_now (says f) (is_some (template_in (first_templates k book.templates.items) f)))
    by false e = h f

module _ (book : Book) (checked : IsChecked (book_of book)) (granted : Bool) (facts : Name → Option ℕ)
    (are : AreFacts (length book.templates.items) book.templates.items facts) where
  all_templates : first_templates (length book.templates.items) book.templates.items ≡ (book_of book).templates
  all_templates = ap (map template_of) (take_all (length book.templates.items) book.templates.items (omega arith))

  -- each template has the fact of its body
  fact_of : (f : Name) (t : plain.Template) → template_in (book_of book).templates f ≡ Some t → (i : ℕ) × (facts f ≡ Some i) × (slice_get (bodies book.templates.items) i ≡ Some (t.body ∷ []))
  fact_of f t e = map_some (slice_get (bodies book.templates.items)) (facts f) (Some (t.body ∷ [])) (are f ∙ rw (all_templates, e) refl)

  -- no rules as yet
  pub IsBuilt-none : (s : Rules) → s.count ≡ length book.templates.items + 1 → s.rules.items ≡ [] → IsBuilt (book_of book) granted book.templates.items facts 0 s
  IsBuilt-none s count none = record {
    meant = bodies book.templates.items;
    right = record {
      many = (let n = length-map book.templates.items (λ u. contract_of u.body ∷ []) in omega (arith, n, count));
      some = omega arith;
      given = tt;
      named = λ f k t e h. (let o = fact_of f t h in let same : o.0 ≡ k = (let g = o.1 in cc) in
          let at = subst (λ j. slice_get (bodies book.templates.items) j ≡ Some (t.body ∷ [])) same o.2 in
          (slice_get_within (bodies book.templates.items) k (t.body ∷ []) at, get_or_from_slice_get (bodies book.templates.items) k (t.body ∷ []) [] at));
      right = rw none (All-nil (IsRight (book_of book) granted (bodies book.templates.items)));
    };
    complete = λ known closed f t i. absurd cc;
  }

  pub IsBuilt-more : (k : ℕ) (t : Template) (old new : Rules) → StandsAt book.templates.items k t →
      ((goal : ℕ) → facts t.name ≡ Some goal → AreAdded granted facts (contract_of t.body) 0 goal old new) →
      IsBuilt (book_of book) granted book.templates.items facts k old → IsBuilt (book_of book) granted book.templates.items facts (k + 1) new
  IsBuilt-more k t old new s added h =
      let own : template_in (book_of book).templates t.name ≡ Some (template_of t) = own_template book checked k t s.within s.is in
      let o = fact_of t.name (template_of t) own in
      let a = added o.0 o.1 in
      let d = h.right.named t.name o.0 (template_of t) o.1 own in
      let m = a.sound (book_of book) h.meant (BodiesFit-typed (book_of book) checked.0 checked.1.typed t.name (template_of t) own) h.right h.right.some d.0
      (λ _ e. subst (AllMayEnd (book_of book) granted) (sym d.1) (e, tt)) in
      record {
        meant = m.0;
        right = m.2;
        complete = λ known closed f u i may. (
            let c = a.complete known closed in
            let here : template_in (first_templates (k + 1) book.templates.items) f ≡ Some u = i in
            step known f u (same_name t.name f) refl o.0 o.1 (sym (template_in-take book checked k t s f) ∙ here) may (c.1 closed.0) (h.complete known c.0 f u));
      }
    where
      step : (known : ℕ → Bool) (f : Name) (u : plain.Template) (b : Bool) → same_name t.name f ≡ b → (goal : ℕ) → facts t.name ≡ Some goal →
          (if b then Some (template_of t) else template_in (first_templates k book.templates.items) f) ≡ Some u → ends granted (says known facts) u.body ≡ true →
          (ends granted (says known facts) (contract_of t.body) ≡ true → known goal ≡ true) →
          (template_in (first_templates k book.templates.items) f ≡ Some u → ends granted (says known facts) u.body ≡ true → says known facts f ≡ true) →
          says known facts f ≡ true
      step known f u true e goal g i may here there =
          subst (λ n. says known facts n ≡ true) (name_one t.name f e)
          (ap (known_of known) g ∙ here (subst (λ v. ends granted (says known facts) v.body ≡ true) (sym (one_template {o = Some u} (sym i) refl)) may))
      step known f u false e goal g i may here there = there i may

  -- what follows may end
  follows_may : (meant : List (List Contract)) (s : Rules) → AreMeant (book_of book) granted facts meant s → {i : ℕ} → Follows s.rules.items i → FactHolds (book_of book) granted meant i
  follows_may meant s m Follows.Given = m.given
  follows_may meant s m (Follows.By {r = r} c f g) =
      (All-contains (IsRight (book_of book) granted meant) s.rules.items r m.right c).sound (follows_may meant s m f) (follows_may meant s m g)

  pub IsExact-told : (rules : Rules) (known : List Bool) (ending : Name → Bool) →
      IsBuilt (book_of book) granted book.templates.items facts (length book.templates.items) rules → is_known known 0 ≡ true →
      All (Concludes known) rules.rules.items → AllFollow rules.rules.items known →
      IsTold (length book.templates.items) book.templates.items (says (is_known known) facts) ending → IsExact (book_of book) granted ending
  IsExact-told rules known ending built given closed sound told f = (
    λ h. (
        let both = both_true (says (is_known known) facts f) (is_some (template_in (book_of book).templates f)) (sym (told_all f) ∙ h) in
        let i = known_some (is_known known) (facts f) both.0 in
        let t = some_of (template_in (book_of book).templates f) both.1 in
        (t.0, t.1, (subst (AllMayEnd (book_of book) granted) (built.right.named f i.0 t.0 i.1 t.1).1 (follows_may built.meant rules built.right (sound i.0 i.2))).0)),
    λ b. told_all f ∙ rw (closed_by f b.0 b.1 (ends-complete (book_of book) granted (says (is_known known) facts) closed_by b.2.1 refl b.2.2), b.1) refl,
  )
    where
      told_all : (f : Name) → ending f ≡ (says (is_known known) facts f && is_some (template_in (book_of book).templates f))
      told_all f = told f ∙ ap (λ ts. says (is_known known) facts f && is_some (template_in ts f)) all_templates

      some_of : (o : Option plain.Template) → is_some o ≡ true → (t : plain.Template) × (o ≡ Some t)
      some_of None h = absurd cc
      some_of (Some t) h = (t, refl)

      closed_by : (f : Name) (u : plain.Template) → template_in (book_of book).templates f ≡ Some u → ends granted (says (is_known known) facts) u.body ≡ true →
          says (is_known known) facts f ≡ true
      closed_by f u i = built.complete (is_known known) (given, λ r c. All-contains (Concludes known) rules.rules.items r closed c) f u (ap (λ ts. template_in ts f) all_templates ∙ i)
