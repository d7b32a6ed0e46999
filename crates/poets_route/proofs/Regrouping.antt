-- Sides that are grouped to the right, from the last one on.
use Rattle.std.proofs.Common.{◌≡◌, ◌<◌, ◌+◌, ℕ, arith, Bool, true, false, List, [], ◌∷◌, ◌++◌, length, refl, sym, ◌∙◌, ap, subst, append_assoc, append-nil, length-append}
use Rattle.poets_way.specs.Trails.{TrailsView, sides_at, with_sides, seconds}
use Rattle.poets_route.specs.code.Grouping.{Regroups}
use Rattle.poets_route.specs.code.Making.{Grew, MakesSides}
use Rattle.poets_route.specs.code.Sides.{outer, inner}
use Rattle.poets_route.proofs.Made.{grew_not, grew_sides, sides_made_later, made_sides}

-- those that are done are the last ones, and the two numbers are those of what they give
pub record Regrouping (old new : TrailsView) (last second rest_last rest_second : List Bool) (first others : ℕ) : Type 0 where
  pub grew : Grew old new
  pub first_within : first < length new.sides
  pub others_within : others < length new.sides
  pub done_last : List Bool
  pub done_second : List Bool
  pub whole_last : last ≡ rest_last ++ done_last
  pub whole_second : second ≡ rest_second ++ done_second
  pub fit : length done_second + seconds done_last ≡ length done_last
  pub firsts : sides_at new first ≡ outer done_last done_second
  pub rests : sides_at new others ≡ inner done_last done_second

seconds_more : (xs ys : List Bool) → seconds (xs ++ ys) ≡ seconds xs + seconds ys
seconds_more [] ys = omega arith
seconds_more (true ∷ xs) ys = let h = seconds_more xs ys in omega (arith, h)
seconds_more (false ∷ xs) ys = let h = seconds_more xs ys in omega (arith, h)

seconds_within : (xs : List Bool) → (m : ℕ) × (m + seconds xs ≡ length xs)
seconds_within [] = (0, omega arith)
seconds_within (true ∷ xs) = let h = seconds_within xs in (h.0, omega (arith, h.1))
seconds_within (false ∷ xs) = let h = seconds_within xs in (h.0 + 1, omega (arith, h.1))

-- nothing is done
pub regrouping_start : (t : TrailsView) (last second : List Bool) (k : ℕ) → k < length t.sides → sides_at t k ≡ [] → Regrouping t t last second last second k k
regrouping_start t last second k h e = record {
  grew = grew_not t;
  first_within = h;
  others_within = h;
  done_last = [];
  done_second = [];
  whole_last = sym (append-nil last);
  whole_second = sym (append-nil second);
  fit = omega arith;
  firsts = e;
  rests = e;
}

-- one more list of sides
grew_by : (u v : TrailsView) (r : ℕ) (sides : List Bool) → r ≡ length u.sides → v ≡ with_sides u sides → Grew u v
grew_by u v r sides number new = subst (λ z. Grew u z) (sym new) (grew_sides u sides)

added : (t u v : TrailsView) (k r : ℕ) (side : Bool) (sides : List Bool) → Grew t u → sides_at u k ≡ sides → r ≡ length u.sides →
    v ≡ with_sides u (side ∷ sides_at u k) → MakesSides t v r (λ s. s ≡ side ∷ sides)
added t u v k r side sides x e number new =
    made_sides {t = t} {u = u} {v = v} {r = r} (side ∷ sides_at u k) (λ s. s ≡ side ∷ sides) x number new (ap (λ s. side ∷ s) e)

module _ (old u v w : TrailsView) (last second rest_last rest_second : List Bool) (first others r n : ℕ) where
  -- the last contract's event
  pub regrouping_last : (rest : List Bool) → Regrouping old u last second rest_last rest_second first others → rest_last ≡ rest ++ true ∷ [] →
      r ≡ length u.sides → v ≡ with_sides u (true ∷ sides_at u first) → n ≡ length v.sides → w ≡ with_sides v (true ∷ sides_at v others) →
      Regrouping old w last second rest rest_second r n
  regrouping_last rest g e number new number' new' =
      let a = added old u v first r true (outer g.done_last g.done_second) g.grew g.firsts number new in
      let o = sides_made_later {t = old} {u = u} {v = v} {k = others} {Are = λ s. s ≡ inner g.done_last g.done_second}
      (record { grew = g.grew; within = g.others_within; made = g.rests }) (grew_by u v r (true ∷ sides_at u first) number new) in
      let b = added old v w others n true (inner g.done_last g.done_second) o.grew o.made number' new' in
      let c = sides_made_later a (grew_by v w n (true ∷ sides_at v others) number' new') in record {
        grew = b.grew;
        first_within = c.within;
        others_within = b.within;
        done_last = true ∷ g.done_last;
        done_second = g.done_second;
        whole_last = g.whole_last ∙ ap (λ xs. xs ++ g.done_last) e ∙ append_assoc rest (true ∷ []) g.done_last;
        whole_second = g.whole_second;
        fit = (let f = g.fit in omega (arith, f));
        firsts = c.made;
        rests = b.made;
      }

  -- the second one's of the three
  pub regrouping_second : (rest rest' : List Bool) → Regrouping old u last second rest_last rest_second first others → rest_last ≡ rest ++ false ∷ [] →
      rest_second ≡ rest' ++ true ∷ [] → r ≡ length u.sides → v ≡ with_sides u (true ∷ sides_at u first) → n ≡ length v.sides →
      w ≡ with_sides v (false ∷ sides_at v others) → Regrouping old w last second rest rest' r n
  regrouping_second rest rest' g e e' number new number' new' =
      let a = added old u v first r true (outer g.done_last g.done_second) g.grew g.firsts number new in
      let o = sides_made_later {t = old} {u = u} {v = v} {k = others} {Are = λ s. s ≡ inner g.done_last g.done_second}
      (record { grew = g.grew; within = g.others_within; made = g.rests }) (grew_by u v r (true ∷ sides_at u first) number new) in
      let b = added old v w others n false (inner g.done_last g.done_second) o.grew o.made number' new' in
      let c = sides_made_later a (grew_by v w n (false ∷ sides_at v others) number' new') in record {
        grew = b.grew;
        first_within = c.within;
        others_within = b.within;
        done_last = false ∷ g.done_last;
        done_second = true ∷ g.done_second;
        whole_last = g.whole_last ∙ ap (λ xs. xs ++ g.done_last) e ∙ append_assoc rest (false ∷ []) g.done_last;
        whole_second = g.whole_second ∙ ap (λ xs. xs ++ g.done_second) e' ∙ append_assoc rest' (true ∷ []) g.done_second;
        fit = (let f = g.fit in omega (arith, f));
        firsts = c.made;
        rests = b.made;
      }

none_left : {A : Type 0} (xs : List A) → length xs ≡ 0 → xs ≡ []
none_left [] e = refl
none_left (x ∷ xs) e = absurd (omega (arith, e))

-- some are done
module _ (old u : TrailsView) (last second rest_last rest_second : List Bool) (first others : ℕ)
    (g : Regrouping old u last second rest_last rest_second first others) where
  -- the first one's of the three
  pub regrouping_first : (v : TrailsView) (r : ℕ) (rest rest' : List Bool) → rest_last ≡ rest ++ false ∷ [] → rest_second ≡ rest' ++ false ∷ [] →
      r ≡ length u.sides → v ≡ with_sides u (false ∷ sides_at u first) → Regrouping old v last second rest rest' r others
  regrouping_first v r rest rest' e e' number new =
      let a = added old u v first r false (outer g.done_last g.done_second) g.grew g.firsts number new in
      let o = sides_made_later {t = old} {u = u} {v = v} {k = others} {Are = λ s. s ≡ inner g.done_last g.done_second}
      (record { grew = g.grew; within = g.others_within; made = g.rests }) (grew_by u v r (false ∷ sides_at u first) number new) in record {
        grew = a.grew;
        first_within = a.within;
        others_within = o.within;
        done_last = false ∷ g.done_last;
        done_second = false ∷ g.done_second;
        whole_last = g.whole_last ∙ ap (λ xs. xs ++ g.done_last) e ∙ append_assoc rest (false ∷ []) g.done_last;
        whole_second = g.whole_second ∙ ap (λ xs. xs ++ g.done_second) e' ∙ append_assoc rest' (false ∷ []) g.done_second;
        fit = (let f = g.fit in omega (arith, f));
        firsts = a.made;
        rests = o.made;
      }

  -- all are done
  pub regrouping_done : (l s : ℕ) → rest_last ≡ [] → last ≡ sides_at old l → second ≡ sides_at old s → Regroups old u l s first others
  regrouping_done l s e el es = record {
    grew = g.grew;
    first_within = g.first_within;
    others_within = g.others_within;
    sides = λ fit.
        (let dl = g.done_last in
        let ds = g.done_second in
        let lasts : sides_at old l ≡ dl = sym el ∙ g.whole_last ∙ ap (λ xs. xs ++ dl) e in
        let all : sides_at old s ≡ rest_second ++ ds = sym es ∙ g.whole_second in
        let fit' = g.fit in
        let count : length rest_second ≡ 0 = omega (arith, fit, fit', ap length lasts, ap seconds lasts, ap length all, length-append rest_second ds) in
        let others' : sides_at old s ≡ ds = all ∙ ap (λ xs. xs ++ ds) (none_left rest_second count) in
        let out : (sides_at u first ≡ outer (sides_at old l) (sides_at old s)) × (sides_at u others ≡ inner (sides_at old l) (sides_at old s)) = (
          g.firsts ∙ ap (λ x. outer x ds) (sym lasts) ∙ ap (outer (sides_at old l)) (sym others'),
          g.rests ∙ ap (λ x. inner x ds) (sym lasts) ∙ ap (inner (sides_at old l)) (sym others'),
        ) in
        out);
  }

  -- where the second sides ended first, they were not those of the events
  pub regrouping_broken : (rest : List Bool) (l s : ℕ) → rest_last ≡ rest ++ false ∷ [] → rest_second ≡ [] → last ≡ sides_at old l → second ≡ sides_at old s →
      Regroups old u l s first others
  regrouping_broken rest l s e e' el es = record {
    grew = g.grew;
    first_within = g.first_within;
    others_within = g.others_within;
    sides = λ fit. absurd
        (let dl = g.done_last in
        let ds = g.done_second in
        let lasts : sides_at old l ≡ rest ++ (false ∷ dl) = sym el ∙ g.whole_last ∙ ap (λ xs. xs ++ dl) e ∙ append_assoc rest (false ∷ []) dl in
        let all : sides_at old s ≡ ds = sym es ∙ g.whole_second ∙ ap (λ xs. xs ++ ds) e' in
        let fit' = g.fit in
        let some = seconds_within rest in
        let more : seconds (rest ++ (false ∷ dl)) ≡ seconds rest + seconds dl = seconds_more rest (false ∷ dl) in
        let longer : length (rest ++ (false ∷ dl)) ≡ length rest + (length dl + 1) = omega (arith, length-append rest (false ∷ dl)) in
        omega (arith, fit, fit', some.1, ap length lasts, ap seconds lasts, ap length all, more, longer));
  }
