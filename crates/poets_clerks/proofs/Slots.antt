-- Slots that are filled with the replies of answers, each at its place.
use Rattle.std.proofs.Common.{◌≡◌, ◌≢◌, ℕ, ◌<◌, List, [], ◌∷◌, ◌++◌, length, map, get_or, Option, Some, None, ap, sym, ◌∙◌, subst, arith, ⊎_elim}
use Rattle.std.specs.Prelude.{All, Contains, slice_get, set, option_map}
use Rattle.std.proofs.lemmas.List.{get_or-set_same, get_or-set_other, get_or-map, length-set, length-map, map_push}
use Rattle.std.proofs.lemmas.List.Elements.{Contains-append_left, Contains-push, Contains-push_cases}
use Rattle.std.proofs.lemmas.Option.{slice_get_within, get_or_from_slice_get, slice_get-get_or, slice_get-map}
use mathlib.Core.Logic.{dite}
use native.Mathlib.Decide.{ℕ_discrete}
use Rattle.poets_clerks.specs.declared.answers.DoneOf.{DoneOf}
use Rattle.poets_clerks.specs.Histories.{AreInOrder, FillPlaces, HoldReplies}
use Rattle.poets_clerks.specs.Scripts.{pairs_of}

module _ {A : Type 0} where
  set_here : (xs : List A) (place : ℕ) (x : A) → place < length xs → slice_get (set xs place x) place ≡ Some x
  set_here xs place x inside = let n = length-set xs place x in
      slice_get-get_or (set xs place x) place x (omega arith) ∙ ap (λ y. Some y) (get_or-set_same xs place x x inside)

  -- what stands elsewhere was there before
  set_before : (xs : List A) (place other : ℕ) (x y : A) → other ≢ place → slice_get (set xs place x) other ≡ Some y → slice_get xs other ≡ Some y
  set_before xs place other x y ne at = let n = length-set xs place x in
      let inside = slice_get_within (set xs place x) other y at in
      slice_get-get_or xs other y (omega arith) ∙ ap (λ z. Some z) (sym (get_or-set_other xs place other x y ne) ∙ get_or_from_slice_get (set xs place x) other y y at)

  -- what stood elsewhere is there after
  set_after : (xs : List A) (place other : ℕ) (x y : A) → other ≢ place → slice_get xs other ≡ Some y → slice_get (set xs place x) other ≡ Some y
  set_after xs place other x y ne at = let n = length-set xs place x in
      let inside = slice_get_within xs other y at in
      slice_get-get_or (set xs place x) other y (omega arith) ∙ ap (λ z. Some z) (get_or-set_other xs place other x y ne ∙ get_or_from_slice_get xs other y y at)

module _ {R : Type 0} where
  pub none_held : (count : ℕ) (slots : List (Option R)) → length slots ≡ count → All (λ slot. slot ≡ None) slots → HoldReplies count [] slots
  none_held count slots long empty = record {
    count_is = long;
    from = λ place reply at.
        let none = empty place None (slice_get_within slots place (Some reply) at) in
        absurd (cc (sym (get_or_from_slice_get slots place (Some reply) None at), none));
    each = λ place reply held. let l = held.1 in absurd (omega arith);
  }

  pub one_more_held : (count : ℕ) (answers : List (ℕ × R)) (slots : List (Option R)) (place : ℕ) (reply : R) → HoldReplies count answers slots → place < count
      → HoldReplies count (answers ++ (place, reply) ∷ []) (set slots place (Some reply))
  one_more_held count answers slots place reply h inside =
      let long = h.count_is in let here = set_here slots place (Some reply) (omega arith) in record {
        count_is = length-set slots place (Some reply) ∙ long;
        from = λ other r at. dite (ℕ_discrete other place)
            (λ same. let is : (place, reply) ≡ (other, r) = cc (same, here, at) in subst (λ a. Contains (answers ++ (place, reply) ∷ []) a) is (Contains-push answers (place, reply)))
            (λ ne. Contains-append_left answers ((place, reply) ∷ []) (other, r) (h.from other r (set_before slots place other (Some reply) (Some r) ne at)));
        each = λ other r held. dite (ℕ_discrete other place)
            (λ same. (reply, subst (λ p. slice_get (set slots place (Some reply)) p ≡ Some (Some reply)) (sym same) here))
            (λ ne. ⊎_elim
            (λ old. let o = h.each other r old in (o.0, set_after slots place other (Some reply) (Some o.0) ne o.1))
            (λ is. absurd (ne (sym (ap (λ a. a.0) is))))
            (Contains-push_cases answers (place, reply) (other, r) held));
      }

  -- where the answers fill all places, no slot is empty
  pub all_filled : (count : ℕ) (answers : List (ℕ × R)) (slots : List (Option R)) → FillPlaces answers → length answers ≡ count → HoldReplies count answers slots → (place : ℕ) → slice_get slots place ≡ Some None → ⊥
  all_filled count answers slots fill same h place empty =
      let inside = slice_get_within slots place None empty in let long = h.count_is in let held = fill.each place (omega arith) in
      let filled = h.each place held.0 held.1 in absurd (cc (sym filled.1, empty))

  pub in_order : (count : ℕ) (answers : List (ℕ × R)) (slots : List (Option R)) (replies : List R) → length answers ≡ count → HoldReplies count answers slots → map Some replies ≡ slots → AreInOrder answers replies
  in_order count answers slots replies as_many h same = record {
    as_many = sym (length-map replies Some) ∙ (ap length same ∙ (h.count_is ∙ sym as_many));
    at = λ place reply at. h.from place reply (ap (λ l. slice_get l place) (sym same) ∙ (slice_get-map Some replies place ∙ ap (option_map Some) at));
  }

module _ {R : Type 0} where
  pub length-pairs : (answers : List (DoneOf R)) → length (pairs_of answers) ≡ length answers
  length-pairs answers = length-map answers (λ (d : DoneOf R). (d.place, d.reply))

  -- each answer's place is below their number
  pub place_inside : (answers : List (DoneOf R)) (k : ℕ) (d : DoneOf R) → (k < length answers) × (d ≡ get_or answers k d) → FillPlaces (pairs_of answers) → d.place < length answers
  place_inside answers k d at fill = let n = length-pairs answers in let inside =
      subst (λ (a : ℕ × R). a.0 < length (pairs_of answers)) (get_or-map (λ (d : DoneOf R). (d.place, d.reply)) answers k d (d.place, d.reply) at.0 ∙ ap (λ (d : DoneOf R). (d.place, d.reply)) (sym at.1))
      (fill.inside k (d.place, d.reply) (omega arith)) in omega arith

  pub answer_held : (count : ℕ) (answers : List (DoneOf R)) (slots slots' : List (Option R)) (d : DoneOf R) → HoldReplies count (pairs_of answers) slots → d.place < count
      → slots' ≡ set slots d.place (Some d.reply) → HoldReplies count (pairs_of (answers ++ d ∷ [])) slots'
  answer_held count answers slots slots' d h inside is =
      subst (λ (t : List (ℕ × R) × List (Option R)). HoldReplies count t.0 t.1) (λ i. (sym (map_push (λ (d : DoneOf R). (d.place, d.reply)) answers d) i, sym is i))
      (one_more_held count (pairs_of answers) slots d.place d.reply h inside)
