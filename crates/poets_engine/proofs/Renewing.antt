-- What becomes of a contract by events, one after the other.
use Rattle.std.proofs.Common.{◌≡◌, ℕ, zero, suc, ◌+◌, ◌-◌, ◌≤◌, ◌<◌, Bool, true, false, List, [], ◌∷◌, ◌++◌, length, fold, get_or, take, drop, refl, sym, ◌∙◌, ap, subst, arith, inl, inr}
use Rattle.std.specs.Prelude.{◌⊎◌}
use Rattle.std.proofs.lemmas.List.{take-append-drop, take_more}
use Rattle.std.proofs.lemmas.List.Sums.{fold-append}
use Rattle.poets_value.specs.declared.event.Event.{Event}
use Rattle.poets_syntax.specs.Book.{book_of}
use Rattle.poets_syntax.specs.Contract.{Contract, Failure}
use Rattle.poets_meaning.specs.Studied.{StudiedBook, marks_of}
use Rattle.poets_calculus.specs.Residual.{after}
use Rattle.poets_residue.specs.Limits.{is_past_limit_in}
use Rattle.poets_residue.proofs.Kept.{after_at-failure}
use Rattle.poets_command.specs.Plain.{Reply}
use Rattle.poets_engine.specs.Evaluations.{asked_in, sum_from}
use Rattle.poets_engine.specs.code.Judgements.{Judgement, Refused, Owed, is_failure, judge, judged}
use Rattle.poets_engine.specs.code.Renewals.{residual_from, by_event, by_events, asked_along}
use Rattle.poets_engine.proofs.Owed.{failure_is, no_failure}

module _ (s : StudiedBook) where
  -- what is owed after one event more
  abbrev pub next : Contract → Event → Contract
  next c e = after (book_of s.book) (marks_of s) e c

  abbrev pub is_past : Contract → Bool
  is_past c = is_past_limit_in s c

  -- ---- one event more

  pub residual_from-append : (c : Contract) (xs ys : List Event) → residual_from s c (xs ++ ys) ≡ residual_from s (residual_from s c xs) ys
  residual_from-append c xs ys = fold-append (λ d e. next d e) c xs ys

  pub by_events-last : (c : Contract) (xs : List Event) (e : Event) → by_events s c (xs ++ e ∷ []) ≡ by_event s (by_events s c xs) e
  by_events-last c xs e = fold-append (by_event s) (Owed c) xs (e ∷ [])

  pub by_events-append : (c : Contract) (xs ys : List Event) → by_events s c (xs ++ ys) ≡ fold (by_event s) (by_events s c xs) ys
  by_events-append c xs ys = fold-append (by_event s) (Owed c) xs ys

  -- a refusal stays
  pub refused_stays : (reply : Reply) (es : List Event) → fold (by_event s) (Refused reply) es ≡ Refused reply
  refused_stays reply [] = refl
  refused_stays reply (e ∷ es) = refused_stays reply es

  -- and so does `Failure`
  failure_next : (e : Event) → next Failure e ≡ Failure
  failure_next e = after_at-failure (length (book_of s.book).templates) (book_of s.book) (marks_of s) e

  pub failure_stays : (es : List Event) → residual_from s Failure es ≡ Failure
  failure_stays [] = refl
  failure_stays (e ∷ es) = ap (λ d. residual_from s d es) (failure_next e) ∙ failure_stays es

  -- ---- what the judgements tell

  -- by none of the first events does it grow past the limit
  abbrev pub StaysWithin : Contract → List Event → Type 0
  StaysWithin c es = (n : ℕ) → is_past (residual_from s c (take n es)) ≡ false

  -- what is owed was kept by each event
  pub record IsOwed (c : Contract) (es : List Event) (d : Contract) : Type 0 where
    pub residual : d ≡ residual_from s c es
    pub within : StaysWithin c es

  -- why it was refused
  abbrev pub IsRefused : Contract → List Event → Reply → Type 0
  IsRefused c es reply =
      ((reply ≡ Reply.TooLarge) × ((n : ℕ) × (is_past (residual_from s c (take n es)) ≡ true)))
      ⊎ ((reply ≡ Reply.Unmatched) × StaysWithin c es × (residual_from s c es ≡ Failure))

  within_more : (c : Contract) (e : Event) (es : List Event) → is_past c ≡ false → StaysWithin (next c e) es → StaysWithin c (e ∷ es)
  within_more c e es within later zero = within
  within_more c e es within later (suc n) = later n

  within_failure : (es : List Event) → StaysWithin Failure es
  within_failure [] n = by_count n
    where
      by_count : (n : ℕ) → is_past (residual_from s Failure (take n [])) ≡ false
      by_count zero = refl
      by_count (suc n) = refl
  within_failure (e ∷ es) zero = refl
  within_failure (e ∷ es) (suc n) =
      subst (λ d. is_past (residual_from s d (take n es)) ≡ false) (sym (failure_next e)) (within_failure es n)

  within_none : (c : Contract) → is_past c ≡ false → StaysWithin c []
  within_none c within zero = within
  within_none c within (suc n) = within

  -- what the judgement of the next contract comes to by the later events
  abbrev After : Contract → List Event → Judgement → Type 0
  After d es j = fold (by_event s) (judged Reply.Unmatched (is_failure d) (is_past d) d) es ≡ j

  pub owed_is : (es : List Event) (c d : Contract) → is_past c ≡ false → by_events s c es ≡ Owed d → IsOwed c es d
  owed_is [] c d within h = record { residual = let z : c ≡ d = cc in sym z; within = within_none c within }
  owed_is (e ∷ es) c d within h = by (is_failure (next c e)) (is_past (next c e)) refl h (λ w k. owed_is es (next c e) d w k)
    where
      by : (failed large : Bool) → is_past (next c e) ≡ large → fold (by_event s) (judged Reply.Unmatched failed large (next c e)) es ≡ Owed d →
          (is_past (next c e) ≡ false → by_events s (next c e) es ≡ Owed d → IsOwed (next c e) es d) → IsOwed c (e ∷ es) d
      by true large l h later = absurd (let z = sym (refused_stays Reply.Unmatched es) ∙ h in cc)
      by false true l h later = absurd (let z = sym (refused_stays Reply.TooLarge es) ∙ h in cc)
      by false false l h later =
          let rest = later l h in
          record { residual = rest.residual; within = within_more c e es within rest.within }

  pub refused_is : (es : List Event) (c : Contract) (reply : Reply) → is_past c ≡ false → by_events s c es ≡ Refused reply → IsRefused c es reply
  refused_is [] c reply within h = absurd cc
  refused_is (e ∷ es) c reply within h = by (is_failure (next c e)) (is_past (next c e)) refl refl h (λ w k. refused_is es (next c e) reply w k)
    where
      first_of : {A B : Reply} → Refused A ≡ Refused B → A ≡ B
      first_of z = cc

      by : (failed large : Bool) → is_failure (next c e) ≡ failed → is_past (next c e) ≡ large → fold (by_event s) (judged Reply.Unmatched failed large (next c e)) es ≡ Refused reply →
          (is_past (next c e) ≡ false → by_events s (next c e) es ≡ Refused reply → IsRefused (next c e) es reply) → IsRefused c (e ∷ es) reply
      by true large f l h later =
          let failed = failure_is (next c e) f in
          inr (
            sym (first_of (sym (refused_stays Reply.Unmatched es) ∙ h)),
            within_more c e es within (subst (λ d. StaysWithin d es) (sym failed) (within_failure es)),
            ap (λ d. residual_from s d es) failed ∙ failure_stays es,
          )
      by false true f l h later = inl (sym (first_of (sym (refused_stays Reply.TooLarge es) ∙ h)), (1, l))
      by false false f l h later = elim (later l h) [
        | inl large ↦ inl (large.0, (suc large.1.0, large.1.1))
        | inr stuck ↦ inr (stuck.0, within_more c e es within stuck.1, stuck.2)
      ]

  -- what is kept is not `Failure`, unless it was at first
  pub kept_unless_failed : (es : List Event) (c d : Contract) → (c ≡ Failure → ⊥) → by_events s c es ≡ Owed d → d ≡ Failure → ⊥
  kept_unless_failed [] c d alive h failed = alive (let z : c ≡ d = cc in z ∙ failed)
  kept_unless_failed (e ∷ es) c d alive h failed = by (is_failure (next c e)) (is_past (next c e)) refl h (λ a k. kept_unless_failed es (next c e) d a k failed)
    where
      by : (over large : Bool) → is_failure (next c e) ≡ over → fold (by_event s) (judged Reply.Unmatched over large (next c e)) es ≡ Owed d →
          ((next c e ≡ Failure → ⊥) → by_events s (next c e) es ≡ Owed d → ⊥) → ⊥
      by true large f h later = let z = sym (refused_stays Reply.Unmatched es) ∙ h in cc
      by false true f h later = let z = sym (refused_stays Reply.TooLarge es) ∙ h in cc
      by false false f h later = later (no_failure (next c e) f) h

  -- ---- how many evaluations they take

  pub asked_along-append : (c : Contract) (xs ys : List Event) → asked_along s c (xs ++ ys) ≡ asked_along s c xs + asked_along s (residual_from s c xs) ys
  asked_along-append c [] ys = omega arith
  asked_along-append c (e ∷ xs) ys =
      let later = asked_along-append (next c e) xs ys in
      omega (arith, later)

  -- what was kept so far is what is owed
  pub residual_is : (es : List Event) (c d : Contract) → by_events s c es ≡ Owed d → d ≡ residual_from s c es
  residual_is [] c d h = let z : c ≡ d = cc in sym z
  residual_is (e ∷ es) c d h = by (is_failure (next c e)) (is_past (next c e)) h (λ k. residual_is es (next c e) d k)
    where
      by : (over large : Bool) → fold (by_event s) (judged Reply.Unmatched over large (next c e)) es ≡ Owed d →
          (by_events s (next c e) es ≡ Owed d → d ≡ residual_from s (next c e) es) → d ≡ residual_from s (next c e) es
      by true large h later = absurd (let z = sym (refused_stays Reply.Unmatched es) ∙ h in cc)
      by false true h later = absurd (let z = sym (refused_stays Reply.TooLarge es) ∙ h in cc)
      by false false h later = later h

  -- one more of some events
  module _ (c : Contract) (es : List Event) (i : ℕ) (e : Event) (lt : i < length es) (here : e ≡ get_or es i e) (d : Contract) (kept : by_events s c (take i es) ≡ Owed d) where
    one_more : take (i + 1) es ≡ take i es ++ e ∷ []
    one_more = take_more es i e lt ∙ ap (λ x. take i es ++ x ∷ []) (sym here)

    pub next_judged : by_events s c (take (i + 1) es) ≡ judge s Reply.Unmatched (next d e)
    next_judged = ap (by_events s c) one_more ∙ by_events-last c (take i es) e ∙ ap (λ j. by_event s j e) kept

    pub next_asked : asked_along s c (take (i + 1) es) ≡ asked_along s c (take i es) + asked_in s d
    next_asked =
        let one : asked_along s (residual_from s c (take i es)) (e ∷ []) ≡ asked_in s d =
        let z : asked_in s (residual_from s c (take i es)) + 0 ≡ asked_in s (residual_from s c (take i es)) = omega arith in
        z ∙ ap (asked_in s) (sym (residual_is (take i es) c d kept)) in
        ap (asked_along s c) one_more ∙ asked_along-append c (take i es) (e ∷ []) ∙ ap (λ n. asked_along s c (take i es) + n) one

    -- a refusal on the way is the refusal of all
    pub refused_early : (reply : Reply) → judge s Reply.Unmatched (next d e) ≡ Refused reply → by_events s c es ≡ Refused reply
    refused_early reply refused =
        ap (by_events s c) (sym (take-append-drop (i + 1) es)) ∙ by_events-append c (take (i + 1) es) (drop (i + 1) es)
        ∙ ap (λ j. fold (by_event s) j (drop (i + 1) es)) (next_judged ∙ refused) ∙ refused_stays reply (drop (i + 1) es)

    -- and asks no more than all do
    pub asked_within : asked_along s c (take i es) + asked_in s d ≤ asked_along s c es
    asked_within =
        let whole = ap (asked_along s c) (sym (take-append-drop (i + 1) es)) ∙ asked_along-append c (take (i + 1) es) (drop (i + 1) es) in
        let more = next_asked in
        omega (arith, whole, more)

  pub asked_front : (c : Contract) (xs ys : List Event) → asked_along s c xs ≤ asked_along s c (xs ++ ys)
  asked_front c xs ys = let whole = asked_along-append c xs ys in omega (arith, whole)

-- a sum that begins earlier is no less
pub sum_from-earlier : (f : ℕ → ℕ) (first last m : ℕ) → first ≤ m → sum_from f m (last - m) ≤ sum_from f first (last - first)
sum_from-earlier f first last m le = by (m - first) first (omega (arith, le))
  where
    step : (first : ℕ) → sum_from f (suc first) (last - suc first) ≤ sum_from f first (last - first)
    step first = at_count (last - first) refl
      where
        at_count : (count : ℕ) → last - first ≡ count → sum_from f (suc first) (last - suc first) ≤ sum_from f first count
        at_count zero e = rw (let z : last - suc first ≡ 0 = omega (arith, e) in z) (omega arith)
        at_count (suc count) e = rw (let z : last - suc first ≡ count = omega (arith, e) in z) (omega arith)

    by : (gap first : ℕ) → first + gap ≡ m → sum_from f m (last - m) ≤ sum_from f first (last - first)
    by zero first e = subst (λ k. sum_from f m (last - m) ≤ sum_from f k (last - k)) (let z : m ≡ first = omega (arith, e) in z) (omega arith)
    by (suc gap) first e =
        let later = by gap (suc first) (omega (arith, e)) in
        let here = step first in
        omega (arith, later, here)
