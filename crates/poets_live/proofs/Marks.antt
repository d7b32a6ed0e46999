-- Marks on the way of a fold.
use Rattle.std.proofs.Common.{◌≡◌, ℕ, zero, suc, ◌+◌, ◌*◌, ◌-◌, ◌/◌, ◌%◌, ◌≤◌, ◌<◌, Bool, true, false, List, [], ◌∷◌, ◌++◌, Option, Some, None, length, take, drop, slice_get, nat_lt, if◌then◌else◌, ◌⊎◌, inl, inr, refl, sym, ◌∙◌, ap, ap₂, subst, arith}
use Rattle.std.specs.Prelude.{is_some, min, remove, unwrap_or}
use Rattle.std.proofs.lemmas.Nat.{div-add-mod'}
use Rattle.std.proofs.Math.Nat.{mod-lt}
use Rattle.std.proofs.lemmas.Bool.Decides.{nat_tests}
use Rattle.std.proofs.lemmas.List.{take-append-le, take_all, take-take, take-map, take_rest, map-append, length-map, length-take-le, length_push}
use Rattle.std.proofs.lemmas.Option.{same_Some, slice_get-get_or, slice_get_within}
use Rattle.std.proofs.Math.Seq.{take-add}
use Rattle.poets_value.specs.declared.event.Event.{Event}
use Rattle.poets_value.specs.declared.value.Value.{Value}
use Rattle.poets_expr.specs.Env.{Declared}
use Rattle.poets_expr.specs.Expression.{Expression}
use Rattle.poets_report.specs.Plain.{Report, Answer, Single, Rows}
use Rattle.poets_report.specs.Reports.{folded}
use Rattle.poets_report.specs.Answers.{IsAnswer, IsAnswer_by}
use Rattle.poets_report.specs.declared.folds.Change.{Change}
use Rattle.poets_report.specs.Folds.{Changes, FoldView, StandsFor, carried_in, events_of}
use Rattle.poets_live.specs.Courses.{AreMarks, AreMarks_by, CourseView, HoldMarks, IsPassed, apart}
use Rattle.poets_live.specs.code.Courses.{CourseGoesOn, IsCourse, IsCourseUpTo, IsNear, carried_on}

abbrev Marks : Type 0
Marks = List (Option Value)

less_is : (n m : ℕ) → nat_lt n m ≡ true → n < m
less_is n m e = grind (arith, nat_tests, e)

less_is_not : (n m : ℕ) → nat_lt n m ≡ false → m ≤ n
less_is_not n m e = grind (arith, nat_tests, e)

-- ---- one event more

-- the items of a list with one more are its own, and that one
get-push : {A : Type 0} (xs : List A) (x : A) (n : ℕ) (y : A) → slice_get (xs ++ x ∷ []) n ≡ Some y → (slice_get xs n ≡ Some y) ⊎ ((n ≡ length xs) × (y ≡ x))
get-push [] x zero y e = inr (refl, sym (same_Some x y e))
get-push [] x (suc n) y e = absurd cc
get-push (z ∷ xs) x zero y e = inl e
get-push (z ∷ xs) x (suc n) y e = elim (get-push xs x n y e) as (λ _. (slice_get xs n ≡ Some y) ⊎ ((suc n ≡ suc (length xs)) × (y ≡ x))) [
  | inl h ↦ inl h
  | inr h ↦ inr (ap suc h.0, h.1)
]

module _ (carried : List Event → Option Value) where
  hold-more : (events : List Event) (e : Event) (marks : Marks) → length marks * apart ≤ length events → HoldMarks carried events marks → HoldMarks carried (events ++ e ∷ []) marks
  hold-more events e marks far h n v at =
      let lt = slice_get_within marks n v at in
      h n v at ∙ ap carried (sym (take-append-le ((n + 1) * apart) events (e ∷ []) (omega (arith, lt, far))))

  hold-push : (events : List Event) (marks : Marks) (w : Option Value) → w ≡ carried (take ((length marks + 1) * apart) events) → HoldMarks carried events marks → HoldMarks carried events (marks ++ w ∷ [])
  hold-push events marks w c h n v at = elim (get-push marks w n v at) as (λ _. v ≡ carried (take ((n + 1) * apart) events)) [
    | inl k ↦ h n v k
    | inr k ↦ k.1 ∙ c ∙ ap (λ m. carried (take ((m + 1) * apart) events)) (sym k.0)
  ]

  -- marks on the way over these events
  abbrev AreAlong : List Event → Marks → (since : ℕ) → Type 0
  AreAlong events marks since = HoldMarks carried events marks × (length events ≡ length marks * apart + since) × (since ≤ apart)

  along-passed : (events : List Event) (e : Event) (marks : Marks) (since : ℕ) (v : Option Value) (marks' : Marks) (since' : ℕ) → v ≡ carried events → AreAlong events marks since →
      IsPassed (Single v) marks since marks' since' → AreAlong (events ++ e ∷ []) marks' since'
  along-passed events e marks since v marks' since' c h p = by_test (nat_lt since apart) refl
    where
      by_test : (b : Bool) → nat_lt since apart ≡ b → AreAlong (events ++ e ∷ []) marks' since'
      by_test true t =
          let ms : marks' ≡ marks = p.0 ∙ ap (λ b. if b then marks else marks ++ v ∷ []) t in
          let k : since' ≡ since + 1 = p.1 ∙ ap (λ b. if b then since + 1 else 1) t in
          let below = less_is since apart t in
          let len = ap length ms in
          let count = h.1 in
          let more = length_push events e in
          (subst (HoldMarks carried (events ++ e ∷ [])) (sym ms) (hold-more events e marks (omega (arith, count)) h.0), omega (arith, len, count, more, k), omega (arith, k, below))
      by_test false t =
          let ms : marks' ≡ marks ++ v ∷ [] = p.0 ∙ ap (λ b. if b then marks else marks ++ v ∷ []) t in
          let k : since' ≡ 1 = p.1 ∙ ap (λ b. if b then since + 1 else 1) t in
          let far = less_is_not since apart t in
          let short = h.2 in
          let len = ap length ms ∙ length_push marks v in
          let count = h.1 in
          let more = length_push events e in
          let whole = c ∙ ap carried (sym (take_all ((length marks + 1) * apart) events (omega (arith, count, far, short)))) in
          (subst (HoldMarks carried (events ++ e ∷ [])) (sym ms) (hold-pushed whole), omega (arith, len, count, far, short, more, k), omega (arith, k))
        where
          hold-pushed : v ≡ carried (take ((length marks + 1) * apart) events) → HoldMarks carried (events ++ e ∷ []) (marks ++ v ∷ [])
          hold-pushed whole =
              let count = h.1 in
              let far = less_is_not since apart t in
              let short = h.2 in
              hold-more events e (marks ++ v ∷ []) (let len = length_push marks v in omega (arith, count, far, short, len)) (hold-push events marks v whole h.0)

-- marks on the way over events, and past one more
module _ (declared : Declared) (q : Report) (args : List (Option Value)) (events : List Event) (e : Event) where
  passed_by : (by : Option Expression) (answer : Answer) (marks : Marks) (since : ℕ) (marks' : Marks) (since' : ℕ) →
      AreMarks_by by declared q args events marks since → IsAnswer_by by declared q args events answer → IsPassed answer marks since marks' since' →
      AreMarks_by by declared q args (events ++ e ∷ []) marks' since'
  passed_by None (Rows rows) marks since marks' since' h a p = elim a [ ]
  passed_by None (Single v) marks since marks' since' h a p = along-passed (folded declared q args) events e marks since v marks' since' a h p
  passed_by (Some key) (Single v) marks since marks' since' h a p = elim a [ ]
  passed_by (Some key) (Rows rows) marks since marks' since' h a p = p.0 ∙ h

  pub marks-passed : (answer : Answer) (marks : Marks) (since : ℕ) (marks' : Marks) (since' : ℕ) → AreMarks declared q args events marks since →
      IsAnswer declared q args events answer → IsPassed answer marks since marks' since' → AreMarks declared q args (events ++ e ∷ []) marks' since'
  marks-passed = passed_by q.key

-- no marks at the start
pub marks-none : (declared : Declared) (q : Report) (args : List (Option Value)) → AreMarks declared q args [] [] 0
marks-none declared q args = by_key q.key
  where
    by_key : (by : Option Expression) → AreMarks_by by declared q args [] [] 0
    by_key None = (λ n v e. absurd cc, refl, omega arith)
    by_key (Some key) = refl

-- ---- up to a mark

get-front : {A : Type 0} (xs : List A) (k n : ℕ) (x : A) → slice_get (take k xs) n ≡ Some x → slice_get xs n ≡ Some x
get-front [] zero n x e = e
get-front [] (suc k) n x e = e
get-front (y ∷ xs) zero n x e = absurd cc
get-front (y ∷ xs) (suc k) zero x e = e
get-front (y ∷ xs) (suc k) (suc n) x e = get-front xs k n x e

hold-front : (carried : List Event → Option Value) (events : List Event) (marks : Marks) (k : ℕ) → k ≤ length marks → HoldMarks carried events marks → HoldMarks carried (take (k * apart) events) (take k marks)
hold-front carried events marks k many h n v at =
    let lt = slice_get_within (take k marks) n v at in
    let len = length-take-le k marks many in
    h n v (get-front marks k n v at) ∙ ap carried (sym (take-take ((n + 1) * apart) (k * apart) events (omega (arith, lt, len))))

hold-last : (carried : List Event → Option Value) (events : List Event) (marks : Marks) (v : Option Value) → v ≡ carried [] → length events ≡ length marks * apart → HoldMarks carried events marks →
    unwrap_or (slice_get marks (length marks - 1)) v ≡ carried events
hold-last carried [] [] v c e h = c
hold-last carried (x ∷ events) [] v c e h = absurd (omega (arith, e))
hold-last carried events (w ∷ marks) v c e h = last (slice_get (w ∷ marks) (length (w ∷ marks) - 1)) refl
  where
    last : (o : Option (Option Value)) → slice_get (w ∷ marks) (length (w ∷ marks) - 1) ≡ o → unwrap_or o v ≡ carried events
    last None at = absurd (let some = slice_get-get_or (w ∷ marks) (length (w ∷ marks) - 1) v (omega arith) in cc)
    last (Some u) at = h (length (w ∷ marks) - 1) u at ∙ ap carried (take_all ((length (w ∷ marks) - 1 + 1) * apart) events (omega (arith, e)))

-- how many of so many marks are not behind a place
abbrev pub marks_until : (count place : ℕ) → ℕ
marks_until count place = min count (place / apart)

taken_by : (by : Option Expression) (declared : Declared) (q : Report) (args : List (Option Value)) (events : List Event) (place : ℕ) (marks : Marks) (since : ℕ) (first : Answer) →
    AreMarks_by by declared q args events marks since → IsAnswer_by by declared q args [] first → place < length events →
    let k = marks_until (length marks) place in
    IsNear by (place - k * apart) × AreMarks_by by declared q args (take (k * apart) events) (take k marks) 0
    × IsAnswer_by by declared q args (take (k * apart) events) (carried_on first (take k marks))
taken_by None declared q args events place marks since (Rows rows) h a lt = elim a [ ]
taken_by None declared q args events place marks since (Single v) h a lt =
    let k = marks_until (length marks) place in
    let n = k * apart in
    let whole = div-add-mod' place apart in
    let rest : place % apart < apart = mod-lt place (omega arith) in
    let count = h.1 in
    let short = h.2 in
    let far : n ≤ length events = omega (arith, lt, whole) in
    let len : length (take n events) ≡ n = length-take-le n events far in
    let many : length (take k marks) ≡ k = length-take-le k marks (omega arith) in
    let there : length (take n events) ≡ length (take k marks) * apart = omega (arith, len, many) in
    let front = hold-front (folded declared q args) events marks k (omega arith) h.0 in (
      omega (arith, whole, rest, count, short, lt),
      (front, omega (arith, there), omega arith),
      hold-last (folded declared q args) (take n events) (take k marks) v a there front,
    )
taken_by (Some key) declared q args events place marks since (Single v) h a lt = elim a [ ]
taken_by (Some key) declared q args events place marks since (Rows rows) h a lt =
    let k = marks_until (length marks) place in
    let few = ap length h in
    let none : k ≡ 0 = omega (arith, few) in
    let front : take k marks ≡ [] = ap (take k) h ∙ take-of-none k in
    let empty : [] ≡ take (k * apart) events = sym (ap (λ m. take m events) (let e : k * apart ≡ 0 = omega (arith, none) in e)) in
    (tt, front, subst (λ es. IsAnswer_by (Some key) declared q args es (Rows rows)) empty a)
  where
    take-of-none : {A : Type 0} (n : ℕ) → take {A = A} n [] ≡ []
    take-of-none zero = refl
    take-of-none (suc n) = refl

-- with what the last mark holds put in place, an answer carries on from there
pub carries-mark : (answer new : Answer) (c : Change) (marks : Marks) (m : Option Value) → is_some (carried_in answer) ≡ true → Some m ≡ slice_get marks (length marks - 1) →
    c.row ≡ Some m → Changes c answer new → new ≡ carried_on answer marks
carries-mark (Single v) new c marks m some e row h =
    h ∙ ap (λ r. Single (unwrap_or r v)) row ∙ ap (λ o. Single (unwrap_or o v)) e
carries-mark (Rows rows) new c marks m some e row h = absurd cc

-- ---- a course up to a mark

-- a fold with what the last of these marks holds put in place
pub record IsCarriedOn (first : FoldView) (marks : Marks) (fold : FoldView) : Type 0 where
  pub env : fold.env ≡ first.env
  pub start : fold.start ≡ first.start
  pub answer : fold.answer ≡ carried_on first.answer marks

module _ (declared : Declared) (q : Report) (args : List (Option Value)) (events : List Event) (place : ℕ) (within : place < length events) (marks : Marks)
    (since : ℕ) (along : AreMarks declared q args events marks since) (first : FoldView) (stands : StandsFor declared q args [] first) where
  pub course_up_to : (fold : FoldView) (front : Marks) (left k room : ℕ) → k ≡ marks_until (length marks) place → front ≡ take k marks →
      left ≡ place - k * apart → IsCarriedOn first front fold →
      IsCourseUpTo declared q args events place (record { fold = fold; marks = front; since = 0; room = room }) left
  course_up_to fold front left k room e f l carried =
      let m = marks_until (length marks) place in
      let t = taken_by q.key declared q args events place marks since first.answer along stands.answers within in
      let whole = div-add-mod' place apart in
      let there : m * apart ≡ place - left = omega (arith, e, l, whole) in
      let near : place - m * apart ≡ left = omega (arith, e, l) in
      let same : take m marks ≡ front = ap (λ n. take n marks) (sym e) ∙ sym f in
      record {
        within = omega (arith, l);
        near = subst (IsNear q.key) near t.0;
        over = record {
          stands = record {
            under = carried.env ∙ stands.under;
            starts = carried.start ∙ stands.starts;
            answers = subst (IsAnswer declared q args (take (place - left) events)) (sym carried.answer)
                (subst (λ ms. IsAnswer declared q args (take (place - left) events) (carried_on first.answer ms)) same
                (subst (λ n. IsAnswer declared q args (take n events) (carried_on first.answer (take m marks))) there t.2));
          };
          marks = subst (λ ms. AreMarks declared q args (take (place - left) events) ms 0) same
              (subst (λ n. AreMarks declared q args (take n events) (take m marks) 0) there t.1);
        };
      }

-- ---- a log without one of its pairs

pub remains : (log : List (ℕ × Event)) (place left : ℕ) → left ≤ place → place < length log →
    (take (place - left) (events_of log) ++ events_of (take (place - (place - left)) (drop (place - left) log))) ++ events_of (take (length log - (place + 1)) (drop (place + 1) log))
    ≡ events_of (remove log place)
remains log place left within lt =
    let n = place - left in
    let k : place - n ≡ left = omega (arith, within) in
    let sum : n + left ≡ place = omega (arith, within) in
    let next : place + 1 ≡ suc place = omega arith in
    let middle : take n (events_of log) ++ events_of (take (place - n) (drop n log)) ≡ events_of (take place log) =
    ap (λ m. take n (events_of log) ++ events_of (take m (drop n log))) k
    ∙ ap (λ s. s ++ events_of (take left (drop n log))) (take-map (λ p. p.1) n log)
    ∙ sym (map-append (λ p. p.1) (take n log) (take left (drop n log)))
    ∙ ap events_of (sym (take-add n left log) ∙ ap (λ m. take m log) sum) in
    let rest : events_of (take (length log - (place + 1)) (drop (place + 1) log)) ≡ events_of (drop (suc place) log) =
    ap events_of (take_rest log (place + 1) ∙ ap (λ m. drop m log) next) in
    ap₂ (λ s t. s ++ t) middle rest ∙ sym (map-append (λ p. p.1) (take place log) (drop (suc place) log))

pub length-events_of : (log : List (ℕ × Event)) → length (events_of log) ≡ length log
length-events_of log = length-map log (λ p. p.1)

-- the course up to a mark, taken on over the events up to the place and those behind it
module _ (declared : Declared) (q : Report) (args : List (Option Value)) (log : List (ℕ × Event)) (place : ℕ) (within : place < length log) where
  pub course_without : (left : ℕ) (first second third : CourseView) → IsCourseUpTo declared q args (events_of log) place first left →
      CourseGoesOn declared q (events_of (take (place - (place - left)) (drop (place - left) log))) first second →
      CourseGoesOn declared q (events_of (take (length log - (place + 1)) (drop (place + 1) log))) second third →
      IsCourse declared q args (events_of (remove log place)) third
  course_without left first second third up on more =
      let front = take (place - left) (events_of log) in
      let middle = events_of (take (place - (place - left)) (drop (place - left) log)) in
      subst (λ es. IsCourse declared q args es third) (remains log place left up.within within) (more args (front ++ middle) (on args front up.over))
