-- What is open while a way is checked.
use Rattle.std.proofs.Common.{◌≡◌, ℕ, zero, suc, ◌+◌, ◌-◌, ◌<◌, ◌≤◌, arith, Bool, true, false, nat_eq, List, [], ◌∷◌, ◌++◌, length, map, get_or, reverse, take, drop, refl, sym, ◌∙◌, ap, subst, Option, Some, length-append, append_assoc, eq-eqb}
use Rattle.std.specs.Prelude.{nat_le, option_map}
use Rattle.std.proofs.lemmas.Bool.{le-leb}
use Rattle.std.proofs.lemmas.List.{length-reverse, reverse-append, reverse-reverse, take-append-drop}
use Rattle.std.proofs.Math.Seq.{take-append_seam, drop-append_seam, drop-cons}
use Rattle.poets_value.specs.declared.event.Event.{Event}
use Rattle.poets_value.specs.declared.value.Name.{Name}
use Rattle.poets_expr.specs.Env.{Env}
use Rattle.poets_expr.specs.Expression.{Expression}
use Rattle.poets_expr.specs.Val.{val}
use Rattle.poets_syntax.specs.declared.term.Binders.{Binders}
use Rattle.poets_syntax.specs.Contract.{Contract, Transmit, Plus, Par, Seq, App, contract_of}
use Rattle.poets_syntax.specs.Plain.{Book, Template}
use Rattle.poets_syntax.specs.Book.{parameter_env, template_in, taken}
use Rattle.poets_meaning.specs.Truth.{is_true}
use Rattle.poets_way.specs.Moves.{Move, move_of}
use Rattle.poets_way.specs.Moves as M
use Rattle.poets_way.specs.Ways.{first_of, second_of}
use Rattle.poets_way.specs.declared.goals.Goal.{Goal as CodeGoal}
use Rattle.poets_way.specs.declared.goals.Open.{Open}
use Rattle.poets_way.specs.declared.way.Move.{Move as WayMove}
use Rattle.poets_way.proofs.Sharing.{both_sides}
use Rattle.poets_way.proofs.Sided.{take_all}
use Rattle.poets_way.specs.code.Goals.{Adds, AddsBoth, ArePartedBy, Pairs, AreShared, AreSharedWith, Follows, Goal, entered, followed, goal_of, goals_by, goals_in, goals_of, total, where_true}

pub total-push : (gs : List CodeGoal) (g : CodeGoal) → total (gs ++ g ∷ []) ≡ total gs + g.count
total-push [] g = omega arith
total-push (x ∷ gs) g = let h = total-push gs g in omega (arith, h)

-- no goal is open where there is none
pub no_goals : (gs : List CodeGoal) (s : List Event) → goals_of (reverse gs) s ≡ [] → gs ≡ []
no_goals gs s e = sym (reverse-reverse gs) ∙ ap reverse (none (reverse gs) s e) where
  none : (gs : List CodeGoal) (s : List Event) → goals_of gs s ≡ [] → gs ≡ []
  none [] s e = refl
  none (g ∷ gs) s e = absurd cc

-- the goals with one at the end of the list, which is the next one
pub goals-push : (gs : List CodeGoal) (g : CodeGoal) (s : List Event) → goals_of (reverse (gs ++ g ∷ [])) s ≡ goal_of g s ∷ goals_of (reverse gs) (drop g.count s)
goals-push gs g s = ap (λ xs. goals_of xs s) (reverse-append gs (g ∷ []))

-- a goal that is put at the end of the list is added in front
pub adds-one : (g : CodeGoal) (old new : Open) → new.goals.items ≡ old.goals.items ++ g ∷ [] → new.events.items ≡ old.events.items →
    Adds (contract_of g.term.now) g.pairs.items g.count old new true
adds-one g old new e f = record {
  yes = refl;
  events = f;
  count = omega (arith, ap total e, total-push old.goals.items g);
  goals = λ s. ap (λ gs. goals_of (reverse gs) s) e ∙ goals-push old.goals.items g s;
}

-- and so are two
module _ (g : CodeGoal) (c₁ c₂ : Contract) (pairs : Pairs) (n : ℕ) (e : pairs ≡ g.pairs.items) (l : n ≤ g.count) where
  pub adds-both : (old mid new : Open) (f h : Bool) → Adds c₂ pairs (g.count - n) old mid f → Adds c₁ g.pairs.items n mid new h → AddsBoth g c₁ c₂ n old new h
  adds-both old mid new f h two one = record {
    yes = one.yes;
    events = one.events ∙ two.events;
    count = omega (arith, one.count, two.count, l);
    goals = λ s.
        one.goals s
        ∙ ap (λ gs. record { env = reverse g.pairs.items; contract = c₁; events = take n s } ∷ gs) (two.goals (drop n s))
        ∙ ap (λ ps. record { env = reverse g.pairs.items; contract = c₁; events = take n s }
        ∷ record { env = reverse ps; contract = c₂; events = take (g.count - n) (drop n s) }
        ∷ goals_of (reverse old.goals.items) (drop (g.count - n) (drop n s))) e;
  }

module _ (c : Contract) (pairs : Pairs) (n : ℕ) (old new : Open) (fits : Bool) (adds : Adds c pairs n old new fits) where
  -- what is open then
  pub added-as : (env : Env) (s : List Event) (gs : List CodeGoal) → reverse pairs ≡ env → reverse old.events.items ≡ s → old.goals.items ≡ gs →
      where_true fits (goals_in new) ≡ Some (record { env = env; contract = c; events = take n s } ∷ goals_of (reverse gs) (drop n s))
  added-as env s gs p t u =
      let open_as : Env → List Event → List CodeGoal → Option (List Goal) = λ x z xs.
      Some (record { env = x; contract = c; events = take n z } ∷ goals_of (reverse xs) (drop n z)) in
      ap (λ b. where_true b (goals_in new)) adds.yes ∙ ap (λ z. Some (goals_of (reverse new.goals.items) (reverse z))) adds.events
      ∙ ap Some (adds.goals (reverse old.events.items))
      ∙ ap (λ x. open_as x (reverse old.events.items) old.goals.items) p
      ∙ ap (λ x. open_as env x old.goals.items) t ∙ ap (λ x. open_as env s x) u

  pub added-shared : n + total old.goals.items ≡ length old.events.items → AreShared new
  added-shared h = omega (arith, h, adds.count, ap length adds.events)

-- ---- a choice

module _ (book : Book) (c d : Contract) (g : CodeGoal) (old new : Open) (fits : Bool) (adds : Adds c g.pairs.items g.count old new fits) (shared : AreSharedWith g old) where
  same_goal : where_true fits (goals_in new) ≡ Some (record { env = reverse g.pairs.items; contract = c; events = take g.count (reverse old.events.items) }
      ∷ goals_of (reverse old.goals.items) (drop g.count (reverse old.events.items)))
  same_goal = added-as c g.pairs.items g.count old new fits adds (reverse g.pairs.items) (reverse old.events.items) old.goals.items refl refl refl

  pub follows-left : Follows book (Plus c d) M.Left g old new fits
  follows-left = (same_goal, λ t. added-shared c g.pairs.items g.count old new fits adds shared)

  pub follows-right : Follows book (Plus d c) M.Right g old new fits
  follows-right = (same_goal, λ t. added-shared c g.pairs.items g.count old new fits adds shared)

-- ---- an application

module _ (book : Book) (f : Name) (args : List Expression) (g : CodeGoal) (old : Open) where
  abbrev others : List Goal
  others = goals_of (reverse old.goals.items) (drop g.count (reverse old.events.items))

  abbrev entered_at : Option Template → Option (List Goal)
  entered_at o = option_map (λ ps. ps ++ others) (entered book (reverse g.pairs.items) o args (take g.count (reverse old.events.items)))

  module _ (t : Template) (here : template_in book.templates f ≡ Some t) where
    abbrev body : Goal
    body = record { env = parameter_env t.params (map (val book.declared (reverse g.pairs.items)) args); contract = t.body; events = take g.count (reverse old.events.items) }

    enters : (b : Bool) → nat_eq (length t.params) (length args) ≡ b → followed book (App f args) M.Enter g old ≡ option_map (λ ps. ps ++ others) (where_true b (body ∷ []))
    enters b e = ap entered_at here ∙ ap (λ b. option_map (λ ps. ps ++ others) (where_true b (body ∷ []))) e

    pub enter-same : (pairs : Pairs) (new : Open) (fits : Bool) → Adds t.body pairs g.count old new fits → AreSharedWith g old →
        reverse pairs ≡ parameter_env t.params (map (val book.declared (reverse g.pairs.items)) args) → length t.params ≡ length args →
        Follows book (App f args) M.Enter g old new fits
    enter-same pairs new fits adds shared p l = (
      added-as t.body pairs g.count old new fits adds (parameter_env t.params (map (val book.declared (reverse g.pairs.items)) args)) (reverse old.events.items)
          old.goals.items p refl refl
          ∙ sym (enters true (eq-eqb (length t.params) (length args) l)),
      λ y. added-shared t.body pairs g.count old new fits adds shared,
    )

-- ---- a transmit

take-next : {A : Type 0} (n : ℕ) (x : A) (s : List A) → 0 < n → take n (x ∷ s) ≡ x ∷ take (n - 1) s
take-next zero x s h = absurd (omega (arith, h))
take-next (suc n) x s h = let e : n ≡ suc n - 1 = omega arith in ap (λ k. x ∷ take k s) e

drop-next : {A : Type 0} (n : ℕ) (x : A) (s : List A) → 0 < n → drop n (x ∷ s) ≡ drop (n - 1) s
drop-next zero x s h = absurd (omega (arith, h))
drop-next (suc n) x s h = let e : n ≡ suc n - 1 = omega arith in ap (λ k. drop k s) e

module _ (book : Book) (names : Binders) (p : Expression) (c : Contract) (g : CodeGoal) (old : Open) where
  abbrev took : List Event → List Event → Option (List Goal)
  took mine others = goals_by book M.Take (record { env = reverse g.pairs.items; contract = Transmit names p c; events = mine }) (goals_of (reverse old.goals.items) others)

  module _ (e : Event) (rest : List Event) (some : 0 < g.count) (events : old.events.items ≡ rest ++ e ∷ []) where
    pub take-first : followed book (Transmit names p c) M.Take g old ≡ took (e ∷ take (g.count - 1) (reverse rest)) (drop (g.count - 1) (reverse rest))
    take-first =
        let n = g.count in
        ap (λ s. took (take n (reverse s)) (drop n (reverse s))) events ∙ ap (λ s. took (take n s) (drop n s)) (reverse-append rest (e ∷ []))
        ∙ ap (λ s. took s (drop n (e ∷ reverse rest))) (take-next n e (reverse rest) some)
        ∙ ap (λ s. took (e ∷ take (n - 1) (reverse rest)) s) (drop-next n e (reverse rest) some)

    took-as : (b : Bool) → is_true (val book.declared (taken names e (reverse g.pairs.items)) p) ≡ b → followed book (Transmit names p c) M.Take g old ≡
        option_map (λ ps. ps ++ goals_of (reverse old.goals.items) (drop (g.count - 1) (reverse rest)))
        (where_true b (record { env = taken names e (reverse g.pairs.items); contract = c; events = take (g.count - 1) (reverse rest) } ∷ []))
    took-as b t =
        take-first ∙ ap (λ b. option_map (λ ps. ps ++ goals_of (reverse old.goals.items) (drop (g.count - 1) (reverse rest)))
        (where_true b (record { env = taken names e (reverse g.pairs.items); contract = c; events = take (g.count - 1) (reverse rest) } ∷ []))) t

    pub take-true : is_true (val book.declared (taken names e (reverse g.pairs.items)) p) ≡ true → (pairs : Pairs) (mid new : Open) (fits : Bool) →
        Adds c pairs (g.count - 1) mid new fits → AreSharedWith g old → mid.goals.items ≡ old.goals.items → mid.events.items ≡ rest →
        reverse pairs ≡ taken names e (reverse g.pairs.items) → Follows book (Transmit names p c) M.Take g old new fits
    take-true t pairs mid new fits adds shared goals left env = (
      added-as c pairs (g.count - 1) mid new fits adds (taken names e (reverse g.pairs.items)) (reverse rest) old.goals.items env (ap reverse left) goals
          ∙ sym (took-as true t),
      λ y. added-shared c pairs (g.count - 1) mid new fits adds
          (omega (arith, some, shared, ap total goals, ap length left, ap length events, length-append rest (e ∷ []))),
    )

-- ---- two parts

module _ (g : CodeGoal) (c₁ c₂ : Contract) (n : ℕ) (old mid new : Open) (fits : Bool) (adds : AddsBoth g c₁ c₂ n mid new fits) (others : mid.goals.items ≡ old.goals.items) where
  -- the two goals have the events in front, and the others what is behind
  pub both-added : (f s d : List Event) → reverse mid.events.items ≡ f ++ (s ++ d) → length f ≡ n → length s ≡ g.count - n →
      goals_in new ≡ record { env = reverse g.pairs.items; contract = c₁; events = f } ∷ record { env = reverse g.pairs.items; contract = c₂; events = s } ∷ goals_of (reverse old.goals.items) d
  both-added f s d e l m =
      let env = reverse g.pairs.items in
      let two : List Event → List Event → List Event → List Goal = λ x y z.
      record { env = env; contract = c₁; events = x } ∷ record { env = env; contract = c₂; events = y } ∷ goals_of (reverse mid.goals.items) z in
      let k = g.count - n in
      let first : take n (f ++ (s ++ d)) ≡ f = ap (λ j. take j (f ++ (s ++ d))) (sym l) ∙ take-append_seam f (s ++ d) in
      let behind : drop n (f ++ (s ++ d)) ≡ s ++ d = ap (λ j. drop j (f ++ (s ++ d))) (sym l) ∙ drop-append_seam f (s ++ d) in
      let second : take k (s ++ d) ≡ s = ap (λ j. take j (s ++ d)) (sym m) ∙ take-append_seam s d in
      let last : drop k (s ++ d) ≡ d = ap (λ j. drop j (s ++ d)) (sym m) ∙ drop-append_seam s d in
      ap (λ es. goals_of (reverse new.goals.items) (reverse es)) adds.events ∙ ap (goals_of (reverse new.goals.items)) e ∙ adds.goals (f ++ (s ++ d))
      ∙ ap (λ x. two x (take k (drop n (f ++ (s ++ d)))) (drop k (drop n (f ++ (s ++ d))))) first
      ∙ ap (λ x. two f (take k x) (drop k x)) behind ∙ ap (λ x. two f x (drop k (s ++ d))) second ∙ ap (λ x. two f s x) last
      ∙ ap (λ gs. record { env = env; contract = c₁; events = f } ∷ record { env = env; contract = c₂; events = s } ∷ goals_of (reverse gs) d) others

  pub both-shared : length mid.events.items ≡ length old.events.items → AreSharedWith g old → AreShared new
  both-shared e h = omega (arith, h, adds.count, ap total others, e, ap length adds.events)

-- as many of the events as the goal counts
counted : (n : ℕ) (s : List Event) → n ≤ length s → length (take n s) ≡ n
counted zero s h = refl
counted (suc n) [] h = absurd (omega (arith, h))
counted (suc n) (x ∷ s) h = ap suc (counted n s (omega (arith, h)))

pub mine : (g : CodeGoal) (o : Open) → AreSharedWith g o → length (take g.count (reverse o.events.items)) ≡ g.count
mine g o h = counted g.count (reverse o.events.items) (omega (arith, h, length-reverse o.events.items))

-- the sides of the first events alone count
first_of-take : (sides : List Bool) (s : List Event) → first_of sides (take (length sides) s) ≡ first_of sides s
first_of-take [] s = refl
first_of-take (b ∷ sides) [] = refl
first_of-take (true ∷ sides) (x ∷ s) = first_of-take sides s
first_of-take (false ∷ sides) (x ∷ s) = ap (λ u. x ∷ u) (first_of-take sides s)

second_of-take : (sides : List Bool) (s : List Event) → second_of sides (take (length sides) s) ≡ second_of sides s
second_of-take [] s = refl
second_of-take (b ∷ sides) [] = refl
second_of-take (true ∷ sides) (x ∷ s) = ap (λ u. x ∷ u) (second_of-take sides s)
second_of-take (false ∷ sides) (x ∷ s) = second_of-take sides s

module _ (book : Book) (c₁ c₂ : Contract) (g : CodeGoal) (old : Open) (shared : AreSharedWith g old) where
  abbrev events : List Event
  events = reverse old.events.items

  abbrev rest : List Goal
  rest = goals_of (reverse old.goals.items) (drop g.count events)

  abbrev two_goals : List Event → List Event → List Goal
  two_goals f s =
      record { env = reverse g.pairs.items; contract = c₁; events = f } ∷ record { env = reverse g.pairs.items; contract = c₂; events = s } ∷ []

  abbrev out : Bool → List Goal → Option (List Goal)
  out b gs = option_map (λ ps. ps ++ rest) (where_true b gs)

  module _ (sides : List Bool) where
    fits_by : nat_eq (length sides) (length (take g.count events)) ≡ nat_eq (length sides) g.count
    fits_by = ap (nat_eq (length sides)) (mine g old shared)

    pub both-some : length sides ≡ g.count → followed book (Par c₁ c₂) (M.Both sides) g old ≡ Some (two_goals (first_of sides events) (second_of sides events) ++ rest)
    both-some e =
        ap (λ b. out b (two_goals (first_of sides (take g.count events)) (second_of sides (take g.count events)))) (fits_by ∙ eq-eqb (length sides) g.count e)
        ∙ ap (λ n. Some (two_goals (first_of sides (take n events)) (second_of sides (take n events)) ++ rest)) (sym e)
        ∙ ap (λ f. Some (two_goals f (second_of sides (take (length sides) events)) ++ rest)) (first_of-take sides events)
        ∙ ap (λ s. Some (two_goals (first_of sides events) s ++ rest)) (second_of-take sides events)

  module _ (n : ℕ) where
    parts_fit : nat_le n (length (take g.count events)) ≡ nat_le n g.count
    parts_fit = ap (nat_le n) (mine g old shared)

    pub then-some : n ≤ g.count → followed book (Seq c₁ c₂) (M.Then n) g old ≡ Some (two_goals (take n (take g.count events)) (drop n (take g.count events)) ++ rest)
    then-some h = ap (λ b. out b (two_goals (take n (take g.count events)) (drop n (take g.count events)))) (parts_fit ∙ le-leb n g.count h)

    -- the events of the two parts, and then the others
    pub then-events : events ≡ take n (take g.count events) ++ (drop n (take g.count events) ++ drop g.count events)
    then-events =
        sym (take-append-drop g.count events) ∙ ap (λ s. s ++ drop g.count events) (sym (take-append-drop n (take g.count events)))
        ∙ append_assoc (take n (take g.count events)) (drop n (take g.count events)) (drop g.count events)

    pub then-first : n ≤ g.count → length (take n (take g.count events)) ≡ n
    then-first h = counted n (take g.count events) (omega (arith, h, mine g old shared))

    pub then-second : n ≤ g.count → length (drop n (take g.count events)) ≡ g.count - n
    then-second h =
        let all = ap length (take-append-drop n (take g.count events)) in
        let sum = length-append (take n (take g.count events)) (drop n (take g.count events)) in
        omega (arith, then-first h, all, sum, mine g old shared)

  -- the goals of the two contracts side by side, and of a sequence
  pub follows-both : (sides : List Bool) (n : ℕ) (mid new : Open) (fits : Bool) → AddsBoth g c₁ c₂ n mid new fits → mid.goals.items ≡ old.goals.items →
      length sides ≡ g.count → ArePartedBy sides events (reverse mid.events.items) → n ≡ length (first_of sides events) →
      length mid.events.items ≡ length old.events.items → Follows book (Par c₁ c₂) (M.Both sides) g old new fits
  follows-both sides n mid new fits adds others e parted count all =
      let enough : length sides ≤ length events = omega (arith, e, shared, length-reverse old.events.items) in
      let second : length (second_of sides events) ≡ g.count - n = omega (arith, both_sides sides events enough, e, count) in (
        ap (λ b. where_true b (goals_in new)) adds.yes
            ∙ ap Some (both-added g c₁ c₂ n old mid new fits adds others (first_of sides events) (second_of sides events) (drop (length sides) events) parted (sym count) second)
            ∙ ap (λ k. Some (two_goals (first_of sides events) (second_of sides events) ++ goals_of (reverse old.goals.items) (drop k events))) e
            ∙ sym (both-some sides e),
        λ t. both-shared g c₁ c₂ n old mid new fits adds others all shared,
      )

  pub follows-then : (n : ℕ) (new : Open) (fits : Bool) → AddsBoth g c₁ c₂ n old new fits → n ≤ g.count → Follows book (Seq c₁ c₂) (M.Then n) g old new fits
  follows-then n new fits adds h = (
    ap (λ b. where_true b (goals_in new)) adds.yes
        ∙ ap Some (both-added g c₁ c₂ n old old new fits adds refl (take n (take g.count events)) (drop n (take g.count events)) (drop g.count events)
        (then-events n) (then-first n h) (then-second n h))
        ∙ sym (then-some n h),
    λ t. both-shared g c₁ c₂ n old old new fits adds refl refl shared,
  )

-- the next goal is taken out
module _ (o p : Open) (g : CodeGoal) (goals : o.goals.items ≡ p.goals.items ++ g ∷ []) (events : p.events.items ≡ o.events.items) where
  pub popped : goals_in o ≡ goal_of g (reverse p.events.items) ∷ goals_of (reverse p.goals.items) (drop g.count (reverse p.events.items))
  popped =
      ap (λ gs. goals_of (reverse gs) (reverse o.events.items)) goals ∙ ap (λ s. goals_of (reverse (p.goals.items ++ g ∷ [])) (reverse s)) (sym events)
      ∙ goals-push p.goals.items g (reverse p.events.items)

  pub popped-shared : AreShared o → AreSharedWith g p
  popped-shared h = omega (arith, h, ap total goals, total-push p.goals.items g, ap length events)

-- at the start one goal is open
pub started : (c : Contract) (pairs : Pairs) (n : ℕ) (s : List Event) (old new : Open) (fits : Bool) → Adds c pairs n old new fits →
    old.goals.items ≡ [] → pairs ≡ [] → n ≡ length s → reverse old.events.items ≡ s → (goals_in new ≡ record { env = []; contract = c; events = s } ∷ []) × AreShared new
started c pairs n s old new fits adds none empty all turned = (
  ap (λ z. goals_of (reverse new.goals.items) (reverse z)) adds.events ∙ ap (goals_of (reverse new.goals.items)) turned ∙ adds.goals s
      ∙ ap (λ gs. record { env = reverse pairs; contract = c; events = take n s } ∷ goals_of (reverse gs) (drop n s)) none
      ∙ ap (λ ps. record { env = reverse ps; contract = c; events = take n s } ∷ []) empty
      ∙ ap (λ z. record { env = []; contract = c; events = z } ∷ []) (take_all n s (sym all)),
  added-shared c pairs n old new fits adds (omega (arith, all, ap total none, ap length turned, length-reverse old.events.items)),
)

-- the next move and those after it
pub moves_more : (items : List WayMove) (i : ℕ) (m : WayMove) → i < length items → m ≡ get_or items i m →
    map move_of (drop i items) ≡ move_of m ∷ map move_of (drop (i + 1) items)
moves_more items i m l e =
    let after : drop i items ≡ m ∷ drop (suc i) items = drop-cons items i m l ∙ ap (λ x. x ∷ drop (suc i) items) (sym e) in
    let suc_is : suc i ≡ i + 1 = omega arith in
    ap (map move_of) after ∙ ap (λ n. move_of m ∷ map move_of (drop n items)) suc_is

-- the contract and the move under other names
pub follows_by : (book : Book) (c d : Contract) (m n : Move) (g : CodeGoal) (old new : Open) (fits : Bool) → c ≡ d → m ≡ n → Follows book d n g old new fits →
    Follows book c m g old new fits
follows_by book c d m n g old new fits e f h =
    subst (λ x. Follows book x m g old new fits) (sym e) (subst (λ x. Follows book d x g old new fits) (sym f) h)
