-- A way is one of goals where its moves leave goals of which its parts are ways.
use Rattle.std.proofs.Common.{◌≡◌, Bool, true, false, nat_eq, List, [], ◌∷◌, ◌++◌, length, map, take, drop, refl, sym, ◌∙◌, ap, subst, Option, Some, None, eq-eqb, inl, inr, ◌⊎◌, append_assoc, append-nil}
use Rattle.std.specs.Prelude.{nat_le, option_map}
use Rattle.std.proofs.lemmas.Bool.{eqb-true, leb-true, le-leb}
use Rattle.poets_value.specs.declared.event.Event.{Event}
use Rattle.poets_expr.specs.Env.{Env}
use Rattle.poets_expr.specs.Val.{val}
use Rattle.poets_syntax.specs.Contract.{Contract, Success, Transmit, Plus, Par, Seq, App}
use Rattle.poets_syntax.specs.Plain.{Book}
use Rattle.poets_syntax.specs.Book.{template_in, parameter_env, taken}
use Rattle.poets_meaning.specs.Truth.{is_true}
use Rattle.poets_meaning.proofs.Nullability.{true_holds}
use Rattle.poets_way.specs.Moves.{Move, moves_of}
use Rattle.poets_way.specs.Moves as M
use Rattle.poets_way.specs.Way.{Way}
use Rattle.poets_way.specs.Way as W
use Rattle.poets_way.specs.Ways.{Ways, first_of, second_of}
use Rattle.poets_way.specs.code.Goals.{Goal, ArePerformed, IsLeft, all_moves, entered, goals_by, where_true}

-- the head of a way, and its parts
abbrev pub head : Way → Move
head W.Nothing = M.Nothing
head (W.Enter w) = M.Enter
head (W.Take w) = M.Take
head (W.Left w) = M.Left
head (W.Right w) = M.Right
head (W.Both sides v u) = M.Both sides
head (W.Then n v u) = M.Then n

abbrev pub parts : Way → List Way
parts W.Nothing = []
parts (W.Enter w) = w ∷ []
parts (W.Take w) = w ∷ []
parts (W.Left w) = w ∷ []
parts (W.Right w) = w ∷ []
parts (W.Both sides v u) = v ∷ u ∷ []
parts (W.Then n v u) = v ∷ u ∷ []

pub moves_first : (w : Way) (ws : List Way) → all_moves (w ∷ ws) ≡ head w ∷ all_moves (parts w ++ ws)
moves_first W.Nothing ws = refl
moves_first (W.Enter w) ws = refl
moves_first (W.Take w) ws = refl
moves_first (W.Left w) ws = refl
moves_first (W.Right w) ws = refl
moves_first (W.Both sides v u) ws = ap (λ ms. M.Both sides ∷ ms) (append_assoc (moves_of v) (moves_of u) (all_moves ws))
moves_first (W.Then n v u) ws = ap (λ ms. M.Then n ∷ ms) (append_assoc (moves_of v) (moves_of u) (all_moves ws))

found : {A : Type 0} (o : Option A) → (o ≡ None) ⊎ ((x : A) × (o ≡ Some x))
found None = inl refl
found (Some x) = inr (x, refl)

-- what stands in an option
abbrev value_or : List Goal → Option (List Goal) → List Goal
value_or gs None = gs
value_or gs (Some hs) = hs

some-injective : (gs hs : List Goal) → Some gs ≡ Some hs → gs ≡ hs
some-injective gs hs e = ap (value_or gs) e

-- where a test has a result it holds
tested : (b : Bool) (gs : List Goal) (f : List Goal → List Goal) (hs : List Goal) → option_map f (where_true b gs) ≡ Some hs → (b ≡ true) × (f gs ≡ hs)
tested true gs f hs e = (refl, some-injective (f gs) hs e)
tested false gs f hs e = absurd cc

module _ (book : Book) where
  -- a goal, its events and its values in one
  abbrev goal : Env → Contract → List Event → Goal
  goal env c s = record { env = env; contract = c; events = s }

  performed : (gs hs : List Goal) (ws : List Way) → gs ≡ hs → ArePerformed book hs ws → ArePerformed book gs ws
  performed gs hs ws e h = subst (λ gs. ArePerformed book gs ws) (sym e) h

  -- what stands of a way where its first goal is performed in it
  pub ways_parts : {env : Env} {c : Contract} {s : List Event} {w : Way} → Ways book env c s w → (gs : List Goal) (ws : List Way) → ArePerformed book gs ws →
      (hs : List Goal) × (goals_by book (head w) (goal env c s) gs ≡ Some hs) × ArePerformed book hs (parts w ++ ws)
  ways_parts Ways.Nothing gs ws r = (gs, refl, r)
  ways_parts {env} (Ways.Enter {args = args} {t = t} {s = s} q l h) gs ws r =
      let tests = eq-eqb (length t.params) (length args) l in
      let g = goal (parameter_env t.params (map (val book.declared env) args)) t.body s in (
        g ∷ gs,
        ap (λ o. option_map (λ ps. ps ++ gs) (entered book env o args s)) q ∙ ap (λ b. option_map (λ ps. ps ++ gs) (where_true b (g ∷ []))) tests,
        (h, r),
      )
  ways_parts {env} (Ways.Take {b = b} {p = p} {c = c} {e = e} {s = s} q h) gs ws r =
      let g = goal (taken b e env) c s in (
        g ∷ gs,
        ap (λ v. option_map (λ ps. ps ++ gs) (where_true (is_true v) (g ∷ []))) q,
        (h, r),
      )
  ways_parts {env} (Ways.Left {c₁ = a} {s = s} h) gs ws r = (goal env a s ∷ gs, refl, (h, r))
  ways_parts {env} (Ways.Right {c₂ = a} {s = s} h) gs ws r = (goal env a s ∷ gs, refl, (h, r))
  ways_parts {env} (Ways.Both {c₁ = a} {c₂ = b} {s = s} {sides = sides} l h k) gs ws r =
      let both = goal env a (first_of sides s) ∷ goal env b (second_of sides s) ∷ [] in (
        both ++ gs,
        ap (λ b. option_map (λ ps. ps ++ gs) (where_true b both)) (eq-eqb (length sides) (length s) l),
        (h, (k, r)),
      )
  ways_parts {env} (Ways.Then {c₁ = a} {c₂ = b} {s = s} {n = n} l h k) gs ws r =
      let both = goal env a (take n s) ∷ goal env b (drop n s) ∷ [] in (
        both ++ gs,
        ap (λ b. option_map (λ ps. ps ++ gs) (where_true b both)) (le-leb n (length s) l),
        (h, (k, r)),
      )

  -- and the other way round
  pub parts_ways : (env : Env) (c : Contract) (s : List Event) (w : Way) (gs hs : List Goal) (ws : List Way) →
      goals_by book (head w) (goal env c s) gs ≡ Some hs → ArePerformed book hs (parts w ++ ws) → Ways book env c s w × ArePerformed book gs ws
  parts_ways env Success [] W.Nothing gs hs ws e h = (Ways.Nothing, performed gs hs ws (some-injective gs hs e) h)
  parts_ways env Success (x ∷ s) W.Nothing gs hs ws e h = absurd cc
  parts_ways env (Transmit b p c) (x ∷ s) (W.Take w) gs hs ws e h =
      let v = val book.declared (taken b x env) p in
      let t = tested (is_true v) (goal (taken b x env) c s ∷ []) (λ ps. ps ++ gs) hs e in
      let k = performed (goal (taken b x env) c s ∷ gs) hs (w ∷ ws) t.1 h in
      (Ways.Take (true_holds v t.0) k.0, k.1)
  parts_ways env (Plus a b) s (W.Left w) gs hs ws e h =
      let k = performed (goal env a s ∷ gs) hs (w ∷ ws) (some-injective (goal env a s ∷ gs) hs e) h in (Ways.Left k.0, k.1)
  parts_ways env (Plus a b) s (W.Right w) gs hs ws e h =
      let k = performed (goal env b s ∷ gs) hs (w ∷ ws) (some-injective (goal env b s ∷ gs) hs e) h in (Ways.Right k.0, k.1)
  parts_ways env (Par a b) s (W.Both sides v u) gs hs ws e h =
      let both = goal env a (first_of sides s) ∷ goal env b (second_of sides s) ∷ [] in
      let t = tested (nat_eq (length sides) (length s)) both (λ ps. ps ++ gs) hs e in
      let k = performed (both ++ gs) hs (v ∷ u ∷ ws) t.1 h in
      (Ways.Both (eqb-true (length sides) (length s) t.0) k.0 k.1.0, k.1.1)
  parts_ways env (Seq a b) s (W.Then n v u) gs hs ws e h =
      let both = goal env a (take n s) ∷ goal env b (drop n s) ∷ [] in
      let t = tested (nat_le n (length s)) both (λ ps. ps ++ gs) hs e in
      let k = performed (both ++ gs) hs (v ∷ u ∷ ws) t.1 h in
      (Ways.Then (leb-true n (length s) t.0) k.0 k.1.0, k.1.1)
  parts_ways env (App f args) s (W.Enter w) gs hs ws e h = elim (found (template_in book.templates f)) [
    | inl none ↦ absurd (let k : None ≡ Some hs = rw none at e in cc)
    | inr t ↦ (
        let g = goal (parameter_env t.0.params (map (val book.declared env) args)) t.0.body s in
        let b = nat_eq (length t.0.params) (length args) in
        let made : option_map (λ ps. ps ++ gs) (where_true b (g ∷ [])) ≡ Some hs =
        ap (λ o. option_map (λ ps. ps ++ gs) (entered book env o args s)) (sym t.1) ∙ e in
        let r = tested b (g ∷ []) (λ ps. ps ++ gs) hs made in
        let k = performed (g ∷ gs) hs (w ∷ ws) r.1 h in
        (Ways.Enter t.1 (eqb-true (length t.0.params) (length args) r.0) k.0, k.1)
        )
  ]
  parts_ways env _ s _ gs hs ws e h = absurd cc

  no_first : (m : Move) (moves : List Move) (ws : List Way) → all_moves ws ≡ m ∷ moves → ArePerformed book [] ws → ⊥
  no_first m moves [] e h = absurd cc
  no_first m moves (w ∷ ws) e h = h

  abbrev first_or : Move → List Move → Move
  first_or d [] = d
  first_or d (m ∷ ms) = m

  abbrev tail_of : List Move → List Move
  tail_of [] = []
  tail_of (m ∷ ms) = ms

  module _ (m : Move) (moves : List Move) (g : Goal) (gs : List Goal) (whole : Type 0) where
    goes_on : (ws : List Way) → all_moves ws ≡ m ∷ moves → (whole → ArePerformed book (g ∷ gs) ws) → (ArePerformed book (g ∷ gs) ws → whole) →
        (hs : List Goal) → Some hs ≡ goals_by book m g gs → IsLeft book moves hs whole
    goes_on [] e f b hs made = absurd cc
    goes_on (w ∷ ws) e f b hs made =
        let all = sym (moves_first w ws) ∙ e in
        let same : goals_by book (head w) g gs ≡ Some hs = ap (λ n. goals_by book n g gs) (ap (first_or m) all) ∙ sym made in
        record {
          ways = parts w ++ ws;
          same = ap tail_of all;
          if_whole = λ x. let p = ways_parts (f x).0 gs ws (f x).1 in performed hs p.0 (parts w ++ ws) (sym (some-injective p.0 hs (sym p.1 ∙ same))) p.2;
          is_whole = λ h. b (parts_ways g.env g.contract g.events w gs hs ws same h);
        }

    stops : (ws : List Way) → all_moves ws ≡ m ∷ moves → (whole → ArePerformed book (g ∷ gs) ws) → None ≡ goals_by book m g gs → whole → ⊥
    stops [] e f none x = absurd cc
    stops (w ∷ ws) e f none x =
        let all = sym (moves_first w ws) ∙ e in
        let p = ways_parts (f x).0 gs ws (f x).1 in
        let k : None ≡ Some p.0 = none ∙ ap (λ n. goals_by book n g gs) (sym (ap (first_or m) all)) ∙ p.1 in absurd cc

    -- a move that fits
    pub fitting : IsLeft book (m ∷ moves) (g ∷ gs) whole → (fits : Bool) (hs : List Goal) → where_true fits hs ≡ goals_by book m g gs → fits ≡ true → IsLeft book moves hs whole
    fitting l true hs made t = goes_on l.ways l.same l.if_whole l.is_whole hs made
    fitting l false hs made t = absurd cc

    -- a move that does not fit
    pub unfitting : IsLeft book (m ∷ moves) (g ∷ gs) whole → (fits : Bool) (hs : List Goal) → where_true fits hs ≡ goals_by book m g gs → fits ≡ false → whole → ⊥
    unfitting l true hs made t x = absurd cc
    unfitting l false hs made t x = stops l.ways l.same l.if_whole made x

  over : (gs : List Goal) (ws : List Way) → all_moves ws ≡ [] → (ArePerformed book gs ws → gs ≡ []) × (gs ≡ [] → ArePerformed book gs ws)
  over [] [] e = ((λ h. refl), (λ h. tt))
  over (g ∷ gs) [] e = ((λ h. absurd h), (λ h. absurd cc))
  over gs (w ∷ ws) e = let all : head w ∷ all_moves (parts w ++ ws) ≡ [] = sym (moves_first w ws) ∙ e in absurd cc

  -- where no move is left, the whole is performed where no goal is left
  pub ended : (gs : List Goal) (whole : Type 0) → IsLeft book [] gs whole → (gs ≡ [] → whole) × (whole → gs ≡ [])
  ended gs whole l = let h = over gs l.ways l.same in ((λ e. l.is_whole (h.1 e)), (λ x. h.0 (l.if_whole x)))

  -- at the start all moves of the way are left
  pub begun : (env : Env) (c : Contract) (s : List Event) (w : Way) → IsLeft book (moves_of w) (goal env c s ∷ []) (Ways book env c s w)
  begun env c s w = record { ways = w ∷ []; same = append-nil (moves_of w); if_whole = λ x. (x, tt); is_whole = λ h. h.0 }
