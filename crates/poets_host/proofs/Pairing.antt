-- The histories of two clerks with a call each.
use Rattle.std.proofs.Common.{◌≡◌, ◌⊎◌, inl, inr, ℕ, ◌+◌, ◌<◌, ◌≤◌, List, [], ◌∷◌, ◌++◌, length, Result, Ok, Err, IfOk, refl, sym, ◌∙◌, ap, subst, arith, length-append, eq-eqb, ne_eqb}
use Rattle.std.specs.Prelude.{All}
use Rattle.std.specs.declared.alloc.Global.{Global}
use Rattle.std.specs.declared.sync.Arc.{Arc}
use Rattle.std.specs.Arc.{arc_value}
use Rattle.std.proofs.lemmas.List.Elements.{All-head, All-tail}
use mathlib.Core.List.{IsPrefix}
use mathlib.Core.Logic.{dite}
use native.Mathlib.Decide.{ℕ_discrete}
use Rattle.poets_machine.specs.Histories.{calls_by}
use Rattle.poets_turn.specs.Settings.{OnlyClerks}
use Rattle.poets_turn.specs.declared.types.Turn.{Turn}
use Rattle.poets_turn.specs.Clerks.{AreClerksIn, AreNumbered, IsClerkIn, IsFresh, SawNoMore, calls, front, number}
use Rattle.poets_turn.proofs.Fronts.{prefix_nil, prefix_self, prefix_trans}
use Rattle.poets_command.specs.declared.call.Command.{Command}
use Rattle.poets_command.specs.declared.call.Reply.{Reply}
use Rattle.poets_rules.specs.declared.rules.Rules.{Rules}
use Rattle.poets_engine.specs.State.{State, plain_calls}
use Rattle.poets_engine.specs.declared.kept.Kept.{Kept}
use Rattle.poets_host.specs.Pairs.{IsReplyUnder, pair_of}
use Rattle.poets_host.specs.code.Sharing.{Asked, Called, Desk, IsHistoryOf, IsPair, MadeBoth, MadePart, rules_of}

module _ {A : Type 0} where
  none_left : (xs : List A) → length xs ≡ 0 → xs ≡ []
  none_left [] e = refl
  none_left (x ∷ xs) e = absurd (omega (arith, e))

module _ {C : Type 0} where
  -- the entries of a history of two clerks are their own calls
  counted : (h : List (ℕ × C)) → OnlyClerks 2 h → length h ≡ length (calls_by 1 h) + length (calls_by 2 h)
  counted [] only = refl
  counted (e ∷ es) only =
      let P : ℕ × C → Type 0 = λ e. (0 < e.0) × (e.0 ≤ 2) in
      let here = All-head P e es only in
      let rest = counted es (All-tail P e es only) in
      dite (ℕ_discrete e.0 1)
      (λ one. let a = eq-eqb e.0 1 one in let b = ne_eqb e.0 2 (λ two. omega (arith, one, two)) in rw a (rw b (omega (arith, rest))))
      (λ no. let two : e.0 ≡ 2 = omega (arith, here.0, here.1, no) in let a = ne_eqb e.0 1 no in let b = eq-eqb e.0 2 two in rw a (rw b (omega (arith, rest))))

  no_call : (h : List (ℕ × C)) → OnlyClerks 2 h → calls_by 1 h ≡ [] → calls_by 2 h ≡ [] → h ≡ []
  no_call h only one two = none_left h (omega (arith, counted h only, ap length one, ap length two))

  -- the first call alone
  one_call : (h b : List (ℕ × C)) (a : C) → OnlyClerks 2 h → calls_by 1 h ≡ a ∷ [] → calls_by 2 h ≡ [] → IsPrefix (b ++ (1, a) ∷ []) h → h ≡ (1, a) ∷ []
  one_call h b a only one two begins =
      let long = ap length begins.1 in
      let parts = length-append (b ++ (1, a) ∷ []) begins.0 in
      let part = length-append b ((1, a) ∷ []) in
      let count : length h ≡ 1 = omega (arith, counted h only, ap length one, ap length two) in
      let no_b = none_left b (omega (arith, long, parts, part, count)) in
      let no_t = none_left begins.0 (omega (arith, long, parts, part, count)) in
      sym begins.1 ∙ ap (λ t. (b ++ (1, a) ∷ []) ++ t) no_t ∙ ap (λ x. (x ++ (1, a) ∷ []) ++ []) no_b

  -- the first call and then the second
  pub record AreTwo (h b d : List (ℕ × C)) (a c : C) : Type 0 where
    pub history : h ≡ (1, a) ∷ (2, c) ∷ []
    pub none_before : b ≡ []
    pub one_before : d ≡ (1, a) ∷ []

  two_calls : (h b d : List (ℕ × C)) (a c : C) → OnlyClerks 2 h → calls_by 1 h ≡ a ∷ [] → calls_by 2 h ≡ c ∷ [] → IsPrefix (b ++ (1, a) ∷ []) d → IsPrefix (d ++ (2, c) ∷ []) h → AreTwo h b d a c
  two_calls h b d a c only one two begins goes =
      let parts = length-append (b ++ (1, a) ∷ []) begins.0 in
      let part = length-append b ((1, a) ∷ []) in
      let parts' = length-append (d ++ (2, c) ∷ []) goes.0 in
      let part' = length-append d ((2, c) ∷ []) in
      let long = ap length begins.1 in
      let long' = ap length goes.1 in
      let count : length h ≡ 2 = omega (arith, counted h only, ap length one, ap length two) in
      let no_b = none_left b (omega (arith, long, parts, part, long', parts', part', count)) in
      let no_m = none_left begins.0 (omega (arith, long, parts, part, long', parts', part', count)) in
      let no_t = none_left goes.0 (omega (arith, long, parts, part, long', parts', part', count)) in
      let d_is : d ≡ (1, a) ∷ [] = sym begins.1 ∙ ap (λ t. (b ++ (1, a) ∷ []) ++ t) no_m ∙ ap (λ x. (x ++ (1, a) ∷ []) ++ []) no_b in
      record {
        history = sym goes.1 ∙ ap (λ t. (d ++ (2, c) ∷ []) ++ t) no_t ∙ ap (λ x. (x ++ (2, c) ∷ []) ++ []) d_is;
        none_before = no_b;
        one_before = d_is;
      }

-- the clerk with the number made just this call
pub record Wrote (k : ℕ) (command : Command) (w : Desk) : Type 0 where
  pub before : List (ℕ × Command)
  pub last : front w ≡ before ++ (k, command) ∷ []
  pub calls : calls w ≡ command ∷ []

abbrev pub wrote : (k : ℕ) (command : Arc Command Global) (v w u : Desk) → number v ≡ k → calls v ≡ [] → Called command v w → SawNoMore w u → Wrote k (arc_value command) u
wrote k command v w u is none made same = record {
  before = made.before;
  last = same.0 ∙ made.last ∙ ap (λ n. made.before ++ (n, arc_value command) ∷ []) is;
  calls = same.1 ∙ made.calls ∙ ap (λ cs. cs ++ arc_value command ∷ []) none;
}

pub none_made : (first second : Arc Command Global) (one two : Desk) → calls one ≡ [] → calls two ≡ [] → MadePart first second one two
none_made first second one two none none' = λ h of. subst (λ l. IsPrefix l (pair_of first second)) (sym (no_call h of.only (of.one.calls ∙ none) (of.two.calls ∙ none'))) (prefix_nil (pair_of first second))

pub one_made : (first second : Arc Command Global) (one two : Desk) → Wrote 1 (arc_value first) one → calls two ≡ [] → MadePart first second one two
one_made first second one two w none = λ h of.
    let begins = subst (λ f. IsPrefix f h) w.last of.one.front in
    let is = one_call h w.before (arc_value first) of.only (of.one.calls ∙ w.calls) (of.two.calls ∙ none) begins in
    subst (λ l. IsPrefix l (pair_of first second)) (sym is) ((2, arc_value second) ∷ [], refl)

pub both_made : (first second : Arc Command Global) (one two : Desk) (w : Wrote 1 (arc_value first) one) (v : Wrote 2 (arc_value second) two) → IsPrefix (front one) v.before →
    (h : List (ℕ × Command)) → IsHistoryOf one two h → AreTwo h w.before v.before (arc_value first) (arc_value second)
both_made first second one two w v saw h of =
    two_calls h w.before v.before (arc_value first) (arc_value second) of.only (of.one.calls ∙ w.calls) (of.two.calls ∙ v.calls)
    (subst (λ f. IsPrefix f v.before) w.last saw) (subst (λ f. IsPrefix f h) v.last of.two.front)

pub both_part : (first second : Arc Command Global) (one two : Desk) (w : Wrote 1 (arc_value first) one) (v : Wrote 2 (arc_value second) two) → IsPrefix (front one) v.before → MadePart first second one two
both_part first second one two w v saw = λ h of.
    subst (λ l. IsPrefix l (pair_of first second)) (sym (both_made first second one two w v saw h of).history) (prefix_self (pair_of first second))

-- the engine that comes back has a history of the two clerks alone
module _ (one two : Desk) (h : List (ℕ × Command)) where
  pub two_closed : (xs ys zs : List Desk) → xs ≡ [] → ys ≡ xs ++ one ∷ [] → zs ≡ ys ++ two ∷ [] → number one ≡ 1 → number two ≡ 2 →
      (count : ℕ) → count ≡ 2 → AreClerksIn h zs → OnlyClerks count h → IsHistoryOf one two h
  two_closed xs ys zs none push push' first second count is clerks only =
      let both : zs ≡ one ∷ two ∷ [] = push' ∙ ap (λ l. l ++ two ∷ []) push ∙ ap (λ l. (l ++ one ∷ []) ++ two ∷ []) none in
      let P : Desk → Type 0 = λ d. IsClerkIn h (number d) (front d) (calls d) in
      let all = subst (All P) both clerks in
      record {
        one = subst (λ k. IsClerkIn h k (front one) (calls one)) first (All-head P one (two ∷ []) all);
        two = subst (λ k. IsClerkIn h k (front two) (calls two)) second (All-head P two [] (All-tail P one (two ∷ []) all));
        only = subst (λ k. OnlyClerks k h) is only;
      }

-- clerk 1 went from v to w and u, and clerk 2 heard of it and is x
module _ (first second : Arc Command Global) (v w u x : Desk) (one : number v ≡ 1) (two : number x ≡ 2) (none : calls v ≡ []) (none' : calls x ≡ []) (same : SawNoMore w u)
    (heard : IsPrefix (front w) (front x)) where
  saw : (y : Desk) (made : Called second x y) → IsPrefix (front u) made.before
  saw y made = subst (λ f. IsPrefix f made.before) (sym same.0) (prefix_trans (front w) (front x) made.before heard made.longer)

  pub both_replied : (rules : Rules) (y : Desk) (r r' : Reply) → Asked rules first v w r → Asked rules second x y r' → MadeBoth rules first second u y (r, r')
  both_replied rules y r r' a b = λ h of.
      let made = both_made first second u y (wrote 1 first v w u one none a.0 same) (wrote 2 second x y y two none' b.0 (refl, refl)) (saw y b.0) h of in (
        made.history,
        (
          subst (λ cs. IsReplyUnder rules (plain_calls cs) first r) made.none_before a.1,
          subst (λ cs. IsReplyUnder rules (plain_calls cs) second r') made.one_before b.1,
        ),
      )

  pub both_parted : (y : Desk) → Called first v w → Called second x y → MadePart first second u y
  both_parted y a b = both_part first second u y (wrote 1 first v w u one none a same) (wrote 2 second x y y two none' b (refl, refl)) (saw y b)

  -- memory ran out for the second call, or for its reply
  pub second_failed : (y : Desk) → Called first v w → SawNoMore x y ⊎ Called second x y → MadePart first second u y
  second_failed y a (inl same_still) = one_made first second u y (wrote 1 first v w u one none a same) (same_still.1 ∙ none')
  second_failed y a (inr b) = both_parted y a b

-- memory ran out for the first call, or for its reply
pub first_failed : (first second : Arc Command Global) (v w x : Desk) → number v ≡ 1 → calls v ≡ [] → calls x ≡ [] → SawNoMore v w ⊎ Called first v w → MadePart first second w x
first_failed first second v w x one none none' (inl same_still) = none_made first second w x (same_still.1 ∙ none) none'
first_failed first second v w x one none none' (inr a) = one_made first second w x (wrote 1 first v w w one none a (refl, refl)) none'

-- where both calls were made, the history is known
pub pair_made : {E : Type 0} (rules : Rules) (first second : Arc Command Global) (one two : Desk) (h : List (ℕ × Command)) (r : Result (Reply × Reply) E) →
    IfOk r (MadeBoth rules first second one two) → IsHistoryOf one two h → IfOk r (λ _. h ≡ pair_of first second)
pair_made rules first second one two h (Ok replies) made of = (made h of).0
pair_made rules first second one two h (Err e) made of = tt

-- the two clerks of a new turnstile
pub pair_new : (turn : Turn State Command Reply Kept Rules) (xs ys zs : List Desk) (one two : Desk) → zs ≡ ys ++ two ∷ [] → ys ≡ xs ++ one ∷ [] → length zs ≡ 2 →
    All (λ c. IsFresh rules_of turn c) zs → AreNumbered zs → IsPair turn one two
pair_new turn xs ys zs one two last last' long fresh numbered =
    let none : xs ≡ [] = none_left xs (omega (arith, long, ap length last, ap length last', length-append ys (two ∷ []), length-append xs (one ∷ []))) in
    let both : zs ≡ one ∷ two ∷ [] = last ∙ ap (λ l. l ++ two ∷ []) last' ∙ ap (λ l. (l ++ one ∷ []) ++ two ∷ []) none in
    let P : Desk → Type 0 = λ c. IsFresh rules_of turn c in
    let all = subst (All P) both fresh in
    let numbers = subst AreNumbered both numbered in
    record {
      one = All-head P one (two ∷ []) all;
      two = All-head P two [] (All-tail P one (two ∷ []) all);
      first = numbers 0 one (omega arith);
      second = numbers 1 one (omega arith);
    }
