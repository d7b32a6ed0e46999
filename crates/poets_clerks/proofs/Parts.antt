-- What stands in the history of clerks that made their scripts whole or in part.
use Rattle.std.proofs.Common.{◌≡◌, ℕ, zero, suc, ◌+◌, ◌<◌, Bool, List, [], ◌∷◌, ◌++◌, length, take, drop, arith, ◌∙◌, ap, sym, subst, ⊎_elim, Option, Some}
use Rattle.std.specs.Prelude.{All, Result, Ok, Err, IfOk, IfSome, slice_get, slice_index_or}
use Rattle.std.specs.Result.{result_ok}
use Rattle.std.proofs.lemmas.List.{take-append-drop}
use Rattle.std.proofs.lemmas.List.Elements.{All-head, All-tail}
use mathlib.Core.List.{IsPrefix}
use Rattle.poets_machine.specs.Histories.{calls_by}
use Rattle.poets_turn.specs.declared.types.Turn.{Turn}
use Rattle.poets_turn.specs.declared.types.ClerkOf.{ClerkOf}
use Rattle.poets_turn.specs.Clerks.{front, calls, number, AreNumbered, IsClerkIn, IsFresh}
use Rattle.poets_turn.specs.Settings.{OnlyClerks}
use Rattle.poets_turn.proofs.Fronts.{prefix_nil}
use Rattle.poets_clerks.specs.Histories.{HasScriptParts}
use Rattle.poets_clerks.specs.Scripts.{EachWorked, HaveWorked}

-- what follows from the value of a result holds of it as an option
pub kept_ok : {T E : Type 0} (r : Result T E) (o : Option T) (P Q : T → Type 0) → o ≡ result_ok r → IfOk r P → ((x : T) → P x → Q x) → IfSome o Q
kept_ok (Ok x) o P Q is held then = subst (λ s. IfSome s Q) (sym is) (then x held)
kept_ok (Err e) o P Q is held then = subst (λ s. IfSome s Q) (sym is) tt

module _ {A : Type 0} where
  taken_prefix : (n : ℕ) (xs before now own : List A) → before ≡ [] → now ≡ before ++ take n xs → own ≡ now → IsPrefix own xs
  taken_prefix n xs before now own none is same = subst (λ l. IsPrefix l xs) (sym (same ∙ (is ∙ ap (λ l. l ++ take n xs) none))) (drop n xs, take-append-drop n xs)

module _ {M C R K F : Type 0} (frame : M → F) (answers : F → List (ℕ × C) → ℕ → C → R → Type 0) (turn : Turn M C R K F) (h : List (ℕ × C)) where
  -- clerks that began with nothing, and made no call
  no_part : (k : ℕ) (ss : List (List C)) (vs : List (ClerkOf M C F)) → length vs ≡ length ss → All (λ v. IsFresh frame turn v) vs
      → ((j : ℕ) (v : ClerkOf M C F) → j < length vs → number (slice_index_or vs j v) ≡ k + j) → All (λ v. IsClerkIn h (number v) (front v) (calls v)) vs
      → (j : ℕ) (s : List C) → slice_get ss j ≡ Some s → IsPrefix (calls_by (k + j) h) s
  no_part k [] vs long fresh numbers in_h j s at = absurd (cc (at))
  no_part k (script ∷ ss) [] long fresh numbers in_h j s at = absurd (cc (long))
  no_part k (script ∷ ss) (v ∷ vs) long fresh numbers in_h zero s at =
      let new = All-head (λ u. IsFresh frame turn u) v vs fresh in
      let mine = All-head (λ u. IsClerkIn h (number u) (front u) (calls u)) v vs in_h in
      let own : calls_by (k + 0) h ≡ [] = ap (λ n. calls_by n h) (sym (numbers 0 v (omega arith))) ∙ (mine.calls ∙ new.calls) in
      subst (λ l. IsPrefix l s) (sym own) (prefix_nil s)
  no_part k (script ∷ ss) (v ∷ vs) long fresh numbers in_h (suc j) s at =
      let later = no_part (k + 1) ss vs (omega arith) (All-tail (λ u. IsFresh frame turn u) v vs fresh) (λ i u l. numbers (suc i) u (omega arith) ∙ omega arith)
      (All-tail (λ u. IsClerkIn h (number u) (front u) (calls u)) v vs in_h) j s at in
      let next : (k + 1) + j ≡ k + suc j = omega arith in subst (λ n. IsPrefix (calls_by n h) s) next later

  module _ (memory : Bool) where
    -- clerks that began with nothing, and worked at their scripts
    each_part : (k : ℕ) (ss : List (List C)) (vs ws : List (ClerkOf M C F)) (ds : List (List (ℕ × R))) → EachWorked frame answers turn memory ss vs ws ds → All (λ v. IsFresh frame turn v) vs
        → ((j : ℕ) (v : ClerkOf M C F) → j < length vs → number (slice_index_or vs j v) ≡ k + j) → All (λ w. IsClerkIn h (number w) (front w) (calls w)) ws
        → (j : ℕ) (s : List C) → slice_get ss j ≡ Some s → IsPrefix (calls_by (k + j) h) s
    each_part k ss vs ws ds EachWorked.None fresh numbers in_h j s at = absurd (cc (at))
    each_part k ss vs ws ds (EachWorked.More {script = script} {v = v} {w = w} {done = done} {scripts = scripts} {vs = vs'} {ws = ws'} {dones = dones} hw rest) fresh numbers in_h zero s at =
        let new = All-head (λ u. IsFresh frame turn u) v vs' fresh in
        let mine = All-head (λ u. IsClerkIn h (number u) (front u) (calls u)) w ws' in_h in
        let own : calls_by (k + 0) h ≡ calls w = ap (λ n. calls_by n h) (sym (hw.same ∙ numbers 0 v (omega arith))) ∙ mine.calls in
        let part : IsPrefix (calls_by (k + 0) h) script = ⊎_elim
        (λ e. taken_prefix (length done) script (calls v) (calls w) (calls_by (k + 0) h) new.calls e own)
        (λ e. taken_prefix (length done + 1) script (calls v) (calls w) (calls_by (k + 0) h) new.calls e own) hw.part in
        let same : script ≡ s = cc (at) in subst (IsPrefix (calls_by (k + 0) h)) same part
    each_part k ss vs ws ds (EachWorked.More {script = script} {v = v} {w = w} {done = done} {scripts = scripts} {vs = vs'} {ws = ws'} {dones = dones} hw rest) fresh numbers in_h (suc j) s at =
        let later = each_part (k + 1) scripts vs' ws' dones rest (All-tail (λ u. IsFresh frame turn u) v vs' fresh) (λ i u l. numbers (suc i) u (omega arith) ∙ omega arith)
        (All-tail (λ u. IsClerkIn h (number u) (front u) (calls u)) w ws' in_h) j s at in
        let next : (k + 1) + j ≡ k + suc j = omega arith in subst (λ n. IsPrefix (calls_by n h) s) next later

    worked_part : (ss : List (List C)) (vs ws : List (ClerkOf M C F)) (ds : List (List (ℕ × R))) → HaveWorked frame answers turn memory ss vs ws ds → length vs ≡ length ss → All (λ v. IsFresh frame turn v) vs
        → ((j : ℕ) (v : ClerkOf M C F) → j < length vs → number (slice_index_or vs j v) ≡ 1 + j) → All (λ w. IsClerkIn h (number w) (front w) (calls w)) ws
        → (j : ℕ) (s : List C) → slice_get ss j ≡ Some s → IsPrefix (calls_by (1 + j) h) s
    worked_part ss vs ws ds (HaveWorked.Each each) long fresh numbers in_h j s at = each_part 1 ss vs ws ds each fresh numbers in_h j s at
    worked_part ss vs ws ds (HaveWorked.NoneMade want same none) long fresh numbers in_h j s at =
        no_part 1 ss vs long fresh numbers (subst (All (λ w. IsClerkIn h (number w) (front w) (calls w))) same in_h) j s at

    pub parts_made : (ss : List (List C)) (vs ws : List (ClerkOf M C F)) (ds : List (List (ℕ × R))) → HaveWorked frame answers turn memory ss vs ws ds → length vs ≡ length ss → All (λ v. IsFresh frame turn v) vs → AreNumbered vs
        → All (λ w. IsClerkIn h (number w) (front w) (calls w)) ws → OnlyClerks (length ss) h → HasScriptParts ss h
    parts_made ss vs ws ds worked long fresh numbers in_h only = record {
      own = λ place script at. let one : 1 + place ≡ place + 1 = omega arith in subst (λ n. IsPrefix (calls_by n h) script) one
          (worked_part ss vs ws ds worked long fresh (λ j v l. numbers j v l ∙ omega arith) in_h place script at);
      clerks = only;
    }
