-- What the histories and answers of clerks come to that made their scripts whole.
use Rattle.std.proofs.Common.{◌≡◌, ◌≢◌, ℕ, zero, suc, ◌+◌, ◌<◌, ◌≤◌, ◌==◌, Bool, true, false, List, [], ◌∷◌, ◌++◌, length, take, get_or, refl, arith, ◌∙◌, ap, sym, subst, ⊎_elim, eq-eqb, ne_eqb, length-append, append_assoc, if◌then◌else◌, Some}
use Rattle.std.specs.Prelude.{All, Contains, slice_get, slice_index_or}
use Rattle.std.specs.List.{flat_map}
use Rattle.std.proofs.lemmas.List.Elements.{All-head, All-tail, All-cons, All-nil, Contains-append_cases, Contains-append_left, Contains-append_right, Contains-push_cases, Contains-get_or}
use Rattle.std.proofs.lemmas.Option.{slice_get_within, get_or_from_slice_get}
use mathlib.Core.Logic.{dite}
use native.Mathlib.Decide.{ℕ_discrete}
use Rattle.poets_machine.specs.Histories.{calls_by}
use Rattle.poets_turn.specs.declared.types.Turn.{Turn}
use Rattle.poets_turn.specs.declared.types.ClerkOf.{ClerkOf}
use Rattle.poets_turn.specs.Clerks.{front, calls, number, turn_frame, AreNumbered, IsClerkIn, IsFresh}
use Rattle.poets_turn.specs.Settings.{OnlyClerks}
use Rattle.poets_clerks.specs.Histories.{AreInOrder, AreReplies, FillPlaces, HasScripts}
use Rattle.poets_clerks.specs.Scripts.{IsAnswerAt, AreAnswers, EachWorked, HaveWorked}
use Rattle.poets_clerks.proofs.Covering.{covers, right_there, dropped}
use Rattle.poets_clerks.proofs.More.{answers_stay}

at_end : {A : Type 0} (b : List A) (x : A) (rest : List A) → slice_get (b ++ x ∷ rest) (length b) ≡ Some x
at_end [] x rest = refl
at_end (y ∷ ys) x rest = at_end ys x rest

one_more : {A B : Type 0} (b : Bool) (x : A) (y : B) (xs : List A) (ys : List B) (zs : List A) → length xs ≡ length ys + length zs
    → suc (length xs) ≡ length (if b then y ∷ ys else ys) + length (if b then zs else x ∷ zs)
one_more true x y xs ys zs e = omega arith
one_more false x y xs ys zs e = omega arith

-- the entries of a history that are not those of a clerk
module _ {C : Type 0} where
  abbrev others : ℕ → List (ℕ × C) → List (ℕ × C)
  others k [] = []
  others k (e ∷ es) = if e.0 == k then others k es else e ∷ others k es

  abbrev IsFrom : ℕ → ℕ → ℕ × C → Type 0
  IsFrom k count e = (k ≤ e.0) × (e.0 < k + count)

  parted : (k : ℕ) (h : List (ℕ × C)) → length h ≡ length (calls_by k h) + length (others k h)
  parted k [] = refl
  parted k (e ∷ es) = one_more (e.0 == k) e e.1 es (calls_by k es) (others k es) (parted k es)

  own_others : (k j : ℕ) (h : List (ℕ × C)) → j ≢ k → calls_by j (others k h) ≡ calls_by j h
  own_others k j [] ne = refl
  own_others k j (e ∷ es) ne = dite (ℕ_discrete e.0 k)
      (λ same. ap (λ (b : Bool). calls_by j (if b then others k es else e ∷ others k es)) (eq-eqb e.0 k same)
      ∙ (own_others k j es ne ∙ sym (ap (λ (b : Bool). if b then e.1 ∷ calls_by j es else calls_by j es) (ne_eqb e.0 j (λ is. ne (sym is ∙ same))))))
      (λ no. ap (λ (b : Bool). calls_by j (if b then others k es else e ∷ others k es)) (ne_eqb e.0 k no)
      ∙ ap (λ l. if e.0 == j then e.1 ∷ l else l) (own_others k j es ne))

  from_next : (k count : ℕ) (h : List (ℕ × C)) → All (IsFrom k (suc count)) h → All (IsFrom (k + 1) count) (others k h)
  from_next k count [] all = All-nil (IsFrom (k + 1) count)
  from_next k count (e ∷ es) all =
      let P = IsFrom k (suc count) in let Q = IsFrom (k + 1) count in let here = All-head P e es all in let rest = from_next k count es (All-tail P e es all) in
      dite (ℕ_discrete e.0 k)
      (λ same. subst (λ (b : Bool). All Q (if b then others k es else e ∷ others k es)) (sym (eq-eqb e.0 k same)) rest)
      (λ no. subst (λ (b : Bool). All Q (if b then others k es else e ∷ others k es)) (sym (ne_eqb e.0 k no)) (All-cons Q e (others k es) (omega arith, omega arith) rest))

  -- a history of clerks numbered from k on has as many entries as their scripts have calls
  counted : (k : ℕ) (ss : List (List C)) (h : List (ℕ × C)) → All (IsFrom k (length ss)) h → ((j : ℕ) (s : List C) → slice_get ss j ≡ Some s → calls_by (k + j) h ≡ s)
      → length h ≡ length (flat_map (λ s. s) ss)
  counted k [] [] all own = refl
  counted k [] (e ∷ es) all own = let none = All-head (IsFrom k 0) e es all in absurd (omega arith)
  counted k (s ∷ ss) h all own =
      let mine : calls_by k h ≡ s = ap (λ j. calls_by j h) (omega arith) ∙ own 0 s refl in
      let rest = counted (k + 1) ss (others k h) (from_next k (length ss) h all)
      (λ j t at. ap (λ n. calls_by n (others k h)) (omega arith) ∙ (own_others k (k + suc j) h (λ e. omega arith) ∙ own (suc j) t at)) in
      let p = parted k h in let n = ap length mine in
      let t : length (flat_map (λ l. l) (s ∷ ss)) ≡ length s + length (flat_map (λ l. l) ss) = length-append s (flat_map (λ l. l) ss) in omega arith

module _ {C R : Type 0} (answers : List (ℕ × C) → ℕ → C → R → Type 0) (h : List (ℕ × C)) where
  -- the clerks numbered from k on made their scripts whole, and have all answers
  abbrev pub AllDone : ℕ → List (List C) → List (List (ℕ × R)) → Type 0
  AllDone k [] [] = Unit {0}
  AllDone k [] (d ∷ ds) = ⊥
  AllDone k (s ∷ ss) [] = ⊥
  AllDone k (s ∷ ss) (d ∷ ds) = (calls_by k h ≡ s) × AreAnswers answers h k 0 s d × (length d ≡ length s) × AllDone (k + 1) ss ds

  own_done : (k : ℕ) (ss : List (List C)) (ds : List (List (ℕ × R))) → AllDone k ss ds → (j : ℕ) (s : List C) → slice_get ss j ≡ Some s → calls_by (k + j) h ≡ s
  own_done k [] ds done j s at = absurd (cc (at))
  own_done k (t ∷ ss) [] done j s at = absurd done
  own_done k (t ∷ ss) (d ∷ ds) done zero s at = ap (λ n. calls_by n h) (omega arith) ∙ (done.0 ∙ cc (at))
  own_done k (t ∷ ss) (d ∷ ds) done (suc j) s at = ap (λ n. calls_by n h) (omega arith) ∙ own_done (k + 1) ss ds done.3 j s at

  long_done : (k : ℕ) (ss : List (List C)) (ds : List (List (ℕ × R))) → AllDone k ss ds → length (flat_map (λ d. d) ds) ≡ length (flat_map (λ s. s) ss)
  long_done k [] [] done = refl
  long_done k [] (d ∷ ds) done = absurd done
  long_done k (s ∷ ss) [] done = absurd done
  long_done k (s ∷ ss) (d ∷ ds) done = let r = long_done (k + 1) ss ds done.3 in let m = done.2 in
      let n : length (flat_map (λ e. e) (d ∷ ds)) ≡ length d + length (flat_map (λ e. e) ds) = length-append d (flat_map (λ e. e) ds) in
      let t : length (flat_map (λ l. l) (s ∷ ss)) ≡ length s + length (flat_map (λ l. l) ss) = length-append s (flat_map (λ l. l) ss) in omega arith

  -- an answer stands at a place of the history, and its reply is right there
  abbrev pub IsPlaced : ℕ → R → Type 0
  IsPlaced place reply = (e : ℕ × C) × (slice_get h place ≡ Some e) × answers (take place h) e.0 e.1 reply

  answer_in : (k low : ℕ) (cs : List C) (ds : List (ℕ × R)) → AreAnswers answers h k low cs ds → (place : ℕ) (reply : R) → Contains ds (place, reply) → (c : C) × IsAnswerAt answers h k c place reply
  answer_in k low cs [] a place reply held = let l = held.1 in absurd (omega arith)
  answer_in k low [] (d ∷ ds) a place reply held = absurd a
  answer_in k low (c ∷ cs) (d ∷ ds) a place reply held = ⊎_elim
      (λ first. ⊎_elim (λ (n : Contains [] (place, reply)). let l = n.1 in absurd (omega arith))
      (λ is. (c, subst (λ (x : ℕ × R). IsAnswerAt answers h k c x.0 x.1) is a.0)) (Contains-push_cases [] d (place, reply) first))
      (λ rest. answer_in k (d.0 + 1) cs ds a.2 place reply rest)
      (Contains-append_cases (d ∷ []) ds (place, reply) held)

  placed : (k : ℕ) (c : C) (place : ℕ) (reply : R) → IsAnswerAt answers h k c place reply → IsPlaced place reply
  placed k c place reply a =
      let here : slice_get h place ≡ Some (k, c) = ap (λ l. slice_get l place) (sym a.here.1 ∙ append_assoc a.before ((k, c) ∷ []) a.here.0) ∙ (ap (slice_get (a.before ++ (k, c) ∷ a.here.0)) a.at ∙ at_end a.before (k, c) a.here.0) in
      ((k, c), here, right_there answers k h c c place reply a here)

  right_done : (k : ℕ) (ss : List (List C)) (ds : List (List (ℕ × R))) → AllDone k ss ds → (place : ℕ) (reply : R) → Contains (flat_map (λ d. d) ds) (place, reply) → IsPlaced place reply
  right_done k [] [] done place reply held = let l = held.1 in absurd (omega arith)
  right_done k [] (d ∷ ds) done place reply held = absurd done
  right_done k (s ∷ ss) [] done place reply held = absurd done
  right_done k (s ∷ ss) (d ∷ ds) done place reply held = ⊎_elim
      (λ mine. let a = answer_in k 0 s d done.1 place reply mine in placed k a.0 place reply a.1)
      (λ rest. right_done (k + 1) ss ds done.3 place reply rest)
      (Contains-append_cases d (flat_map (λ e. e) ds) (place, reply) held)

  covers_done : (k : ℕ) (ss : List (List C)) (ds : List (List (ℕ × R))) → AllDone k ss ds → (place clerk : ℕ) (call : C) → slice_get h place ≡ Some (clerk, call) → k ≤ clerk → clerk < k + length ss
      → (reply : R) × Contains (flat_map (λ d. d) ds) (place, reply)
  covers_done k [] ds done place clerk call at low high = absurd (omega arith)
  covers_done k (s ∷ ss) [] done place clerk call at low high = absurd done
  covers_done k (s ∷ ss) (d ∷ ds) done place clerk call at low high = dite (ℕ_discrete clerk k)
      (λ same. let here = dropped h place (k, call) (at ∙ ap (λ n. Some (n, call)) same) in
      let t = covers answers k h 0 s d done.1 (done.2 ∙ sym (ap length done.0)) place (omega arith) (call, here) in
      (t.0, Contains-append_left d (flat_map (λ e. e) ds) (place, t.0) t.2))
      (λ ne. let t = covers_done (k + 1) ss ds done.3 place clerk call at (omega arith) (omega arith) in (t.0, Contains-append_right d (flat_map (λ e. e) ds) (place, t.0) t.1))

  -- the answers fill the places of the history
  pub as_many : (ss : List (List C)) (ds : List (List (ℕ × R))) → AllDone 1 ss ds → OnlyClerks (length ss) h → length (flat_map (λ d. d) ds) ≡ length h
  as_many ss ds done only = long_done 1 ss ds done ∙ sym (counted 1 ss h (λ k d l. let o = only k d l in let low = o.0 in let high = o.1 in (omega arith, omega arith)) (own_done 1 ss ds done))

  pub filled : (ss : List (List C)) (ds : List (List (ℕ × R))) → AllDone 1 ss ds → OnlyClerks (length ss) h → FillPlaces (flat_map (λ d. d) ds)
  filled ss ds done only = let n = as_many ss ds done only in let all = flat_map (λ d. d) ds in record {
    inside = λ k d l.
        let a = get_or all k d in let p = right_done 1 ss ds done a.0 a.1 (Contains-get_or all k d l) in
        let inside = slice_get_within h a.0 p.0 p.1 in omega arith;
    each = λ place l. let e = entry_at h place (omega arith) in let low = (only_at e.0 place e.1).0 in let high = (only_at e.0 place e.1).1 in
        covers_done 1 ss ds done place e.0.0 e.0.1 e.1 (omega arith) (omega arith);
  }
    where
      entry_at : (xs : List (ℕ × C)) (i : ℕ) → i < length xs → (e : ℕ × C) × (slice_get xs i ≡ Some e)
      entry_at [] i l = absurd (omega arith)
      entry_at (x ∷ xs) zero l = (x, refl)
      entry_at (x ∷ xs) (suc i) l = entry_at xs i (omega arith)

      only_at : (e : ℕ × C) (i : ℕ) → slice_get h i ≡ Some e → (0 < e.0) × (e.0 ≤ length ss)
      only_at e i at = subst (λ (x : ℕ × C). (0 < x.0) × (x.0 ≤ length ss)) (get_or_from_slice_get h i e e at) (only i e (slice_get_within h i e at))

  pub scripts_made : (ss : List (List C)) (ds : List (List (ℕ × R))) → AllDone 1 ss ds → OnlyClerks (length ss) h → HasScripts ss h
  scripts_made ss ds done only = record {
    own = λ place script at. ap (λ n. calls_by n h) (omega arith) ∙ own_done 1 ss ds done place script at;
    clerks = only;
  }

  pub replied : (ss : List (List C)) (ds : List (List (ℕ × R))) (replies : List R) → AllDone 1 ss ds → OnlyClerks (length ss) h → AreInOrder (flat_map (λ d. d) ds) replies → AreReplies answers h replies
  replied ss ds replies done only order = record {
    as_many = order.as_many ∙ as_many ss ds done only;
    right = λ place clerk call reply at there.
        let p = right_done 1 ss ds done place reply (order.at place reply there) in
        subst (λ (e : ℕ × C). answers (take place h) e.0 e.1 reply) (cc (p.1, at)) p.2;
  }

module _ {M C R K F : Type 0} (frame : M → F) (answers : F → List (ℕ × C) → ℕ → C → R → Type 0) (turn : Turn M C R K F) (h : List (ℕ × C)) where
  -- clerks that began with nothing, and made their scripts whole
  pub all_done : (k : ℕ) (ss : List (List C)) (vs ws : List (ClerkOf M C F)) (ds : List (List (ℕ × R))) → EachWorked frame answers turn false ss vs ws ds → All (λ v. IsFresh frame turn v) vs
      → ((j : ℕ) (v : ClerkOf M C F) → j < length vs → number (slice_index_or vs j v) ≡ k + j) → All (λ w. IsClerkIn h (number w) (front w) (calls w)) ws → AllDone (answers (turn_frame frame turn)) h k ss ds
  all_done k ss vs ws ds EachWorked.None fresh numbers in_h = tt
  all_done k ss vs ws ds (EachWorked.More {script = script} {v = v} {w = w} {done = done} {scripts = scripts} {vs = vs'} {ws = ws'} {dones = dones} hw rest) fresh numbers in_h =
      let new = All-head (λ u. IsFresh frame turn u) v vs' fresh in
      let mine = All-head (λ u. IsClerkIn h (number u) (front u) (calls u)) w ws' in_h in
      let is : number v ≡ k = numbers 0 v (omega arith) ∙ omega arith in
      let whole = hw.whole refl in (
        ap (λ n. calls_by n h) (sym (hw.same ∙ is)) ∙ (mine.calls ∙ (whole.1 ∙ ap (λ l. l ++ script) new.calls)),
        answers_stay (answers (turn_frame frame turn)) (front w) h k 0 script done mine.front
            (subst (λ (t : ℕ × ℕ). AreAnswers (answers (turn_frame frame turn)) (front w) t.0 t.1 script done) (λ i. (is i, ap length new.front i)) hw.answered),
        whole.0,
        all_done (k + 1) scripts vs' ws' dones rest (All-tail (λ u. IsFresh frame turn u) v vs' fresh) (λ j u l. numbers (suc j) u (omega arith) ∙ omega arith) (All-tail (λ u. IsClerkIn h (number u) (front u) (calls u)) w ws' in_h),
      )

  each_worked : (memory : Bool) (ss : List (List C)) (vs ws : List (ClerkOf M C F)) (ds : List (List (ℕ × R))) → HaveWorked frame answers turn memory ss vs ws ds → memory ≡ false → EachWorked frame answers turn false ss vs ws ds
  each_worked memory ss vs ws ds (HaveWorked.Each e) whole = subst (λ b. EachWorked frame answers turn b ss vs ws ds) whole e
  each_worked memory ss vs ws ds (HaveWorked.NoneMade want same none) whole = absurd (cc (want, whole))

  pub made : (memory : Bool) (ss : List (List C)) (vs ws : List (ClerkOf M C F)) (ds : List (List (ℕ × R))) → HaveWorked frame answers turn memory ss vs ws ds → memory ≡ false → All (λ v. IsFresh frame turn v) vs → AreNumbered vs
      → All (λ w. IsClerkIn h (number w) (front w) (calls w)) ws → AllDone (answers (turn_frame frame turn)) h 1 ss ds
  made memory ss vs ws ds worked whole fresh numbers in_h =
      all_done 1 ss vs ws ds (each_worked memory ss vs ws ds worked whole) fresh (λ j v l. numbers j v l ∙ omega arith) in_h
