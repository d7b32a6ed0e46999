-- Statements are placed, or go wrong in one way.
use Rattle.std.proofs.Common.{◌≡◌, ℕ, suc, List, [], ◌∷◌, ◌++◌, ◌⊎◌, inl, inr, length, refl, sym, ap, subst, ◌∙◌, append-nil, append_assoc}
use Rattle.poets_command.specs.Said.{Statement}
use Rattle.poets_session.specs.declared.form.Form.{Form}
use Rattle.poets_session.specs.declared.counting.Part.TheVariants as P
use Rattle.poets_session.specs.Shapes.{HasShape, Begins, GoesWrong}
use Rattle.poets_session.specs.Places.{KeepLimits, ArePlaced, PlaceFault, Misplaced, TooMany, IsMisplacedAt, IsTooManyAt, IsPlaceFault}
use Rattle.poets_session.proofs.Shaping.{begins_front, part_begins}
use Rattle.poets_session.proofs.Limits.{limits_nothing, limits_front}

-- ---- two cuts of one list

-- the first of the rest stands in the longer front too
record IsLonger (front rest longer : List Statement) : Type 0 where
  next : Statement
  more : List Statement
  after : List Statement
  fronts : longer ≡ front ++ next ∷ more
  rests : rest ≡ next ∷ after

Cuts : (front rest back others : List Statement) → Type 0
Cuts front rest back others = ((front ≡ back) × (rest ≡ others)) ⊎ (IsLonger front rest back ⊎ IsLonger back others front)

one_longer : (x y : Statement) (front rest longer : List Statement) → x ≡ y → IsLonger front rest longer → IsLonger (x ∷ front) rest (y ∷ longer)
one_longer x y front rest longer e h = record {
  next = h.next;
  more = h.more;
  after = h.after;
  fronts = ap (λ z. z ∷ longer) (sym e) ∙ ap (λ l. x ∷ l) h.fronts;
  rests = h.rests;
}

one_cut : (x y : Statement) (front rest back others : List Statement) → x ≡ y → Cuts front rest back others → Cuts (x ∷ front) rest (y ∷ back) others
unfolding Cuts
one_cut x y front rest back others e (inl h) = let same : front ≡ back = h.0 in inl (cc, h.1)
one_cut x y front rest back others e (inr (inl h)) = inr (inl (one_longer x y front rest back e h))
one_cut x y front rest back others e (inr (inr h)) = inr (inr (one_longer y x back others front (sym e) h))

two_cuts : (front rest back others : List Statement) → front ++ rest ≡ back ++ others → Cuts front rest back others
unfolding Cuts
two_cuts [] rest [] others e = inl (refl, e)
two_cuts [] rest (y ∷ back) others e = inr (inl (record { next = y; more = back; after = back ++ others; fronts = refl; rests = e }))
two_cuts (x ∷ front) rest [] others e = inr (inr (record { next = x; more = front; after = front ++ rest; fronts = refl; rests = sym e }))
two_cuts (x ∷ front) rest (y ∷ back) others e =
    let first : x ≡ y = cc in
    let after : front ++ rest ≡ back ++ others = cc in
    one_cut x y front rest back others first (two_cuts front rest back others after)

-- ---- the first that is out of place

-- what stands in front may go on, but not with the first of the rest; where none is left, it is no
-- whole
IsOut : Form → (front rest : List Statement) → Type 0
IsOut form front [] = HasShape form front → ⊥
IsOut form front (s ∷ rest) = Begins form (front ++ s ∷ []) → KeepLimits (front ++ s ∷ []) → ⊥

record FirstOut (form : Form) (statements : List Statement) : Type 0 where
  front : List Statement
  rest : List Statement
  cut : statements ≡ front ++ rest
  begins : Begins form front
  limits : KeepLimits front
  out : IsOut form front rest

wrong_out : (form : Form) (front rest : List Statement) → GoesWrong form front rest → IsOut form front rest
unfolding IsOut
wrong_out form front [] wrong = wrong
wrong_out form front (s ∷ rest) wrong = λ begins limits. wrong begins

broken_out : (form : Form) (front rest : List Statement) (s : Statement) → (KeepLimits (front ++ s ∷ []) → ⊥) → IsOut form front (s ∷ rest)
unfolding IsOut
broken_out form front rest s broken = λ begins limits. broken limits

first_out : (form : Form) (statements : List Statement) (fault : PlaceFault) → IsPlaceFault form statements fault → FirstOut form statements
first_out form statements (Misplaced number) h =
    record { front = h.front; rest = h.rest; cut = h.cut; begins = h.begins; limits = h.limits; out = wrong_out form h.front h.rest h.wrong }
first_out form statements (TooMany number) h = record {
  front = h.front;
  rest = h.one ∷ h.rest;
  cut = h.cut;
  begins = begins_front form h.front (h.one ∷ []) h.begins;
  limits = h.limits;
  out = broken_out form h.front h.rest h.one h.broken;
}

goes_on : (form : Form) (front rest more : List Statement) (s : Statement) → IsOut form front (s ∷ rest) → Begins form (front ++ s ∷ more) → KeepLimits (front ++ s ∷ more) → ⊥
unfolding IsOut
goes_on form front rest more s out begins limits =
    let e = sym (append_assoc front (s ∷ []) more) in
    out (begins_front form (front ++ s ∷ []) more (subst (Begins form) e begins)) (limits_front (front ++ s ∷ []) more (subst KeepLimits e limits))

longer_in : (form : Form) (front rest longer : List Statement) → IsLonger front rest longer → IsOut form front rest → Begins form longer → KeepLimits longer → ⊥
longer_in form front rest longer h out begins limits =
    goes_on form front h.after h.more h.next (subst (IsOut form front) h.rests out) (subst (Begins form) h.fronts begins) (subst KeepLimits h.fronts limits)

out_once : (form : Form) (statements : List Statement) (a b : FirstOut form statements) → (a.front ≡ b.front) × (a.rest ≡ b.rest)
unfolding Cuts
out_once form statements a b = by (two_cuts a.front a.rest b.front b.rest (sym a.cut ∙ b.cut))
  where
    by : Cuts a.front a.rest b.front b.rest → (a.front ≡ b.front) × (a.rest ≡ b.rest)
    by (inl same) = same
    by (inr (inl h)) = absurd (longer_in form a.front a.rest b.front h a.out b.begins b.limits)
    by (inr (inr h)) = absurd (longer_in form b.front b.rest a.front h b.out a.begins a.limits)

-- ---- one fault

counted_once : (m n : ℕ) (front back : List Statement) → m ≡ suc (length front) → n ≡ suc (length back) → front ≡ back → m ≡ n
counted_once m n front back e f same = e ∙ ap (λ l. suc (length l)) same ∙ sym f

apart : (form : Form) (statements : List Statement) (m n : ℕ) → IsMisplacedAt form statements m → IsTooManyAt form statements n → ⊥
unfolding first_out
apart form statements m n h k =
    let same = out_once form statements (first_out form statements (Misplaced m) h) (first_out form statements (TooMany n) k) in
    let wrong : GoesWrong form k.front (k.one ∷ k.rest) =
    subst (λ front. GoesWrong form front (k.one ∷ k.rest)) same.0 (subst (GoesWrong form h.front) same.1 h.wrong)
    in wrong k.begins

-- statements go wrong in one way at most
pub place_once : (form : Form) (statements : List Statement) (a b : PlaceFault) → IsPlaceFault form statements a → IsPlaceFault form statements b → a ≡ b
unfolding first_out
place_once form statements (Misplaced m) (Misplaced n) h k =
    let same = out_once form statements (first_out form statements (Misplaced m) h) (first_out form statements (Misplaced n) k) in
    ap Misplaced (counted_once m n h.front k.front h.counted k.counted same.0)
place_once form statements (Misplaced m) (TooMany n) h k = absurd (apart form statements m n h k)
place_once form statements (TooMany m) (Misplaced n) h k = absurd (apart form statements n m k h)
place_once form statements (TooMany m) (TooMany n) h k =
    let same = out_once form statements (first_out form statements (TooMany m) h) (first_out form statements (TooMany n) k) in
    ap TooMany (counted_once m n h.front k.front h.counted k.counted same.0)

-- ---- what is placed does not go wrong

placed_in : (form : Form) (front rest : List Statement) → IsOut form front rest → HasShape form (front ++ rest) → KeepLimits (front ++ rest) → ⊥
unfolding IsOut
placed_in form front [] out shape limits = out (subst (HasShape form) (append-nil front) shape)
placed_in form front (s ∷ rest) out shape limits =
    let e = sym (append_assoc front (s ∷ []) rest) in
    out (rest, subst (HasShape form) e shape) (limits_front (front ++ s ∷ []) rest (subst KeepLimits e limits))

pub placed_unfaulted : (form : Form) (statements : List Statement) (fault : PlaceFault) → IsPlaceFault form statements fault → ArePlaced form statements → ⊥
placed_unfaulted form statements fault h p =
    let o = first_out form statements fault h in
    placed_in form o.front o.rest o.out (subst (HasShape form) o.cut p.shape) (subst KeepLimits o.cut p.limits)

-- ---- statements that are not placed go wrong

placed_after : (form : Form) (front rest : List Statement) → Begins form front → KeepLimits front → (ArePlaced form (front ++ rest) → ⊥) →
    ((fault : PlaceFault) → IsPlaceFault form (front ++ rest) fault → ⊥) → ⊥
placed_after form front [] begins limits unplaced none = none (Misplaced (suc (length front))) (record {
  front = front;
  rest = [];
  cut = refl;
  counted = refl;
  begins = begins;
  limits = limits;
  wrong = λ shape.
      let e = sym (append-nil front) in
      unplaced (record { shape = subst (HasShape form) e shape; limits = subst KeepLimits e limits });
})
placed_after form front (s ∷ rest) begins limits unplaced none = none (Misplaced (suc (length front))) (record {
  front = front;
  rest = s ∷ rest;
  cut = refl;
  counted = refl;
  begins = begins;
  limits = limits;
  wrong = λ goes_on. none (TooMany (suc (length front))) (record {
    front = front;
    one = s;
    rest = rest;
    cut = refl;
    counted = refl;
    begins = goes_on;
    limits = limits;
    broken = λ keeps.
        let e = append_assoc front (s ∷ []) rest in
        placed_after form (front ++ s ∷ []) rest goes_on keeps (λ p. unplaced (subst (ArePlaced form) e p))
        (λ fault h. none fault (subst (λ l. IsPlaceFault form l fault) e h));
  });
})

pub every_placed : (form : Form) (statements : List Statement) → (ArePlaced form statements → ⊥) → ((fault : PlaceFault) → IsPlaceFault form statements fault → ⊥) → ⊥
every_placed form statements unplaced none = placed_after form [] statements (part_begins form [] P.Book refl) limits_nothing unplaced none
