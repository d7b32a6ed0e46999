-- How calls of a disk, one after the other, join.
use Rattle.std.proofs.Common.{◌⊎◌, ◌↔◌, inl, inr, ⊎_elim, ℕ, ◌≤◌, List, refl, ◌∙◌, subst, le_refl, le_antisymm, le_trans, le_of_lt}
use Rattle.std.proofs.lemmas.Bool.{cases_lt}
use Rattle.poets_disk.specs.Disks.{Seen, MayLeave, Since, GoesOn, During, Rests, IsSure}

-- what a crash may leave after a call is left at a moment of the call
pub left_now : (old new : Seen) → GoesOn old new → (image : List ℕ) → MayLeave new image → Since new old.clock image
left_now old new time image left = record { moment = new.clock; late = time.later; so_far = le_refl new.clock; left = left }

-- time that has not gone on
pub stands : (disk : Seen) → GoesOn disk disk
stands disk = record { later = le_refl disk.clock; kept = λ moment image le left. left; nothing_else = λ moment image le left. left }

-- two calls are one
pub goes_on : (a b c : Seen) → GoesOn a b → GoesOn b c → GoesOn a c
goes_on a b c p q = record {
  later = le_trans p.later q.later;
  kept = λ moment image le left. q.kept moment image (le_trans le p.later) (p.kept moment image le left);
  nothing_else = λ moment image le left. p.nothing_else moment image le (q.nothing_else moment image (le_trans le p.later) left);
}

-- the moments of two calls
pub during_both : (a b c : Seen) (P : List ℕ → Type 0) → GoesOn b c → During a b P → During b c P → During a c P
during_both a b c P time first second image since = ⊎_elim
    (λ early. first image (record { moment = since.moment; late = since.late; so_far = le_of_lt early; left = time.nothing_else since.moment image (le_of_lt early) since.left }))
    (λ later. second image (record { moment = since.moment; late = later; so_far = since.so_far; left = since.left }))
    (cases_lt since.moment b.clock)

-- a run that began earlier, and a call after it
pub since_both : (old new : Seen) (start : ℕ) (P : List ℕ → Type 0) → GoesOn old new → ((image : List ℕ) → Since old start image → P image) → During old new P
    → (image : List ℕ) → Since new start image → P image
since_both old new start P time before during image since = ⊎_elim
    (λ early. before image (record { moment = since.moment; late = since.late; so_far = le_of_lt early; left = time.nothing_else since.moment image (le_of_lt early) since.left }))
    (λ later. during image (record { moment = since.moment; late = later; so_far = since.so_far; left = since.left }))
    (cases_lt since.moment old.clock)

-- a call that adds no image, after one
pub during_rests : (a b c : Seen) (P : List ℕ → Type 0) → GoesOn a b → During a b P → Rests b c → During a c P
during_rests a b c P before first rests = during_both a b c P rests.time first (λ image since. first image (left_now a b before image (rests.during image since)))

-- of this moment alone there are its own images
pub only_now : (disk : Seen) → During disk disk (MayLeave disk)
only_now disk image since = subst (λ m. disk.images m image) (le_antisymm since.so_far since.late) since.left

pub rests_same : (disk : Seen) → Rests disk disk
rests_same disk = record { time = stands disk; same = refl; during = only_now disk }

-- two calls that change nothing
pub rests_both : (a b c : Seen) → Rests a b → Rests b c → Rests a c
rests_both a b c p q = record {
  time = goes_on a b c p.time q.time;
  same = q.same ∙ p.same;
  during = during_both a b c (MayLeave a) q.time p.during (λ image since. p.during image (left_now a b p.time image (q.during image since)));
}

-- what is sure stays so in a call that changes nothing
pub sure_rests : (old new : Seen) → IsSure old → Rests old new → IsSure new
sure_rests old new sure rests image left = rests.same ∙ sure image (rests.during image (left_now old new rests.time image left))

-- the images since a moment, told after a call
pub since_call : (old new : Seen) (start : ℕ) (image : List ℕ) → GoesOn old new → start ≤ old.clock → (Since new start image ↔ (Since old start image ⊎ Since new old.clock image))
since_call old new start image time early = (
  λ since. ⊎_elim
      (λ before. inl (record { moment = since.moment; late = since.late; so_far = le_of_lt before; left = time.nothing_else since.moment image (le_of_lt before) since.left }))
      (λ later. inr (record { moment = since.moment; late = later; so_far = since.so_far; left = since.left }))
      (cases_lt since.moment old.clock),
  λ parts. ⊎_elim
      (λ s. record { moment = s.moment; late = s.late; so_far = le_trans s.so_far time.later; left = time.kept s.moment image s.so_far s.left })
      (λ s. record { moment = s.moment; late = le_trans early s.late; so_far = s.so_far; left = s.left })
      parts,
)
