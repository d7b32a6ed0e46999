-- What a crash may leave, worked out from the calls that were kept.
use Rattle.std.proofs.Common.{◌≡◌, ◌≢◌, ◌⊎◌, inl, inr, ⊎_elim, ℕ, ◌+◌, ◌-◌, ◌<◌, ◌≤◌, List, [], ◌∷◌, ◌++◌, All, length, get_or, take, drop, map, replicate, refl, sym, ◌∙◌, ap, subst, arith, zero-le, le_refl, length-append, length-drop, take_all, take-append-drop}
use Rattle.std.proofs.lemmas.List.{take-append-le, drop-append-le, drop-drop, drop_all, take_more, drop_more, length-take-le, length-replicate, take-replicate, drop-replicate}
use Rattle.std.proofs.lemmas.List.Elements.{All-nil, All-cons, All-head, All-tail, All-push}
use Rattle.poets_value.specs.Limits.{longest_text}
use Rattle.poets_disk.specs.Disks.{MayLeave, IsTorn, over}
use Rattle.poets_disk.specs.Memory.{DiskCall, wrote, failed_write, synced, failed_sync, MemoryFile, held_after, held_by, left_after, left_by, seen_of, filled, AreSplit, WasSynced, IsFilled}
use Rattle.poets_disk.specs.MemoryLaws.{held_left}
use Rattle.poets_disk.specs.declared.memory.Mark.{Mark}
use Rattle.poets_disk.specs.declared.memory.Mark.TheVariants.{Wrote, FailedWrite, Synced, FailedSync}
use Rattle.poets_disk.specs.Kept.{disk_calls, file_of}
use Rattle.poets_disk.specs.code.Marks.{marked, AreKept, AreSplitAt, HasRoom}
use Rattle.poets_disk.specs.declared.memory.MemoryDisk.TheInside.{Inside}
use Rattle.poets_disk.proofs.Recorded.{calls_synced, length_over, torn_same, torn_over}

-- where the last sync stands among the first so many marks, and one more
split_end : (front : List Mark) → AreSplitAt (length front + 1) (front ++ Synced ∷ [])
split_end front =
    let long : length (front ++ Synced ∷ []) ≡ length front + 1 = length-append front (Synced ∷ []) in
    record {
      within = omega (arith, long);
      sync = inr (front, take_all (length front + 1) (front ++ Synced ∷ []) (omega (arith, long)));
      last = subst (All (λ mark. mark ≢ Synced)) (sym (drop_all (length front + 1) (front ++ Synced ∷ []) (omega (arith, long)))) (All-nil (λ mark. mark ≢ Synced));
    }

split_more : (count : ℕ) (front : List Mark) (mark : Mark) → AreSplitAt count front → mark ≢ Synced → AreSplitAt count (front ++ mark ∷ [])
split_more count front mark s other = record {
  within = omega (arith, s.within, length-append front (mark ∷ []));
  sync = ⊎_elim (λ none. inl none) (λ some. inr (some.0, take-append-le count front (mark ∷ []) s.within ∙ some.1)) s.sync;
  last = subst (All (λ mark. mark ≢ Synced)) (sym (drop-append-le count front (mark ∷ []) s.within)) (All-push (λ mark. mark ≢ Synced) (drop count front) mark s.last other);
}

pub split_none : (marks : List Mark) → AreSplitAt 0 (take 0 marks)
split_none marks = record { within = zero-le; sync = inl refl; last = All-nil (λ mark. mark ≢ Synced) }

pub split_here : (marks : List Mark) (i : ℕ) (d : Mark) → i < length marks → get_or marks i d ≡ Synced → AreSplitAt (i + 1) (take (i + 1) marks)
split_here marks i d lt sync =
    let on : take (i + 1) marks ≡ take i marks ++ Synced ∷ [] = take_more marks i d lt ∙ ap (λ m. take i marks ++ m ∷ []) sync in
    let long : length (take i marks) ≡ i = length-take-le i marks (omega (arith, lt)) in
    subst (AreSplitAt (i + 1)) (sym on) (subst (λ n. AreSplitAt (n + 1) (take i marks ++ Synced ∷ [])) long (split_end (take i marks)))

pub split_on : (marks : List Mark) (count i : ℕ) (d : Mark) → i < length marks → AreSplitAt count (take i marks) → get_or marks i d ≢ Synced → AreSplitAt count (take (i + 1) marks)
split_on marks count i d lt s other =
    subst (AreSplitAt count) (sym (take_more marks i d lt)) (split_more count (take i marks) (get_or marks i d) s other)

drop_both : (a b : ℕ) (xs : List ℕ) → drop b (drop a xs) ≡ drop (a + b) xs
drop_both a b xs = drop-drop b a xs

-- the calls of two runs of marks
pub calls_append : (marks more : List Mark) (bytes : List ℕ) → disk_calls (marks ++ more) bytes ≡ disk_calls marks bytes ++ disk_calls more (drop (marked marks) bytes)
calls_append [] more bytes = refl
calls_append (Wrote at n ∷ marks) more bytes =
    ap (λ l. wrote at (take n bytes) ∷ l) (calls_append marks more (drop n bytes) ∙ ap (λ (l : List ℕ). disk_calls marks (drop n bytes) ++ disk_calls more l) (drop_both n (marked marks) bytes))
calls_append (FailedWrite at n ∷ marks) more bytes = ap (λ l. failed_write at n ∷ l) (calls_append marks more bytes)
calls_append (Synced ∷ marks) more bytes = ap (λ l. synced ∷ l) (calls_append marks more bytes)
calls_append (FailedSync ∷ marks) more bytes = ap (λ l. failed_sync ∷ l) (calls_append marks more bytes)

pub marked_append : (marks more : List Mark) → marked (marks ++ more) ≡ marked marks + marked more
marked_append [] more = omega arith
marked_append (Wrote at n ∷ marks) more = omega (arith, marked_append marks more)
marked_append (FailedWrite at n ∷ marks) more = marked_append marks more
marked_append (Synced ∷ marks) more = marked_append marks more
marked_append (FailedSync ∷ marks) more = marked_append marks more

pub held_append : (held : List ℕ) (calls more : List DiskCall) → held_by held (calls ++ more) ≡ held_by (held_by held calls) more
held_append held [] more = refl
held_append held (call ∷ calls) more = held_append (held_after held call) calls more

-- calls that are kept end in a file within the room, and began in one
pub kept_short : (held : List ℕ) (calls : List DiskCall) → AreKept held calls → length held ≤ longest_text
kept_short held [] k = k
kept_short held (wrote at piece ∷ calls) k = omega (arith, kept_short (over at piece held) calls k.2, length_over at piece held k.0)
kept_short held (failed_write at n ∷ calls) k = kept_short held calls k
kept_short held (synced ∷ calls) k = kept_short held calls k
kept_short held (failed_sync ∷ calls) k = kept_short held calls k

pub kept_front : (held : List ℕ) (calls more : List DiskCall) → AreKept held (calls ++ more) → AreKept held calls
kept_front held [] more k = kept_short held more k
kept_front held (wrote at piece ∷ calls) more k = (k.0, k.1, kept_front (over at piece held) calls more k.2)
kept_front held (failed_write at n ∷ calls) more k = kept_front held calls more k
kept_front held (synced ∷ calls) more k = kept_front held calls more k
kept_front held (failed_sync ∷ calls) more k = kept_front held calls more k

pub kept_rest : (held : List ℕ) (calls more : List DiskCall) → AreKept held (calls ++ more) → AreKept (held_by held calls) more
kept_rest held [] more k = k
kept_rest held (wrote at piece ∷ calls) more k = kept_rest (over at piece held) calls more k.2
kept_rest held (failed_write at n ∷ calls) more k = kept_rest held calls more k
kept_rest held (synced ∷ calls) more k = kept_rest held calls more k
kept_rest held (failed_sync ∷ calls) more k = kept_rest held calls more k

same_length : (byte : ℕ) (held file : List ℕ) (at : ℕ) (piece : List ℕ) → length file ≡ length held → at ≤ length held → length (over at (replicate (length piece) byte) file) ≡ length (over at piece held)
same_length byte held file at piece same le =
    omega (arith, same, length_over at piece held le, length_over at (replicate (length piece) byte) file (omega (arith, same, le)), length-replicate (length piece) byte)

-- the same with another byte for each that was written
pub kept_filled : (byte : ℕ) (held file : List ℕ) (calls : List DiskCall) → length file ≡ length held → AreKept held calls → AreKept file (map (filled byte) calls)
kept_filled byte held file [] same k = omega (arith, same, k)
kept_filled byte held file (wrote at piece ∷ calls) same k =
    let n : length (replicate (length piece) byte) ≡ length piece = length-replicate (length piece) byte in (
      omega (arith, same, k.0),
      omega (arith, n, k.1),
      kept_filled byte (over at piece held) (over at (replicate (length piece) byte) file) calls (same_length byte held file at piece same k.0) k.2,
    )
kept_filled byte held file (failed_write at n ∷ calls) same k = kept_filled byte held file calls same k
kept_filled byte held file (synced ∷ calls) same k = kept_filled byte held file calls same k
kept_filled byte held file (failed_sync ∷ calls) same k = kept_filled byte held file calls same k

-- marks whose bytes are one byte throughout
pub calls_filled : (byte : ℕ) (marks : List Mark) (bytes : List ℕ) → marked marks ≤ length bytes → disk_calls marks (replicate (length bytes) byte) ≡ map (filled byte) (disk_calls marks bytes)
calls_filled byte [] bytes le = refl
calls_filled byte (Wrote at n ∷ marks) bytes le =
    let long : n ≤ length bytes = omega (arith, le) in
    let piece : take n (replicate (length bytes) byte) ≡ replicate (length (take n bytes)) byte =
    take-replicate n (length bytes) byte long ∙ ap (λ (k : ℕ). replicate k byte) (sym (length-take-le n bytes long)) in
    let rest : drop n (replicate (length bytes) byte) ≡ replicate (length (drop n bytes)) byte =
    drop-replicate n (length bytes) byte ∙ ap (λ (k : ℕ). replicate k byte) (sym (length-drop n bytes)) in
    let more = calls_filled byte marks (drop n bytes) (omega (arith, le, length-drop n bytes)) in
    λ i. wrote at (piece i) ∷ (ap (λ (l : List ℕ). disk_calls marks l) rest ∙ more) i
calls_filled byte (FailedWrite at n ∷ marks) bytes le = ap (λ l. failed_write at n ∷ l) (calls_filled byte marks bytes le)
calls_filled byte (Synced ∷ marks) bytes le = ap (λ l. synced ∷ l) (calls_filled byte marks bytes le)
calls_filled byte (FailedSync ∷ marks) bytes le = ap (λ l. failed_sync ∷ l) (calls_filled byte marks bytes le)

abbrev is_synced : DiskCall → Type 0
is_synced (wrote at piece) = ⊥
is_synced (failed_write at count) = ⊥
is_synced synced = Unit {0}
is_synced failed_sync = ⊥

-- the calls of marks none of which is a sync
pub none_synced : (marks : List Mark) (bytes : List ℕ) → All (λ mark. mark ≢ Synced) marks → All (λ call. call ≢ synced) (disk_calls marks bytes)
none_synced [] bytes all = All-nil (λ call. call ≢ synced)
none_synced (Wrote at n ∷ marks) bytes all =
    All-cons (λ call. call ≢ synced) (wrote at (take n bytes)) (disk_calls marks (drop n bytes)) (λ e. subst is_synced (sym e) tt) (none_synced marks (drop n bytes) (All-tail (λ mark. mark ≢ Synced) (Wrote at n) marks all))
none_synced (FailedWrite at n ∷ marks) bytes all =
    All-cons (λ call. call ≢ synced) (failed_write at n) (disk_calls marks bytes) (λ e. subst is_synced (sym e) tt) (none_synced marks bytes (All-tail (λ mark. mark ≢ Synced) (FailedWrite at n) marks all))
none_synced (Synced ∷ marks) bytes all = absurd (All-head (λ mark. mark ≢ Synced) Synced marks all refl)
none_synced (FailedSync ∷ marks) bytes all =
    All-cons (λ call. call ≢ synced) failed_sync (disk_calls marks bytes) (λ e. subst is_synced (sym e) tt) (none_synced marks bytes (All-tail (λ mark. mark ≢ Synced) FailedSync marks all))

-- the marks up to the last sync, as calls
pub split_calls : (marks : List Mark) (count : ℕ) (bytes : List ℕ) → AreSplitAt count marks → AreSplit (disk_calls marks bytes) (disk_calls (take count marks) bytes) (disk_calls (drop count marks) (drop (marked (take count marks)) bytes))
split_calls marks count bytes s = record {
  whole = ap (λ l. disk_calls l bytes) (sym (take-append-drop count marks)) ∙ calls_append (take count marks) (drop count marks) bytes;
  sync = ⊎_elim
      (λ none. inl (ap (λ n. disk_calls (take n marks) bytes) none))
      (λ some. inr (disk_calls some.0 bytes, ap (λ l. disk_calls l bytes) some.1 ∙ calls_synced some.0 bytes))
      s.sync;
  last = none_synced (drop count marks) (drop (marked (take count marks)) bytes) s.last;
}

-- the images after two runs of calls
left_append : (held : List ℕ) (left : List ℕ → Type 0) (calls more : List DiskCall) (image : List ℕ) → left_by (held_by held calls) (left_by held left calls) more image → left_by held left (calls ++ more) image
left_append held left [] more image l = l
left_append held left (call ∷ calls) more image l = left_append (held_after held call) (left_after held left call) calls more image l

-- until a sync, an image stays one
left_stays : (held : List ℕ) (left : List ℕ → Type 0) (calls : List DiskCall) (image : List ℕ) → All (λ call. call ≢ synced) calls → left image → left_by held left calls image
left_stays held left [] image none l = l
left_stays held left (wrote at piece ∷ calls) image none l =
    left_stays (over at piece held) (left_after held left (wrote at piece)) calls image (All-tail (λ call. call ≢ synced) (wrote at piece) calls none) (inr (image, l, torn_same at (length piece) image))
left_stays held left (failed_write at n ∷ calls) image none l =
    left_stays held (left_after held left (failed_write at n)) calls image (All-tail (λ call. call ≢ synced) (failed_write at n) calls none) (inl l)
left_stays held left (synced ∷ calls) image none l = absurd (All-head (λ call. call ≢ synced) synced calls none refl)
left_stays held left (failed_sync ∷ calls) image none l = left_stays held (left_after held left failed_sync) calls image (All-tail (λ call. call ≢ synced) failed_sync calls none) l

-- and so is one with another byte for each that is written
left_filled : (byte : ℕ) (held file : List ℕ) (left : List ℕ → Type 0) (calls : List DiskCall) → All (λ call. call ≢ synced) calls → AreKept held calls → length file ≡ length held → left file → left_by held left calls (held_by file (map (filled byte) calls))
left_filled byte held file left [] none k same l = l
left_filled byte held file left (wrote at piece ∷ calls) none k same l =
    let piece' = replicate (length piece) byte in
    let torn : IsTorn at (length piece) file (over at piece' file) = subst (λ n. IsTorn at n file (over at piece' file)) (length-replicate (length piece) byte) (torn_over at piece' file (omega (arith, same, k.0))) in
    left_filled byte (over at piece held) (over at piece' file) (left_after held left (wrote at piece)) calls (All-tail (λ call. call ≢ synced) (wrote at piece) calls none) k.2 (same_length byte held file at piece same k.0)
    (inr (file, l, torn))
left_filled byte held file left (failed_write at n ∷ calls) none k same l =
    left_filled byte held file (left_after held left (failed_write at n)) calls (All-tail (λ call. call ≢ synced) (failed_write at n) calls none) k same (inl l)
left_filled byte held file left (synced ∷ calls) none k same l = absurd (All-head (λ call. call ≢ synced) synced calls none refl)
left_filled byte held file left (failed_sync ∷ calls) none k same l =
    left_filled byte held file (left_after held left failed_sync) calls (All-tail (λ call. call ≢ synced) failed_sync calls none) k same l

at_end : (m : MemoryFile) (before after : List DiskCall) (image : List ℕ) → m.calls ≡ before ++ after → left_by m.first (λ whole. whole ≡ m.first) (before ++ after) image → MayLeave (seen_of m) image
at_end m before after image whole left =
    subst (λ cs. left_by m.first (λ whole. whole ≡ m.first) cs image) (sym whole ∙ sym (take_all (length m.calls) m.calls (le_refl (length m.calls)))) left

-- what was synced last is an image
pub synced_left : (m : MemoryFile) (image : List ℕ) → WasSynced m.first m.calls image → MayLeave (seen_of m) image
synced_left m image w =
    let left : List ℕ → Type 0 = λ whole. whole ≡ m.first in
    let sure = held_by m.first w.before in
    subst (MayLeave (seen_of m)) (sym w.is) (at_end m w.before w.after sure w.split.whole
    (left_append m.first left w.before w.after sure (left_stays sure (left_by m.first left w.before) w.after sure w.split.last (held_left m.first left w.before refl))))

-- and so is what a read gives, with one byte for each that was written since
pub filled_left : (byte : ℕ) (m : MemoryFile) (image : List ℕ) → AreKept m.first m.calls → IsFilled byte m.first m.calls image → MayLeave (seen_of m) image
filled_left byte m image kept w =
    let left : List ℕ → Type 0 = λ whole. whole ≡ m.first in
    let sure = held_by m.first w.before in
    let filled_image = held_by sure (map (filled byte) w.after) in
    subst (MayLeave (seen_of m)) (sym w.is) (at_end m w.before w.after filled_image w.split.whole
    (left_append m.first left w.before w.after filled_image
    (left_filled byte sure sure (left_by m.first left w.before) w.after w.split.last (kept_rest m.first w.before w.after (subst (AreKept m.first) w.split.whole kept)) refl (held_left m.first left w.before refl))))

-- the first of some marks
first_calls : (marks : List Mark) (i : ℕ) (d : Mark) (bytes : List ℕ) → i < length marks
    → disk_calls (drop i marks) bytes ≡ disk_calls (get_or marks i d ∷ []) bytes ++ disk_calls (drop (i + 1) marks) (drop (marked (get_or marks i d ∷ [])) bytes)
first_calls marks i d bytes lt = ap (λ l. disk_calls l bytes) (drop_more marks i d lt) ∙ calls_append (get_or marks i d ∷ []) (drop (i + 1) marks) bytes

first_marked : (marks : List Mark) (i : ℕ) (d : Mark) → i < length marks → marked (drop i marks) ≡ marked (get_or marks i d ∷ []) + marked (drop (i + 1) marks)
first_marked marks i d lt = ap marked (drop_more marks i d lt) ∙ marked_append (get_or marks i d ∷ []) (drop (i + 1) marks)

pub first_kept : (file : List ℕ) (marks : List Mark) (i : ℕ) (d : Mark) (bytes : List ℕ) → i < length marks → AreKept file (disk_calls (drop i marks) bytes) → AreKept file (disk_calls (get_or marks i d ∷ []) bytes)
first_kept file marks i d bytes lt k =
    kept_front file (disk_calls (get_or marks i d ∷ []) bytes) (disk_calls (drop (i + 1) marks) (drop (marked (get_or marks i d ∷ [])) bytes)) (subst (AreKept file) (first_calls marks i d bytes lt) k)

pub first_enough : (marks : List Mark) (i : ℕ) (d : Mark) (bytes : List ℕ) → i < length marks → marked (drop i marks) ≤ length bytes → marked (get_or marks i d ∷ []) ≤ length bytes
first_enough marks i d bytes lt le = omega (arith, le, first_marked marks i d lt)

-- one mark more was made good
pub redone : (file new : List ℕ) (marks : List Mark) (i : ℕ) (d : Mark) (bytes rest : List ℕ) → i < length marks → AreKept file (disk_calls (drop i marks) bytes) → marked (drop i marks) ≤ length bytes
    → new ≡ held_by file (disk_calls (get_or marks i d ∷ []) bytes) → rest ≡ drop (marked (get_or marks i d ∷ [])) bytes
    → (held_by new (disk_calls (drop (i + 1) marks) rest) ≡ held_by file (disk_calls (drop i marks) bytes)) × AreKept new (disk_calls (drop (i + 1) marks) rest) × (marked (drop (i + 1) marks) ≤ length rest)
    × (drop (marked (drop (i + 1) marks)) rest ≡ drop (marked (drop i marks)) bytes)
redone file new marks i d bytes rest lt k le is left =
    let n : ℕ = marked (get_or marks i d ∷ []) in
    let more = disk_calls (drop (i + 1) marks) (drop n bytes) in
    let one = disk_calls (get_or marks i d ∷ []) bytes in
    let same : disk_calls (drop (i + 1) marks) rest ≡ more = ap (λ (l : List ℕ). disk_calls (drop (i + 1) marks) l) left in
    let count = first_marked marks i d lt in (
      (λ j. held_by (is j) (same j)) ∙ sym (held_append file one more) ∙ ap (held_by file) (sym (first_calls marks i d bytes lt)),
      subst (λ (l : List ℕ). AreKept l (disk_calls (drop (i + 1) marks) rest)) (sym is) (subst (AreKept (held_by file one)) (sym same) (kept_rest file one more (subst (AreKept file) (first_calls marks i d bytes lt) k))),
      omega (arith, le, count, ap length left, length-drop n bytes),
      ap (λ (l : List ℕ). drop (marked (drop (i + 1) marks)) l) left ∙ drop_both n (marked (drop (i + 1) marks)) bytes ∙ ap (λ (k : ℕ). drop k bytes) (sym count),
    )

-- the first so many marks of those that are kept, by parts that were split off
two_parts : (marks : List Mark) (bytes : List ℕ) (n : ℕ) → disk_calls marks bytes ≡ disk_calls (take n marks) bytes ++ disk_calls (drop n marks) (drop (marked (take n marks)) bytes)
two_parts marks bytes n = ap (λ l. disk_calls l bytes) (sym (take-append-drop n marks)) ∙ calls_append (take n marks) (drop n marks) bytes

two_marked : (marks : List Mark) (n : ℕ) → marked marks ≡ marked (take n marks) + marked (drop n marks)
two_marked marks n = ap marked (sym (take-append-drop n marks)) ∙ marked_append (take n marks) (drop n marks)

pub front_kept : (first file : List ℕ) (marks front : List Mark) (bytes : List ℕ) (n : ℕ) → file ≡ first → front ≡ take n marks → AreKept first (disk_calls marks bytes) → AreKept file (disk_calls front bytes)
front_kept first file marks front bytes n is part k =
    subst (λ (l : List ℕ). AreKept l (disk_calls front bytes)) (sym is) (subst (λ l. AreKept first (disk_calls l bytes)) (sym part)
    (kept_front first (disk_calls (take n marks) bytes) (disk_calls (drop n marks) (drop (marked (take n marks)) bytes)) (subst (AreKept first) (two_parts marks bytes n) k)))

pub front_enough : (marks front : List Mark) (bytes : List ℕ) (n : ℕ) → front ≡ take n marks → marked marks ≤ length bytes → marked front ≤ length bytes
front_enough marks front bytes n part le = omega (arith, ap marked part, le, two_marked marks n)

-- what was made of the first marks, and the calls of the others
module _ (marks front : List Mark) (bytes : List ℕ) (n : ℕ) (s : AreSplitAt n marks) (part : front ≡ take n marks) where
  pub was_synced : (first file new : List ℕ) → file ≡ first → new ≡ held_by file (disk_calls front bytes) → (image : List ℕ) → image ≡ new
      → WasSynced first (disk_calls marks bytes) image
  was_synced first file new is made image same = record {
    before = disk_calls (take n marks) bytes;
    after = disk_calls (drop n marks) (drop (marked (take n marks)) bytes);
    split = split_calls marks n bytes s;
    is = same ∙ made ∙ (λ j. held_by (is j) (disk_calls (part j) bytes));
  }

module _ (byte : ℕ) (marks front back : List Mark) (bytes rest filling : List ℕ) (n : ℕ) (part : front ≡ take n marks) (other : back ≡ drop n marks) (left : rest ≡ drop (marked front) bytes) (fills : filling ≡ replicate (length rest) byte) (le : marked marks ≤ length bytes) where
  left_is : rest ≡ drop (marked (take n marks)) bytes
  left_is = left ∙ ap (λ l. drop (marked l) bytes) part

  back_long : marked (drop n marks) ≤ length rest
  back_long = omega (arith, le, two_marked marks n, ap length left_is, length-drop (marked (take n marks)) bytes)

  filled_calls : disk_calls back filling ≡ map (filled byte) (disk_calls (drop n marks) (drop (marked (take n marks)) bytes))
  filled_calls = (λ j. disk_calls (other j) (fills j)) ∙ calls_filled byte (drop n marks) rest back_long ∙ ap (λ (l : List ℕ). map (filled byte) (disk_calls (drop n marks) l)) left_is

  pub back_enough : marked back ≤ length filling
  back_enough = omega (arith, ap marked other, ap length fills, length-replicate (length rest) byte, back_long)

  module _ (first file new : List ℕ) (is : file ≡ first) (made : new ≡ held_by file (disk_calls front bytes)) where
    made_is : new ≡ held_by first (disk_calls (take n marks) bytes)
    made_is = made ∙ (λ j. held_by (is j) (disk_calls (part j) bytes))

    pub back_kept : AreKept first (disk_calls marks bytes) → AreKept new (disk_calls back filling)
    back_kept k =
        let sure = held_by first (disk_calls (take n marks) bytes) in
        let after = disk_calls (drop n marks) (drop (marked (take n marks)) bytes) in
        subst (AreKept new) (sym filled_calls)
        (kept_filled byte sure new after (ap length made_is) (kept_rest first (disk_calls (take n marks) bytes) after (subst (AreKept first) (two_parts marks bytes n) k)))

    pub is_filled : AreSplitAt n marks → (last image : List ℕ) → last ≡ held_by new (disk_calls back filling) → image ≡ last → IsFilled byte first (disk_calls marks bytes) image
    is_filled s last image ends same = record {
      before = disk_calls (take n marks) bytes;
      after = disk_calls (drop n marks) (drop (marked (take n marks)) bytes);
      split = split_calls marks n bytes s;
      is = same ∙ ends ∙ (λ j. held_by (made_is j) (filled_calls j));
    }

-- what is kept in a disk, as the slices that are read of it
module _ (i : Inside) (m : MemoryFile) (first written : List ℕ) (marks : List Mark) (view : file_of i ≡ m) (f : first ≡ i.first.items) (k : marks ≡ i.marks.items) (w : written ≡ i.written.items) where
  first_is : first ≡ m.first
  first_is = f ∙ ap (λ v. v.first) view

  calls_are : disk_calls marks written ≡ m.calls
  calls_are = (λ j. disk_calls (k j) (w j)) ∙ ap (λ v. v.calls) view

  pub kept_slices : HasRoom i → AreKept first (disk_calls marks written)
  kept_slices r = subst (λ (l : List ℕ). AreKept l (disk_calls marks written)) (sym f) (subst (AreKept i.first.items) (sym (λ j. disk_calls (k j) (w j))) r.kept)

  pub synced_slices : (image : List ℕ) → WasSynced first (disk_calls marks written) image → WasSynced m.first m.calls image
  synced_slices image is = subst (λ (l : List ℕ). WasSynced l m.calls image) first_is (subst (λ cs. WasSynced first cs image) calls_are is)

  pub filled_slices : (byte : ℕ) (image : List ℕ) → IsFilled byte first (disk_calls marks written) image → IsFilled byte m.first m.calls image
  filled_slices byte image is = subst (λ (l : List ℕ). IsFilled byte l m.calls image) first_is (subst (λ cs. IsFilled byte first cs image) calls_are is)

  pub kept_now : HasRoom i → AreKept m.first m.calls
  kept_now r = subst (λ v. AreKept v.first v.calls) view r.kept
