-- How a disk in memory goes on by a call.
use Rattle.std.proofs.Common.{◌≡◌, ◌⊎◌, inl, inr, ⊎_elim, ℕ, suc, ◌+◌, ◌-◌, ◌<◌, ◌≤◌, max, Bool, true, false, nat_lt, if◌then◌else◌, List, [], ◌∷◌, ◌++◌, length, take, drop, Some, refl, sym, ◌∙◌, ap, subst, arith, le_refl, take_all, take_at, drop_at, length-append, length-drop, length-take}
use Rattle.std.proofs.lemmas.Bool.{cases_lt, lt-ltb, le-ltb}
use Rattle.poets_io.specs.Causes.{counted}
use Rattle.std.proofs.lemmas.List.{take-append-le, drop-append-le, length-take-le, nil_from_length, length_push}
use Rattle.poets_disk.specs.Disks.{Seen, MayLeave, Since, GoesOn, Rests, Writes, IsTorn, IsSure, over}
use Rattle.poets_disk.specs.Memory.{DiskCall, wrote, failed_write, synced, failed_sync, MemoryFile, held_after, held_by, held_now, left_after, left_by, seen_of, written_by, most_calls, kept_with, after_failed}
use Rattle.poets_disk.specs.MemoryLaws.{held_is_left}
use Rattle.poets_disk.proofs.Moments.{stands, only_now, rests_same}
use Rattle.poets_disk.specs.declared.memory.Mark.{Mark}
use Rattle.poets_disk.specs.declared.memory.Mark.TheVariants.{Wrote, FailedWrite, Synced, FailedSync}
use Rattle.poets_disk.specs.Kept.{disk_calls}
use Rattle.poets_disk.specs.code.Marks.{marked}

pub held_push : (held : List ℕ) (calls : List DiskCall) (call : DiskCall) → held_by held (calls ++ call ∷ []) ≡ held_after (held_by held calls) call
held_push held [] call = refl
held_push held (c ∷ calls) call = held_push (held_after held c) calls call

left_to : (held : List ℕ) (left : List ℕ → Type 0) (calls : List DiskCall) (call : DiskCall) (image : List ℕ) → left_by held left (calls ++ call ∷ []) image → left_after (held_by held calls) (left_by held left calls) call image
left_to held left [] call image l = l
left_to held left (c ∷ calls) call image l = left_to (held_after held c) (left_after held left c) calls call image l

left_from : (held : List ℕ) (left : List ℕ → Type 0) (calls : List DiskCall) (call : DiskCall) (image : List ℕ) → left_after (held_by held calls) (left_by held left calls) call image → left_by held left (calls ++ call ∷ []) image
left_from held left [] call image l = l
left_from held left (c ∷ calls) call image l = left_from (held_after held c) (left_after held left c) calls call image l

-- one call more
pub with_call : MemoryFile → DiskCall → MemoryFile
with_call m call = record m { calls = m.calls ++ call ∷ [] }

abbrev at_first : MemoryFile → List ℕ → Type 0
at_first m whole = whole ≡ m.first

module _ (m : MemoryFile) (call : DiskCall) (faults : ℕ) where
  abbrev next : MemoryFile
  next = record m { calls = m.calls ++ call ∷ []; faults = faults }

  pub call_goes_on : GoesOn (seen_of m) (seen_of next)
  call_goes_on = record {
    later = omega (arith, length_push m.calls call);
    kept = λ moment image le left. subst (λ cs. left_by m.first (at_first m) cs image) (sym (take-append-le moment m.calls (call ∷ []) le)) left;
    nothing_else = λ moment image le left. subst (λ cs. left_by m.first (at_first m) cs image) (take-append-le moment m.calls (call ∷ []) le) left;
  }

  -- an image of the call's own moments: it was one at its start, or the call made it one
  pub call_during : (image : List ℕ) → Since (seen_of next) (length m.calls) image → MayLeave (seen_of m) image ⊎ left_after (held_by m.first m.calls) (left_by m.first (at_first m) m.calls) call image
  call_during image since = ⊎_elim
      (λ early. let is : since.moment ≡ length m.calls = omega (arith, since.late) in
      inl (subst (λ cs. left_by m.first (at_first m) cs image) (take-append-le (length m.calls) m.calls (call ∷ []) (le_refl (length m.calls)))
      (subst (λ n. left_by m.first (at_first m) (take n (m.calls ++ call ∷ [])) image) is since.left)))
      (λ later. inr (left_to m.first (at_first m) m.calls call image
      (subst (λ cs. left_by m.first (at_first m) cs image) (take_all since.moment (m.calls ++ call ∷ []) (omega (arith, later, length_push m.calls call))) since.left)))
      (cases_lt since.moment (length m.calls + 1))

  -- what was left ahead of the call, by its whole list
  pub left_whole : (image : List ℕ) → left_by m.first (at_first m) m.calls image → MayLeave (seen_of m) image
  left_whole image left = subst (λ cs. left_by m.first (at_first m) cs image) (sym (take_all (length m.calls) m.calls (le_refl (length m.calls)))) left

pub torn_same : (at count : ℕ) (file : List ℕ) → IsTorn at count file file
torn_same at count file = record { before = refl; after = refl; no_shorter = le_refl (length file); no_longer = omega arith }

pub length_over : (at : ℕ) (piece file : List ℕ) → at ≤ length file → length (over at piece file) ≡ max (length file) (at + length piece)
length_over at piece file le =
    omega (arith, le, length-append (take at file) (piece ++ drop (at + length piece) file), length-append piece (drop (at + length piece) file), length-take-le at file le, length-drop (at + length piece) file)

pub torn_over : (at : ℕ) (piece file : List ℕ) → at ≤ length file → IsTorn at (length piece) file (over at piece file)
torn_over at piece file le = record {
  before = take_at (take at file) (piece ++ drop (at + length piece) file) at (length-take-le at file le);
  after = ap (λ (l : List ℕ). drop (at + length piece) l) (sym (append_both (take at file) piece (drop (at + length piece) file)))
      ∙ drop_at (take at file ++ piece) (drop (at + length piece) file) (at + length piece) (omega (arith, length-append (take at file) piece, length-take-le at file le));
  no_shorter = omega (arith, length_over at piece file le);
  no_longer = omega (arith, length_over at piece file le);
}
  where
    append_both : (xs ys zs : List ℕ) → (xs ++ ys) ++ zs ≡ xs ++ (ys ++ zs)
    append_both [] ys zs = refl
    append_both (x ∷ xs) ys zs = ap (λ (l : List ℕ). x ∷ l) (append_both xs ys zs)

-- a successful write
pub wrote_writes : (m : MemoryFile) (at : ℕ) (piece : List ℕ) → at ≤ length (held_by m.first m.calls) → Writes at piece (seen_of m) (seen_of (record m { calls = m.calls ++ wrote at piece ∷ [] }))
wrote_writes m at piece le = record {
  time = call_goes_on m (wrote at piece) m.faults;
  during = λ image since. ⊎_elim
      (λ old. record { whole = image; left = old; torn = torn_same at (length piece) image })
      (λ new. ⊎_elim
      (λ is. record { whole = held_by m.first m.calls; left = held_is_left m (held_by m.first m.calls) refl; torn = subst (λ i. IsTorn at (length piece) (held_by m.first m.calls) i) (sym is) (torn_over at piece (held_by m.first m.calls) le) })
      (λ t. record { whole = t.0; left = left_whole m (wrote at piece) m.faults t.0 t.1; torn = t.2 })
      new)
      (call_during m (wrote at piece) m.faults image since);
}

-- a write that failed
pub failed_writes : (m : MemoryFile) (at : ℕ) (piece : List ℕ) (faults : ℕ) → Writes at piece (seen_of m) (seen_of (record m { calls = m.calls ++ failed_write at (length piece) ∷ []; faults = faults }))
failed_writes m at piece faults = record {
  time = call_goes_on m (failed_write at (length piece)) faults;
  during = λ image since. ⊎_elim
      (λ old. record { whole = image; left = old; torn = torn_same at (length piece) image })
      (λ new. ⊎_elim
      (λ old. record { whole = image; left = left_whole m (failed_write at (length piece)) faults image old; torn = torn_same at (length piece) image })
      (λ t. record { whole = t.0; left = left_whole m (failed_write at (length piece)) faults t.0 t.1; torn = t.2 })
      new)
      (call_during m (failed_write at (length piece)) faults image since);
}

-- a sync
pub synced_rests : (m : MemoryFile) → Rests (seen_of m) (seen_of (record m { calls = m.calls ++ synced ∷ [] }))
synced_rests m = record {
  time = call_goes_on m synced m.faults;
  same = ap Some (held_push m.first m.calls synced);
  during = λ image since. ⊎_elim (λ old. old) (λ is. held_is_left m image (ap Some (sym is))) (call_during m synced m.faults image since);
}

pub synced_sure : (m : MemoryFile) → IsSure (seen_of (record m { calls = m.calls ++ synced ∷ [] }))
synced_sure m image left =
    let calls = m.calls ++ synced ∷ [] in
    let is : image ≡ held_by m.first m.calls = left_to m.first (at_first m) m.calls synced image
    (subst (λ cs. left_by m.first (at_first m) cs image) (take_all (length calls) calls (le_refl (length calls))) left) in
    ap Some (held_push m.first m.calls synced ∙ sym is)

-- a sync that failed
pub failed_rests : (m : MemoryFile) (faults : ℕ) → Rests (seen_of m) (seen_of (record m { calls = m.calls ++ failed_sync ∷ []; faults = faults }))
failed_rests m faults = record {
  time = call_goes_on m failed_sync faults;
  same = ap Some (held_push m.first m.calls failed_sync);
  during = λ image since. ⊎_elim (λ old. old) (λ new. left_whole m failed_sync faults image new) (call_during m failed_sync faults image since);
}

-- the calls that are kept, one more
pub calls_wrote : (marks : List Mark) (bytes : List ℕ) (at : ℕ) (piece : List ℕ) → marked marks ≡ length bytes → disk_calls (marks ++ Wrote at (length piece) ∷ []) (bytes ++ piece) ≡ disk_calls marks bytes ++ wrote at piece ∷ []
calls_wrote [] bytes at piece all =
    let none : bytes ≡ [] = nil_from_length bytes (sym all) in
    ap (λ (l : List ℕ). wrote at (take (length piece) (l ++ piece)) ∷ []) none ∙ ap (λ (l : List ℕ). wrote at l ∷ []) (take_all (length piece) piece (le_refl (length piece)))
calls_wrote (Wrote a n ∷ marks) bytes at piece all =
    let more = calls_wrote marks (drop n bytes) at piece (omega (arith, all, length-drop n bytes)) in
    let front : take n (bytes ++ piece) ≡ take n bytes = take-append-le n bytes piece (omega (arith, all)) in
    let rest : drop n (bytes ++ piece) ≡ drop n bytes ++ piece = drop-append-le n bytes piece (omega (arith, all)) in
    λ i. wrote a (front i) ∷ (ap (λ (l : List ℕ). disk_calls (marks ++ Wrote at (length piece) ∷ []) l) rest ∙ more) i
calls_wrote (FailedWrite a n ∷ marks) bytes at piece all = ap (λ l. failed_write a n ∷ l) (calls_wrote marks bytes at piece all)
calls_wrote (Synced ∷ marks) bytes at piece all = ap (λ l. synced ∷ l) (calls_wrote marks bytes at piece all)
calls_wrote (FailedSync ∷ marks) bytes at piece all = ap (λ l. failed_sync ∷ l) (calls_wrote marks bytes at piece all)

pub calls_failed_write : (marks : List Mark) (bytes : List ℕ) (at count : ℕ) → disk_calls (marks ++ FailedWrite at count ∷ []) bytes ≡ disk_calls marks bytes ++ failed_write at count ∷ []
calls_failed_write [] bytes at count = refl
calls_failed_write (Wrote a n ∷ marks) bytes at count = ap (λ l. wrote a (take n bytes) ∷ l) (calls_failed_write marks (drop n bytes) at count)
calls_failed_write (FailedWrite a n ∷ marks) bytes at count = ap (λ l. failed_write a n ∷ l) (calls_failed_write marks bytes at count)
calls_failed_write (Synced ∷ marks) bytes at count = ap (λ l. synced ∷ l) (calls_failed_write marks bytes at count)
calls_failed_write (FailedSync ∷ marks) bytes at count = ap (λ l. failed_sync ∷ l) (calls_failed_write marks bytes at count)

pub calls_synced : (marks : List Mark) (bytes : List ℕ) → disk_calls (marks ++ Synced ∷ []) bytes ≡ disk_calls marks bytes ++ synced ∷ []
calls_synced [] bytes = refl
calls_synced (Wrote a n ∷ marks) bytes = ap (λ l. wrote a (take n bytes) ∷ l) (calls_synced marks (drop n bytes))
calls_synced (FailedWrite a n ∷ marks) bytes = ap (λ l. failed_write a n ∷ l) (calls_synced marks bytes)
calls_synced (Synced ∷ marks) bytes = ap (λ l. synced ∷ l) (calls_synced marks bytes)
calls_synced (FailedSync ∷ marks) bytes = ap (λ l. failed_sync ∷ l) (calls_synced marks bytes)

pub calls_failed_sync : (marks : List Mark) (bytes : List ℕ) → disk_calls (marks ++ FailedSync ∷ []) bytes ≡ disk_calls marks bytes ++ failed_sync ∷ []
calls_failed_sync [] bytes = refl
calls_failed_sync (Wrote a n ∷ marks) bytes = ap (λ l. wrote a (take n bytes) ∷ l) (calls_failed_sync marks (drop n bytes))
calls_failed_sync (FailedWrite a n ∷ marks) bytes = ap (λ l. failed_write a n ∷ l) (calls_failed_sync marks bytes)
calls_failed_sync (Synced ∷ marks) bytes = ap (λ l. synced ∷ l) (calls_failed_sync marks bytes)
calls_failed_sync (FailedSync ∷ marks) bytes = ap (λ l. failed_sync ∷ l) (calls_failed_sync marks bytes)

pub length_calls : (marks : List Mark) (bytes : List ℕ) → length (disk_calls marks bytes) ≡ length marks
length_calls [] bytes = refl
length_calls (Wrote a n ∷ marks) bytes = ap suc (length_calls marks (drop n bytes))
length_calls (FailedWrite a n ∷ marks) bytes = ap suc (length_calls marks bytes)
length_calls (Synced ∷ marks) bytes = ap suc (length_calls marks bytes)
length_calls (FailedSync ∷ marks) bytes = ap suc (length_calls marks bytes)

pub marked_push : (marks : List Mark) (at count : ℕ) → marked (marks ++ Wrote at count ∷ []) ≡ marked marks + count
marked_push [] at count = omega arith
marked_push (Wrote a n ∷ marks) at count = omega (arith, marked_push marks at count)
marked_push (FailedWrite a n ∷ marks) at count = marked_push marks at count
marked_push (Synced ∷ marks) at count = marked_push marks at count
marked_push (FailedSync ∷ marks) at count = marked_push marks at count

-- a write of which nothing is kept
pub writes_none : (at : ℕ) (piece : List ℕ) (disk : Seen) → Writes at piece disk disk
writes_none at piece disk = record {
  time = stands disk;
  during = λ image since. record { whole = image; left = only_now disk image since; torn = torn_same at (length piece) image };
}

-- a call that failed is kept where there is room for it
pub refused_writes : (m : MemoryFile) (at : ℕ) (piece : List ℕ) → Writes at piece (seen_of m) (seen_of (after_failed (failed_write at (length piece)) m))
refused_writes m at piece = by (nat_lt (length m.calls) most_calls)
  where
    by : (b : Bool) → Writes at piece (seen_of m) (seen_of (record m { calls = if b then m.calls ++ failed_write at (length piece) ∷ [] else m.calls; faults = counted m.faults }))
    by true = failed_writes m at piece (counted m.faults)
    by false = writes_none at piece (seen_of m)

pub refused_rests : (m : MemoryFile) → Rests (seen_of m) (seen_of (after_failed failed_sync m))
refused_rests m = by (nat_lt (length m.calls) most_calls)
  where
    by : (b : Bool) → Rests (seen_of m) (seen_of (record m { calls = if b then m.calls ++ failed_sync ∷ [] else m.calls; faults = counted m.faults }))
    by true = failed_rests m (counted m.faults)
    by false = rests_same (seen_of m)

pub refused_held : (m : MemoryFile) (call : DiskCall) → held_after (held_now m) call ≡ held_now m → held_now (after_failed call m) ≡ held_now m
refused_held m call same = by (nat_lt (length m.calls) most_calls)
  where
    by : (b : Bool) → held_by m.first (if b then m.calls ++ call ∷ [] else m.calls) ≡ held_now m
    by true = held_push m.first m.calls call ∙ same
    by false = refl

-- the marks stand for the calls that are kept
pub calls_refused : (n : ℕ) (marks new : List Mark) (bytes : List ℕ) (mark : Mark) (call : DiskCall) → n ≡ length marks → (n < most_calls → new ≡ marks ++ mark ∷ []) → (most_calls ≤ n → new ≡ marks)
    → disk_calls (marks ++ mark ∷ []) bytes ≡ disk_calls marks bytes ++ call ∷ [] → disk_calls new bytes ≡ kept_with (disk_calls marks bytes) call
calls_refused n marks new bytes mark call same noted full is = ⊎_elim
    (λ lt. ap (λ l. disk_calls l bytes) (noted lt) ∙ is ∙ sym (ap (λ b. if b then disk_calls marks bytes ++ call ∷ [] else disk_calls marks bytes) (lt-ltb (length (disk_calls marks bytes)) most_calls (omega (arith, lt, same, length_calls marks bytes)))))
    (λ le. ap (λ l. disk_calls l bytes) (full le) ∙ sym (ap (λ b. if b then disk_calls marks bytes ++ call ∷ [] else disk_calls marks bytes) (le-ltb (length (disk_calls marks bytes)) most_calls (omega (arith, le, same, length_calls marks bytes)))))
    (cases_lt n most_calls)

pub written_marked : (marks : List Mark) (bytes : List ℕ) → marked marks ≤ length bytes → written_by (disk_calls marks bytes) ≡ marked marks
written_marked [] bytes le = refl
written_marked (Wrote at n ∷ marks) bytes le =
    omega (arith, length-take-le n bytes (omega (arith, le)), written_marked marks (drop n bytes) (omega (arith, le, length-drop n bytes)))
written_marked (FailedWrite at n ∷ marks) bytes le = written_marked marks bytes le
written_marked (Synced ∷ marks) bytes le = written_marked marks bytes le
written_marked (FailedSync ∷ marks) bytes le = written_marked marks bytes le
