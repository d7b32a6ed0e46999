-- How a disk in memory as it is kept goes on by a call.
use Rattle.std.proofs.Common.{◌≡◌, ◌⊎◌, ◌↔◌, inl, inr, ⊎_elim, ℕ, ◌+◌, ◌<◌, ◌≤◌, Bool, true, false, true≢false, IsTrue, List, [], ◌∷◌, ◌++◌, length, Vec, vec_len, vec_capacity, max, refl, sym, ◌∙◌, ap, subst, arith, length-append}
use Rattle.std.specs.declared.alloc.Global.{Global}
use Rattle.std.proofs.lemmas.Bool.{cases_lt}
use Rattle.poets_value.specs.Limits.{longest_text}
use Rattle.poets_disk.specs.Disks.{over}
use Rattle.poets_disk.specs.Memory.{DiskCall, wrote, failed_write, synced, failed_sync, MemoryFile, held_after, held_by, written_by, most_calls, NextFails, WriteFails}
use Rattle.poets_disk.specs.declared.memory.Mark.{Mark}
use Rattle.poets_disk.specs.declared.memory.Mark.TheVariants.{Wrote, FailedWrite, Synced, FailedSync}
use Rattle.poets_disk.specs.declared.memory.MemoryDisk.TheInside.{Inside}
use Rattle.poets_disk.specs.Kept.{disk_calls}
use Rattle.poets_disk.specs.code.Marks.{marked, AreKept, HasRoom}
use Rattle.poets_disk.proofs.Recorded.{held_push, calls_wrote, marked_push, length_over}

pub kept_push : (held : List ℕ) (calls : List DiskCall) (call : DiskCall) → AreKept held calls → AreKept (held_by held calls) (call ∷ []) → AreKept held (calls ++ call ∷ [])
kept_push held [] call a b = b
kept_push held (wrote at piece ∷ calls) call a b = (a.0, a.1, kept_push (over at piece held) calls call a.2 b)
kept_push held (failed_write at n ∷ calls) call a b = kept_push held calls call a b
kept_push held (synced ∷ calls) call a b = kept_push held calls call a b
kept_push held (failed_sync ∷ calls) call a b = kept_push held calls call a b

pub kept_end : (held : List ℕ) (calls : List DiskCall) → AreKept held calls → length (held_by held calls) ≤ longest_text
kept_end held [] a = a
kept_end held (wrote at piece ∷ calls) a = kept_end (over at piece held) calls a.2
kept_end held (failed_write at n ∷ calls) a = kept_end held calls a
kept_end held (synced ∷ calls) a = kept_end held calls a
kept_end held (failed_sync ∷ calls) a = kept_end held calls a

-- a call that is no successful write is kept
pub room_other : (i : Inside) (m : Vec Mark Global) (f : ℕ) (call : DiskCall) → HasRoom i → disk_calls m.items i.written.items ≡ disk_calls i.marks.items i.written.items ++ call ∷ []
    → held_after (held_by i.first.items (disk_calls i.marks.items i.written.items)) call ≡ held_by i.first.items (disk_calls i.marks.items i.written.items)
    → (length (held_by i.first.items (disk_calls i.marks.items i.written.items)) ≤ longest_text → AreKept (held_by i.first.items (disk_calls i.marks.items i.written.items)) (call ∷ []))
    → marked m.items ≡ marked i.marks.items → vec_len m ≤ most_calls → most_calls ≤ vec_capacity m → HasRoom (record i { marks = m; faults = f })
room_other i m f call h calls same one bytes few room =
    let first = i.first.items in
    let before = disk_calls i.marks.items i.written.items in
    record {
      kept = subst (AreKept first) (sym calls) (kept_push first before call h.kept (one (kept_end first before h.kept)));
      held = h.held ∙ sym same ∙ sym (held_push first before call) ∙ ap (held_by first) (sym calls);
      pieces = bytes ∙ h.pieces;
      held_short = h.held_short;
      held_room = h.held_room;
      written_short = h.written_short;
      written_room = h.written_room;
      few = few;
      marks_room = room;
    }

-- a call for which there was no room is not kept
pub room_full : (i : Inside) (m : Vec Mark Global) (f : ℕ) → HasRoom i → m.items ≡ i.marks.items → vec_len m ≤ most_calls → most_calls ≤ vec_capacity m → HasRoom (record i { marks = m; faults = f })
room_full i m f h is few room = record {
  kept = subst (λ l. AreKept i.first.items (disk_calls l i.written.items)) (sym is) h.kept;
  held = h.held ∙ ap (λ l. held_by i.first.items (disk_calls l i.written.items)) (sym is);
  pieces = ap marked is ∙ h.pieces;
  held_short = h.held_short;
  held_room = h.held_room;
  written_short = h.written_short;
  written_room = h.written_room;
  few = few;
  marks_room = room;
}

pub marked_synced : (marks : List Mark) → marked (marks ++ Synced ∷ []) ≡ marked marks
marked_synced [] = refl
marked_synced (Wrote a n ∷ marks) = ap (λ k. n + k) (marked_synced marks)
marked_synced (FailedWrite a n ∷ marks) = marked_synced marks
marked_synced (Synced ∷ marks) = marked_synced marks
marked_synced (FailedSync ∷ marks) = marked_synced marks

pub marked_failed_sync : (marks : List Mark) → marked (marks ++ FailedSync ∷ []) ≡ marked marks
marked_failed_sync [] = refl
marked_failed_sync (Wrote a n ∷ marks) = ap (λ k. n + k) (marked_failed_sync marks)
marked_failed_sync (FailedWrite a n ∷ marks) = marked_failed_sync marks
marked_failed_sync (Synced ∷ marks) = marked_failed_sync marks
marked_failed_sync (FailedSync ∷ marks) = marked_failed_sync marks

pub marked_failed_write : (marks : List Mark) (at count : ℕ) → marked (marks ++ FailedWrite at count ∷ []) ≡ marked marks
marked_failed_write [] at count = refl
marked_failed_write (Wrote a n ∷ marks) at count = ap (λ k. n + k) (marked_failed_write marks at count)
marked_failed_write (FailedWrite a n ∷ marks) at count = marked_failed_write marks at count
marked_failed_write (Synced ∷ marks) at count = marked_failed_write marks at count
marked_failed_write (FailedSync ∷ marks) at count = marked_failed_write marks at count

-- the calls with one that was written
module _ (i : Inside) (r : HasRoom i) (i_long : vec_len i.written ≡ length i.written.items) (w : Vec ℕ Global) (m : Vec Mark Global) (at : ℕ) (piece : List ℕ)
    (m_is : m.items ≡ i.marks.items ++ Wrote at (length piece) ∷ []) (w_is : w.items ≡ i.written.items ++ piece) where
  pub wrote_calls : disk_calls m.items w.items ≡ disk_calls i.marks.items i.written.items ++ wrote at piece ∷ []
  wrote_calls = (λ k. disk_calls (m_is k) (w_is k)) ∙ calls_wrote i.marks.items i.written.items at piece (r.pieces ∙ i_long)

  -- a successful write is kept
  pub room_wrote : (h : Vec ℕ Global) → at ≤ length (held_by i.first.items (disk_calls i.marks.items i.written.items)) → at + length piece ≤ longest_text
      → vec_len i.written + length piece ≤ longest_text → h.items ≡ over at piece i.held.items → vec_len h ≡ length h.items → vec_len w ≡ length w.items
      → longest_text ≤ vec_capacity h → longest_text ≤ vec_capacity w → vec_len m ≤ most_calls → most_calls ≤ vec_capacity m
      → HasRoom (record i { held = h; written = w; marks = m })
  room_wrote h le fits short h_is h_long w_long h_room w_room few room =
      let first = i.first.items in
      let before = disk_calls i.marks.items i.written.items in
      let long : length (over at piece (held_by first before)) ≡ max (length (held_by first before)) (at + length piece) = length_over at piece (held_by first before) le in
      let calls : disk_calls m.items w.items ≡ before ++ wrote at piece ∷ [] = wrote_calls in
      let held_is : h.items ≡ over at piece (held_by first before) = h_is ∙ ap (over at piece) r.held in
      record {
        kept = subst (AreKept first) (sym calls) (kept_push first before (wrote at piece) r.kept (le, fits, omega (arith, long, fits, kept_end first before r.kept)));
        held = held_is ∙ sym (held_push first before (wrote at piece)) ∙ ap (held_by first) (sym calls);
        pieces = omega (arith, ap marked m_is, marked_push i.marks.items at (length piece), r.pieces, w_long, ap length w_is, length-append i.written.items piece, i_long);
        held_short = omega (arith, h_long, ap length held_is, long, fits, kept_end first before r.kept);
        held_room = h_room;
        written_short = omega (arith, w_long, ap length w_is, length-append i.written.items piece, i_long, short);
        written_room = w_room;
        few = few;
        marks_room = room;
      }

-- what holds of a call that does not fail
pub accepted_call : (m : MemoryFile) → ¬ (NextFails m) → length m.calls < most_calls
accepted_call m never = ⊎_elim (λ lt. lt) (λ le. absurd (never (inr le))) (cases_lt (length m.calls) most_calls)

pub accepted_write : (m : MemoryFile) (at count : ℕ) → ¬ (WriteFails m at count) → (length m.calls < most_calls) × (at + count ≤ longest_text) × (written_by m.calls + count ≤ longest_text)
accepted_write m at count never = (
  accepted_call m (λ fails. never (inl fails)),
  ⊎_elim (λ lt. absurd (never (inr (inl lt)))) (λ le. le) (cases_lt longest_text (at + count)),
  ⊎_elim (λ lt. absurd (never (inr (inr lt)))) (λ le. le) (cases_lt longest_text (written_by m.calls + count)),
)

-- what is told by a test that answers no
pub answers_no : (b : Bool) (P : Type 0) → (IsTrue b ↔ P) → b ≡ false → ¬ P
answers_no b P tells never p = true≢false (sym (tells.1 p) ∙ never)
