use Rattle.std.proofs.Common.{◌≡◌, ◌∙◌, ⊎_elim, vec_len, refl, ap, subst, arith}
use Rattle.std.proofs.lemmas.Bool.{cases_lt}
use Rattle.poets_io.specs.Causes.{counted}
use Rattle.poets_disk.specs.Memory.{failed_sync, most_calls, kept_with, after_failed}
use Rattle.poets_disk.specs.Kept.{disk_calls, file_of}
use Rattle.poets_disk.specs.code.Marks.{marked}
use Rattle.poets_disk.specs.declared.memory.Mark.TheVariants.{FailedSync}
use Rattle.poets_disk.proofs.Recorded.{calls_failed_sync, calls_refused}
use Rattle.poets_disk.proofs.Rooms.{room_other, room_full, marked_failed_sync}
use Rattle.poets_disk.proofs.memory.MemoryDisk.refuse_sync.Goals as goal

pub invariant_of-self : goal.invariant_of-self
invariant_of-self c =
    let i = c.self.inside in
    let m = c.note.new.marks in
    let f = c.saturating_add-self-inside.result in
    ⊎_elim
    (λ lt. room_other i m f failed_sync c.self.invariant (ap (λ l. disk_calls l i.written.items) (c.note.ensures.noted lt) ∙ calls_failed_sync i.marks.items i.written.items) refl (λ le. le)
    (ap marked (c.note.ensures.noted lt) ∙ marked_failed_sync i.marks.items) c.note.ensures.few (omega (arith, c.note.ensures.room, c.self.invariant.marks_room)))
    (λ le. room_full i m f c.self.invariant (c.note.ensures.full le) c.note.ensures.few (omega (arith, c.note.ensures.room, c.self.invariant.marks_room)))
    (cases_lt (vec_len i.marks) most_calls)

pub returns-clause-state : goal.returns-clause-state
returns-clause-state c =
    let i = c.self.inside in
    let m = c.note.new.marks.items in
    let f = c.saturating_add-self-inside.result in
    let calls : disk_calls m i.written.items ≡ kept_with (disk_calls i.marks.items i.written.items) failed_sync =
    calls_refused (vec_len i.marks) i.marks.items m i.written.items FailedSync failed_sync c.note.ensures.was c.note.ensures.noted c.note.ensures.full (calls_failed_sync i.marks.items i.written.items) in
    let faults : f ≡ counted i.faults = c.saturating_add-self-inside.ensures in
    subst (λ v. record (file_of i) { calls = disk_calls m i.written.items; faults = f } ≡ after_failed failed_sync v) c.self.view_is (λ k. record (file_of i) { calls = calls k; faults = faults k })
