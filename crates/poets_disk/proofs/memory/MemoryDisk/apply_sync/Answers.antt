use Rattle.std.proofs.Common.{◌≡◌, ◌∙◌, ◌<◌, ◌∷◌, [], ◌++◌, length, refl, sym, ap, subst, arith}
use Rattle.poets_disk.specs.Memory.{synced, most_calls, NextFails, after_call}
use Rattle.poets_disk.specs.Kept.{disk_calls, file_of}
use Rattle.poets_disk.specs.code.Marks.{marked}
use Rattle.poets_disk.proofs.Recorded.{calls_synced, length_calls}
use Rattle.poets_disk.proofs.Rooms.{room_other, marked_synced, accepted_call}
use Rattle.poets_disk.proofs.memory.MemoryDisk.apply_sync.Goals as goal

pub invariant_of-self : goal.invariant_of-self
invariant_of-self c =
    let i = c.self.inside in
    let few : length (disk_calls i.marks.items i.written.items) < most_calls = accepted_call (file_of i) (subst (λ m. ¬ (NextFails m)) (sym c.self.view_is) c.requires) in
    let noted = c.note.ensures.noted (omega (arith, few, length_calls i.marks.items i.written.items, c.note.ensures.was)) in
    room_other i c.note.new.marks i.faults synced c.self.invariant (ap (λ l. disk_calls l i.written.items) noted ∙ calls_synced i.marks.items i.written.items) refl (λ le. le) (ap marked noted ∙ marked_synced i.marks.items)
    c.note.ensures.few (omega (arith, c.note.ensures.room, c.self.invariant.marks_room))

pub returns : goal.returns
returns c =
    let i = c.self.inside in
    let few : length (disk_calls i.marks.items i.written.items) < most_calls = accepted_call (file_of i) (subst (λ m. ¬ (NextFails m)) (sym c.self.view_is) c.requires) in
    let noted = c.note.ensures.noted (omega (arith, few, length_calls i.marks.items i.written.items, c.note.ensures.was)) in
    let calls : disk_calls c.note.new.marks.items i.written.items ≡ disk_calls i.marks.items i.written.items ++ synced ∷ [] = ap (λ l. disk_calls l i.written.items) noted ∙ calls_synced i.marks.items i.written.items in
    subst (λ v. record (file_of i) { calls = disk_calls c.note.new.marks.items i.written.items } ≡ after_call synced v) c.self.view_is (λ k. record (file_of i) { calls = calls k })
