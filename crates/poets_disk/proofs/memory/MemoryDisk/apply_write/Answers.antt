use Rattle.std.proofs.Common.{◌≡◌, ◌≤◌, ◌+◌, ◌∷◌, [], ◌++◌, length, sym, subst, arith}
use Rattle.poets_disk.specs.Memory.{wrote, held_now, WriteFails, after_call}
use Rattle.poets_disk.specs.Kept.{disk_calls, file_of}
use Rattle.poets_disk.specs.code.Marks.{marked}
use Rattle.poets_disk.proofs.Recorded.{length_calls, written_marked}
use Rattle.poets_disk.proofs.Rooms.{room_wrote, wrote_calls, accepted_write}
use Rattle.poets_disk.proofs.memory.MemoryDisk.apply_write.Goals as goal

pub overwrite-requires-clause-room : goal.overwrite-requires-clause-room
overwrite-requires-clause-room c =
    let i = c.self.inside in
    let t = accepted_write (file_of i) c.args.at (length c.args.piece.now) (subst (λ m. ¬ (WriteFails m c.args.at (length c.args.piece.now))) (sym c.self.view_is) c.requires.accepted) in
    omega (arith, t.1, c.self.invariant.held_room)

pub extend-requires : goal.extend-requires
extend-requires c =
    let i = c.self.inside in
    let t = accepted_write (file_of i) c.args.at (length c.args.piece.now) (subst (λ m. ¬ (WriteFails m c.args.at (length c.args.piece.now))) (sym c.self.view_is) c.requires.accepted) in
    let all : marked i.marks.items ≤ length i.written.items = omega (arith, c.self.invariant.pieces, i.written.ok) in
    omega (arith, t.2, written_marked i.marks.items i.written.items all, c.self.invariant.pieces, c.self.invariant.written_room)

pub invariant_of-self : goal.invariant_of-self
invariant_of-self c =
    let i = c.self.inside in
    let r = c.self.invariant in
    let piece = c.args.piece.now in
    let t = accepted_write (file_of i) c.args.at (length piece) (subst (λ m. ¬ (WriteFails m c.args.at (length piece))) (sym c.self.view_is) c.requires.accepted) in
    let le : c.args.at ≤ length (held_now (file_of i)) = subst (λ m. c.args.at ≤ length (held_now m)) (sym c.self.view_is) c.requires.inside in
    let all : marked i.marks.items ≤ length i.written.items = omega (arith, r.pieces, c.extend.ensures.was) in
    let written = written_marked i.marks.items i.written.items all in
    let noted = c.note.ensures.noted (omega (arith, t.0, length_calls i.marks.items i.written.items, c.note.ensures.was)) in
    room_wrote i r c.extend.ensures.was c.extend.new.written c.note.new.marks c.args.at piece noted c.extend.ensures.written
    c.overwrite.new.held le t.1 (omega (arith, t.2, written, r.pieces)) c.overwrite.ensures.held c.overwrite.ensures.len c.extend.ensures.len
    (omega (arith, c.overwrite.ensures.room, r.held_room)) (omega (arith, c.extend.ensures.room, r.written_room)) c.note.ensures.few (omega (arith, c.note.ensures.room, r.marks_room))

pub returns : goal.returns
returns c =
    let i = c.self.inside in
    let piece = c.args.piece.now in
    let t = accepted_write (file_of i) c.args.at (length piece) (subst (λ m. ¬ (WriteFails m c.args.at (length piece))) (sym c.self.view_is) c.requires.accepted) in
    let noted = c.note.ensures.noted (omega (arith, t.0, length_calls i.marks.items i.written.items, c.note.ensures.was)) in
    let calls : disk_calls c.note.new.marks.items c.extend.new.written.items ≡ disk_calls i.marks.items i.written.items ++ wrote c.args.at piece ∷ [] =
    wrote_calls i c.self.invariant c.extend.ensures.was c.extend.new.written c.note.new.marks c.args.at piece noted c.extend.ensures.written in
    subst (λ v. record (file_of i) { calls = disk_calls c.note.new.marks.items c.extend.new.written.items } ≡ after_call (wrote c.args.at piece) v) c.self.view_is (λ k. record (file_of i) { calls = calls k })
