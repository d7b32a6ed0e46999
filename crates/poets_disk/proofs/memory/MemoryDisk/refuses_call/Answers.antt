use Rattle.std.proofs.Common.{◌≡◌, ◌≤◌, ◌∙◌, ◌↔◌, ◌⊎◌, ◌+◌, Contains, IsTrue, length, sym, ap, subst}
use Rattle.poets_disk.specs.Memory.{NextFails, most_calls}
use Rattle.poets_disk.specs.Kept.{disk_calls}
use Rattle.poets_disk.proofs.Recorded.{length_calls}
use Rattle.poets_disk.proofs.memory.MemoryDisk.refuses_call.Goals as goal

pub returns : goal.returns
returns c =
    let i = c.self.inside in
    let r = c.is_named.result in
    let count : length c.as_slice-marks.result.now ≡ length (disk_calls i.marks.items i.written.items) = ap length c.as_slice-marks.ensures.value ∙ sym (length_calls i.marks.items i.written.items) in
    subst (λ m. IsTrue r ↔ NextFails m) c.self.view_is
    (subst (λ n. IsTrue r ↔ (Contains i.fails.items (n + 1) ⊎ (most_calls ≤ n))) count
    (subst (λ l. IsTrue r ↔ (Contains l (length c.as_slice-marks.result.now + 1) ⊎ (most_calls ≤ length c.as_slice-marks.result.now))) c.as_slice-named.ensures c.is_named.ensures))
