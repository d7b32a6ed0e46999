use Rattle.std.proofs.Common.{◌≡◌, ◌≤◌, ◌<◌, ◌↔◌, ◌⊎◌, ⊎_elim, inl, inr, ◌+◌, IsTrue, length, ap, subst, arith}
use Rattle.poets_value.specs.Limits.{longest_text}
use Rattle.poets_disk.specs.Memory.{PassesRoom, written_by}
use Rattle.poets_disk.specs.Kept.{disk_calls}
use Rattle.poets_disk.specs.code.Marks.{marked}
use Rattle.poets_disk.proofs.Recorded.{written_marked}
use Rattle.poets_disk.proofs.memory.MemoryDisk.refuses_write.Goals as goal

pub returns : goal.returns
returns c =
    let i = c.self.inside in
    let r = c.is_refused.result in
    let b = c.refuses_call-refuses.result in
    let long : length c.as_slice-written.result.now ≡ length i.written.items = ap length c.as_slice-written.ensures.value in
    let all : marked i.marks.items ≤ length i.written.items = omega (arith, long, c.as_slice-written.ensures.len, c.self.invariant.pieces) in
    let same : length c.as_slice-written.result.now ≡ written_by (disk_calls i.marks.items i.written.items) = omega (arith, long, c.as_slice-written.ensures.len, c.self.invariant.pieces, written_marked i.marks.items i.written.items all) in
    let room : IsTrue r ↔ (IsTrue b ⊎ ((longest_text < c.args.at + c.args.count) ⊎ (longest_text < written_by (disk_calls i.marks.items i.written.items) + c.args.count))) =
    subst (λ n. IsTrue r ↔ (IsTrue b ⊎ ((longest_text < c.args.at + c.args.count) ⊎ (longest_text < n + c.args.count)))) same c.is_refused.ensures in
    let refused : IsTrue r ↔ (IsTrue b ⊎ PassesRoom c.args.self.now c.args.at c.args.count) = subst (λ m. IsTrue r ↔ (IsTrue b ⊎ PassesRoom m c.args.at c.args.count)) c.self.view_is room in (
      λ yes. ⊎_elim (λ call. inl (c.refuses_call-refuses.ensures.0 call)) (λ past. inr past) (refused.0 yes),
      λ fails. refused.1 (⊎_elim (λ call. inl (c.refuses_call-refuses.ensures.1 call)) (λ past. inr past) fails),
    )
