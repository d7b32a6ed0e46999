use Rattle.std.proofs.Common.{◌≡◌, ◌%◌, Some, ◌∙◌, IfOk, sym, ap, arith}
use Rattle.std.proofs.lemmas.Result.{IfOk-weaker}
use Rattle.poets_disk.specs.Disks.{MayLeave}
use Rattle.poets_disk.specs.Memory.{held_now, WasSynced, IsFilled, seen_of}
use Rattle.poets_disk.specs.MemoryLaws.{held_is_left}
use Rattle.poets_disk.specs.Kept.{disk_calls}
use Rattle.poets_disk.specs.code.Marks.{marked}
use Rattle.poets_disk.proofs.Picking.{synced_left, filled_left, kept_slices, synced_slices, filled_slices, kept_now}
use Rattle.poets_disk.proofs.memory.MemoryDisk.left.Goals as goal

pub returns-then-pick-eq0-clause-held : goal.returns-then-pick-eq0-clause-held
returns-then-pick-eq0-clause-held c =
    λ zero. IfOk-weaker c.copied.result (λ made. made.items ≡ c.as_slice.result.now) (λ image. image.items ≡ held_now c.args.self.now)
    (λ image is. is ∙ c.as_slice.ensures.value ∙ c.self.invariant.held ∙ ap held_now c.self.view_is) c.copied.ensures

pub returns-then-pick-eq0-clause-sure : goal.returns-then-pick-eq0-clause-sure
returns-then-pick-eq0-clause-sure c = λ one. absurd (omega (arith, one, c.if-pick-eq0.true))

pub returns-then-pick-eq0-clause-filled : goal.returns-then-pick-eq0-clause-filled
returns-then-pick-eq0-clause-filled c = λ more. absurd (omega (arith, more, c.if-pick-eq0.true))

pub returns-then-pick-eq0-clause-image : goal.returns-then-pick-eq0-clause-image
returns-then-pick-eq0-clause-image c =
    IfOk-weaker c.copied.result (λ made. made.items ≡ c.as_slice.result.now) (λ image. MayLeave (seen_of c.args.self.now) image.items)
    (λ image is. held_is_left c.args.self.now image.items (ap Some (sym (is ∙ c.as_slice.ensures.value ∙ c.self.invariant.held ∙ ap held_now c.self.view_is)))) c.copied.ensures

pub synced_image-requires-clause-kept : goal.synced_image-requires-clause-kept
synced_image-requires-clause-kept c =
    kept_slices c.self.inside c.args.self.now c.as_slice-first.result.now c.as_slice-written.result.now c.as_slice-marks.result.now c.self.view_is c.as_slice-first.ensures c.as_slice-marks.ensures.value c.as_slice-written.ensures.value c.self.invariant

pub synced_image-requires-clause-enough : goal.synced_image-requires-clause-enough
synced_image-requires-clause-enough c = omega (arith, ap marked c.as_slice-marks.ensures.value, c.self.invariant.pieces, c.as_slice-written.ensures.len)

pub returns-then-pick-eq1-clause-held : goal.returns-then-pick-eq1-clause-held
returns-then-pick-eq1-clause-held c = λ zero. absurd (omega (arith, zero, c.if-pick-eq1.true))

pub returns-then-pick-eq1-clause-sure : goal.returns-then-pick-eq1-clause-sure
returns-then-pick-eq1-clause-sure c =
    λ one. IfOk-weaker c.synced_image.result (λ image. WasSynced c.as_slice-first.result.now (disk_calls c.as_slice-marks.result.now c.as_slice-written.result.now) image.items) (λ image. WasSynced c.args.self.now.first c.args.self.now.calls image.items)
    (λ image is. synced_slices c.self.inside c.args.self.now c.as_slice-first.result.now c.as_slice-written.result.now c.as_slice-marks.result.now c.self.view_is c.as_slice-first.ensures c.as_slice-marks.ensures.value c.as_slice-written.ensures.value image.items is) c.synced_image.ensures

pub returns-then-pick-eq1-clause-filled : goal.returns-then-pick-eq1-clause-filled
returns-then-pick-eq1-clause-filled c = λ more. absurd (omega (arith, more, c.if-pick-eq1.true))

pub returns-then-pick-eq1-clause-image : goal.returns-then-pick-eq1-clause-image
returns-then-pick-eq1-clause-image c =
    IfOk-weaker c.synced_image.result (λ image. WasSynced c.as_slice-first.result.now (disk_calls c.as_slice-marks.result.now c.as_slice-written.result.now) image.items) (λ image. MayLeave (seen_of c.args.self.now) image.items)
    (λ image is. synced_left c.args.self.now image.items (synced_slices c.self.inside c.args.self.now c.as_slice-first.result.now c.as_slice-written.result.now c.as_slice-marks.result.now c.self.view_is c.as_slice-first.ensures c.as_slice-marks.ensures.value c.as_slice-written.ensures.value image.items is)) c.synced_image.ensures

pub filled_image-requires-clause-kept : goal.filled_image-requires-clause-kept
filled_image-requires-clause-kept c =
    kept_slices c.self.inside c.args.self.now c.as_slice-first.result.now c.as_slice-written.result.now c.as_slice-marks.result.now c.self.view_is c.as_slice-first.ensures c.as_slice-marks.ensures.value c.as_slice-written.ensures.value c.self.invariant

pub filled_image-requires-clause-enough : goal.filled_image-requires-clause-enough
filled_image-requires-clause-enough c = omega (arith, ap marked c.as_slice-marks.ensures.value, c.self.invariant.pieces, c.as_slice-written.ensures.len)

pub returns-clause-held : goal.returns-clause-held
returns-clause-held c = λ zero. absurd (c.if-pick-eq0.false zero)

pub returns-clause-sure : goal.returns-clause-sure
returns-clause-sure c = λ one. absurd (c.if-pick-eq1.false one)

pub returns-clause-filled : goal.returns-clause-filled
returns-clause-filled c =
    λ more. IfOk-weaker c.filled_image.result (λ image. IsFilled (c.args.pick % 256) c.as_slice-first.result.now (disk_calls c.as_slice-marks.result.now c.as_slice-written.result.now) image.items) (λ image. IsFilled (c.args.pick % 256) c.args.self.now.first c.args.self.now.calls image.items)
    (λ image is. filled_slices c.self.inside c.args.self.now c.as_slice-first.result.now c.as_slice-written.result.now c.as_slice-marks.result.now c.self.view_is c.as_slice-first.ensures c.as_slice-marks.ensures.value c.as_slice-written.ensures.value (c.args.pick % 256) image.items is) c.filled_image.ensures

pub returns-clause-image : goal.returns-clause-image
returns-clause-image c =
    IfOk-weaker c.filled_image.result (λ image. IsFilled (c.args.pick % 256) c.as_slice-first.result.now (disk_calls c.as_slice-marks.result.now c.as_slice-written.result.now) image.items) (λ image. MayLeave (seen_of c.args.self.now) image.items)
    (λ image is. filled_left (c.args.pick % 256) c.args.self.now image.items (kept_now c.self.inside c.args.self.now c.as_slice-first.result.now c.as_slice-written.result.now c.as_slice-marks.result.now c.self.view_is c.as_slice-first.ensures c.as_slice-marks.ensures.value c.as_slice-written.ensures.value c.self.invariant) (filled_slices c.self.inside c.args.self.now c.as_slice-first.result.now c.as_slice-written.result.now c.as_slice-marks.result.now c.self.view_is c.as_slice-first.ensures c.as_slice-marks.ensures.value c.as_slice-written.ensures.value (c.args.pick % 256) image.items is)) c.filled_image.ensures
