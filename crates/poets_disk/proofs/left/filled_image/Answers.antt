use Rattle.std.proofs.Common.{◌∙◌}
use Rattle.poets_disk.specs.Kept.{disk_calls}
use Rattle.poets_disk.proofs.Picking.{front_kept, front_enough, kept_short, back_kept, back_enough, is_filled}
use Rattle.poets_disk.proofs.left.filled_image.Goals as goal

pub with_room-requires : goal.with_room-requires
with_room-requires c = kept_short c.args.first.now (disk_calls c.args.marks.now c.args.written.now) c.requires.kept

pub replay-rest-requires-clause-kept : goal.replay-rest-requires-clause-kept
replay-rest-requires-clause-kept c =
    front_kept c.args.first.now c.in_ok-file.file.items c.args.marks.now c.split_at.result.0.now c.args.written.now c.synced.result c.in_ok-file.ensures.bytes c.split_at.ensures.front c.requires.kept

pub replay-rest-requires-clause-enough : goal.replay-rest-requires-clause-enough
replay-rest-requires-clause-enough c = front_enough c.args.marks.now c.split_at.result.0.now c.args.written.now c.synced.result c.split_at.ensures.front c.requires.enough

pub replay-requires-clause-kept : goal.replay-requires-clause-kept
replay-requires-clause-kept c =
    back_kept c.args.byte c.args.marks.now c.split_at.result.0.now c.split_at.result.1.now c.args.written.now c.replay-rest.result.now c.deref.result.now c.synced.result
    c.split_at.ensures.front c.split_at.ensures.back c.replay-rest.ensures.left (c.deref.ensures.value ∙ c.in_ok-bytes.ensures) c.requires.enough
    c.args.first.now c.in_ok-file.file.items c.replay-rest.new.file.items c.in_ok-file.ensures.bytes c.replay-rest.ensures.file c.requires.kept

pub replay-requires-clause-enough : goal.replay-requires-clause-enough
replay-requires-clause-enough c =
    back_enough c.args.byte c.args.marks.now c.split_at.result.0.now c.split_at.result.1.now c.args.written.now c.replay-rest.result.now c.deref.result.now c.synced.result
    c.split_at.ensures.front c.split_at.ensures.back c.replay-rest.ensures.left (c.deref.ensures.value ∙ c.in_ok-bytes.ensures) c.requires.enough

pub returns : goal.returns
returns c =
    is_filled c.args.byte c.args.marks.now c.split_at.result.0.now c.split_at.result.1.now c.args.written.now c.replay-rest.result.now c.deref.result.now c.synced.result
    c.split_at.ensures.front c.split_at.ensures.back c.replay-rest.ensures.left (c.deref.ensures.value ∙ c.in_ok-bytes.ensures) c.requires.enough
    c.args.first.now c.in_ok-file.file.items c.replay-rest.new.file.items c.in_ok-file.ensures.bytes c.replay-rest.ensures.file c.synced.ensures c.replay.new.file.items c.in_ok-image.image.items c.replay.ensures.file (c.in_ok-image.ensures ∙ c.deref-2.ensures.value)
