use Rattle.std.proofs.Common.{◌∙◌}
use Rattle.poets_disk.specs.Kept.{disk_calls}
use Rattle.poets_disk.proofs.Picking.{front_kept, front_enough, kept_short, was_synced}
use Rattle.poets_disk.proofs.left.synced_image.Goals as goal

pub with_room-requires : goal.with_room-requires
with_room-requires c = kept_short c.args.first.now (disk_calls c.args.marks.now c.args.written.now) c.requires.kept

pub replay-requires-clause-kept : goal.replay-requires-clause-kept
replay-requires-clause-kept c =
    front_kept c.args.first.now c.in_ok-file.file.items c.args.marks.now c.split_at.result.0.now c.args.written.now c.synced.result c.in_ok-file.ensures.bytes c.split_at.ensures.front c.requires.kept

pub replay-requires-clause-enough : goal.replay-requires-clause-enough
replay-requires-clause-enough c = front_enough c.args.marks.now c.split_at.result.0.now c.args.written.now c.synced.result c.split_at.ensures.front c.requires.enough

pub returns : goal.returns
returns c =
    was_synced c.args.marks.now c.split_at.result.0.now c.args.written.now c.synced.result c.synced.ensures c.split_at.ensures.front
    c.args.first.now c.in_ok-file.file.items c.replay.new.file.items c.in_ok-file.ensures.bytes c.replay.ensures.file c.in_ok-image.image.items (c.in_ok-image.ensures ∙ c.deref.ensures.value)
