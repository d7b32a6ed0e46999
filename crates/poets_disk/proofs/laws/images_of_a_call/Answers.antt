use Rattle.poets_disk.proofs.Moments.{since_call}
use Rattle.poets_disk.proofs.laws.images_of_a_call.Goals as goal

pub returns : goal.returns
returns g c = λ old new start image time early. since_call (g.D.Disk.seen old) (g.D.Disk.seen new) start image time early
