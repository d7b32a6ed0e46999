-- A disk that was not touched.
use Rattle.std.proofs.Common.{◌≡◌, sym, subst}
use Rattle.poets_disk.specs.Disks.{GoesOn, Seen}
use Rattle.poets_disk.proofs.Moments.{stands}

pub time_stands : {D : Type 0} (seen : D → Seen) (disk disk' : D) → disk' ≡ disk → GoesOn (seen disk) (seen disk')
time_stands seen disk disk' same = subst (λ d. GoesOn (seen disk) (seen d)) (sym same) (stands (seen disk))
