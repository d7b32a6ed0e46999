-- A disk of which nothing is told.
use Rattle.std.specs.Prelude.{◌≡◌, ℕ, List, Option, None, Some}
use mathlib.Core.Path.{subst}
use Rattle.poets_disk.specs.Disks.{Seen, MayLeave, Since}

abbrev pub untold : Seen
untold = record { bytes = None; clock = 0; images = λ moment image. ⊥ }

abbrev is_none : Option (List ℕ) → Type 0
is_none None = Unit {0}
is_none (Some file) = ⊥

pub untold_has_none : (file : List ℕ) → untold.bytes ≡ Some file → MayLeave untold file
untold_has_none file is = subst is_none is tt

pub untold_is_silent : (start : ℕ) (image : List ℕ) → Since untold start image → ⊥
untold_is_silent start image since = since.left
