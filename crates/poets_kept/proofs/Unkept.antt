-- A run without a disk, as one with a disk tells it.
use Rattle.std.proofs.Common.{◌≡◌, ℕ, List, sym, subst}
use Rattle.poets_command.specs.Plain.{Entry}
use Rattle.poets_top.specs.Runs.{Ends}
use Rattle.poets_words.specs.declared.mode.Mode.{Mode}
use Rattle.poets_writing.specs.Writing.{Stream}

-- the run ended as told
pub ends_told : {source source' sink sink' : Stream} {mode : Mode} (status asked : ℕ) (h g : List Entry) → status ≡ asked → h ≡ g → Ends source source' sink sink' asked g mode → Ends source source' sink sink' status h mode
ends_told {source} {source'} {sink} {sink'} {mode} status asked h g same_status same_history ends =
    subst (λ s. Ends source source' sink sink' s h mode) (sym same_status) (subst (λ e. Ends source source' sink sink' asked e mode) (sym same_history) ends)
