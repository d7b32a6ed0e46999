-- What holds of a disk, a history and a number of calls holds of those that are the same.
use Rattle.std.proofs.Common.{◌≡◌, ℕ, List, sym, subst}
use Rattle.poets_command.specs.Plain.{Entry}

pub carried : {D : Type 0} (Ends : D → List Entry → ℕ → Type 0) (disk given : D) (h g : List Entry) (stored n : ℕ) → given ≡ disk → g ≡ h → n ≡ stored → Ends disk h stored → Ends given g n
carried Ends disk given h g stored n at same many ends =
    subst (λ d. Ends d g n) (sym at) (subst (λ l. Ends disk l n) (sym same) (subst (Ends disk h) (sym many) ends))
