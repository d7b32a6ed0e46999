-- For which machine and how many clerks a turnstile is made, and whose entries its history has.
use Rattle.std.specs.Prelude.{ℕ, ◌<◌, ◌≤◌, List, All}
use Rattle.poets_turn.specs.declared.view.Setting.{Setting}

-- the machine's frame, and how many clerks there are
abbrev pub setting_of : {F : Type 0} → F → ℕ → Setting F
setting_of f clerks = record { frame = f; clerks = clerks }

-- each entry is under the number of one of so many clerks
abbrev pub OnlyClerks : {C : Type 0} → ℕ → List (ℕ × C) → Type 0
OnlyClerks count entries = All (λ e. (0 < e.0) × (e.0 ≤ count)) entries
