-- The counter of evaluations, a `u64`.
use Rattle.std.specs.Prelude.{ℕ, ◌+◌, ◌-◌, ◌^◌, Bool, min, if◌then◌else◌}

-- one more, but never past the greatest `u64`
abbrev pub one_more : ℕ → ℕ
one_more n = min (n + 1) (2 ^ 64 - 1)

-- one more where the test holds, and otherwise the same number
abbrev pub one_more_if : Bool → ℕ → ℕ
one_more_if test n = if test then one_more n else n
