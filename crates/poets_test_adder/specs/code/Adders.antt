-- What contracts see of an adder.
use Rattle.std.specs.Prelude.{ℕ}
use Rattle.poets_test_adder.specs.declared.adder.Adder.{Adder}

-- the most that an amount may be, which is the adder's frame
abbrev pub most_of : Adder → ℕ
most_of adder = adder.most
