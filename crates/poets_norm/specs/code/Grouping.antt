-- Parallel parts grouped to the left.
use Rattle.std.specs.Prelude.{fold}
use Rattle.poets_syntax.specs.Contract.{Contract, Par}
use Rattle.poets_calculus.specs.Alike.{parts}
use Rattle.poets_norm.specs.Choices.{regrouped}

-- a contract with the parts of another joined to it by `||`, from the left
abbrev pub beside_parts : Contract → Contract → Contract
beside_parts c d = fold Par c (parts d)

-- the parts of two contracts side by side, grouped to the left
abbrev pub joined_parts : Contract → Contract → Contract
joined_parts c d = regrouped (Par c d)
