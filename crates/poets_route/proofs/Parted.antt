-- Contracts and the parts that are joined to them.
use Rattle.std.proofs.Common.{◌≡◌, refl}
use Rattle.std.proofs.lemmas.List.Sums.{fold-append}
use Rattle.poets_syntax.specs.Contract.{Contract, Success, Failure, Par}
use Rattle.poets_calculus.specs.Alike.{parts}
use Rattle.poets_calculus.specs.Normal.{par}
use Rattle.poets_calculus.proofs.Regrouping.{regrouped-more}
use Rattle.poets_norm.specs.Choices.{regrouped}
use Rattle.poets_norm.specs.code.Grouping.{beside_parts}

pub regrouped_two : (a b : Contract) → regrouped (Par a b) ≡ beside_parts (regrouped a) b
regrouped_two a b = regrouped-more a (parts b)

pub beside_two : (c a b : Contract) → beside_parts c (Par a b) ≡ beside_parts (beside_parts c a) b
beside_two c a b = fold-append Par c (parts a) (parts b)

-- `Success` leaves the other
pub par-first : (b : Contract) → par Success b ≡ b
par-first Failure = refl
par-first _ = refl

pub par-last : (a : Contract) → par a Success ≡ a
par-last Failure = refl
par-last Success = refl
par-last _ = refl
