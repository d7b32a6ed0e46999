-- The orders of names and of values are total.
use Rattle.std.proofs.Common.{◌≡◌, ◌↔◌, ◌<◌, arith}
use Rattle.std.proofs.lemmas.Grind.{common_steps}
use Rattle.std.specs.Cmp.{IsTotalOrder}
use Rattle.std.specs.declared.cmp.Ordering.TheVariants.{Less, Equal}
use Rattle.poets_value.specs.declared.value.Name.{Name}
use Rattle.poets_value.specs.contracts.value.NameOrd.TheImpl.Laws as name_laws
use Rattle.poets_value.specs.contracts.value.ValueOrd.TheImpl.Laws as value_laws
use Rattle.poets_value.specs.Names.{name_cmp}
use Rattle.poets_value.specs.Order.{value_cmp}

pub name_cmp_total : IsTotalOrder name_cmp
name_cmp_total = name_laws.total-law

pub value_cmp_total : IsTotalOrder value_cmp
value_cmp_total = value_laws.total-law

-- the lesser name has the lesser place
pub name_cmp-less : (a b : Name) → (name_cmp a b ≡ Less) ↔ (a.id < b.id)
name_cmp-less a b = grind (arith, common_steps)

-- equal names are one
pub name_cmp-equal : (a b : Name) → (name_cmp a b ≡ Equal) ↔ (a ≡ b)
name_cmp-equal a b = grind (arith, common_steps)
