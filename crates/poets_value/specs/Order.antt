-- The order of values.
use Rattle.std.specs.Prelude.{◌≡◌, ℕ, ◌<◌, ◌<ℤ◌, ◌⊎◌, true, false}
use Rattle.std.specs.declared.cmp.Ordering.{Ordering}
use Rattle.poets_value.specs.declared.value.Resource.{Resource}
use Rattle.poets_value.specs.declared.value.Value.{Value}
use Rattle.poets_value.specs.declared.value.Value.TheVariants as V
use Rattle.poets_value.specs.contracts.value.ValueOrd.TheImpl as value_ord

-- the result of comparing two values by `cmp`
abbrev pub value_cmp : Value → Value → Ordering
value_cmp = (value_ord.ghosts).cmp

-- the place of a value's type among the types
abbrev pub type_place : Value → ℕ
type_place (V.Int n) = 0
type_place (V.Bool b) = 1
type_place (V.Agent a) = 2
type_place (V.Kind k) = 3
type_place (V.Resource r) = 4
type_place (V.Day d) = 5

-- the first resource comes before the second: resources are in the order of kinds, and then of
-- amounts
abbrev pub ResourcePrecedes : Resource → Resource → Type 0
ResourcePrecedes r s = (r.kind.id < s.kind.id) ⊎ ((r.kind ≡ s.kind) × (r.amount <ℤ s.amount))

-- the first value comes before the second
abbrev pub Precedes : Value → Value → Type 0
Precedes (V.Int m) (V.Int n) = m <ℤ n
Precedes (V.Bool a) (V.Bool b) = (a ≡ false) × (b ≡ true)
Precedes (V.Agent a) (V.Agent b) = a.id < b.id
Precedes (V.Kind k) (V.Kind l) = k.id < l.id
Precedes (V.Resource r) (V.Resource s) = ResourcePrecedes r s
Precedes (V.Day d) (V.Day e) = d <ℤ e
Precedes v w = type_place v < type_place w
