-- The keys of a report's rows, and their order.
use Rattle.std.specs.Prelude.{Bool, true, false, Option, Some, None}
use Rattle.std.specs.declared.cmp.Ordering.{Ordering}
use Rattle.std.specs.declared.cmp.Ordering.TheVariants.{Less, Equal, Greater}
use Rattle.poets_value.specs.declared.value.Value.{Value}
use Rattle.poets_value.specs.Order.{Precedes, value_cmp}
use Rattle.poets_expr.specs.Val.{same_value}

-- the key of a row: a value, or undefined
abbrev pub Key : Type 0
Key = Option Value

-- whether two keys are one
abbrev pub same_key : Key → Key → Bool
same_key (Some v) (Some w) = same_value v w
same_key None None = true
same_key _ _ = false

-- the first key comes before the second: keys are in the order of values, and undefined is last
abbrev pub KeyPrecedes : Key → Key → Type 0
KeyPrecedes (Some v) (Some w) = Precedes v w
KeyPrecedes (Some v) None = Unit {0}
KeyPrecedes None k = ⊥

-- the result of comparing two keys: they are in the order of values, and undefined is last
abbrev pub key_cmp : Key → Key → Ordering
key_cmp (Some v) (Some w) = value_cmp v w
key_cmp (Some v) None = Less
key_cmp None (Some w) = Greater
key_cmp None None = Equal
