-- Keys have a total order.
use Rattle.std.proofs.Common.{rules, ◌≡◌, ◌↔◌, Some, None, refl, ap}
use Rattle.std.specs.Prelude.{IsTrue}
use Rattle.std.specs.Cmp.{IsTotalOrder}
use Rattle.std.specs.Ordering.{ordering_reverse}
use Rattle.std.specs.declared.cmp.Ordering.TheVariants.{Less, Equal, Greater}
use Rattle.poets_value.specs.contracts.value.ValueOrd.TheImpl.Laws as value_order
use Rattle.poets_report.specs.Keys.{Key, KeyPrecedes, key_cmp, same_key}

pub key_less : (j k : Key) → (key_cmp j k ≡ Less) ↔ KeyPrecedes j k
key_less j k = search rules

pub key_equal : (j k : Key) → (key_cmp j k ≡ Equal) ↔ (j ≡ k)
key_equal j k = search rules

pub key_greater : (j k : Key) → (key_cmp j k ≡ Greater) ↔ KeyPrecedes k j
key_greater j k = search rules

pub key_same : (j k : Key) → IsTrue (same_key j k) ↔ (j ≡ k)
key_same j k = search rules

pub key_total : IsTotalOrder key_cmp
key_total = record {
  antisymm = turned;
  trans = less_less;
  congr = alike;
}
  where
    turned : (j k : Key) → key_cmp j k ≡ ordering_reverse (key_cmp k j)
    turned (Some v) (Some w) = value_order.total-law.antisymm v w
    turned (Some v) None = refl
    turned None (Some w) = refl
    turned None None = refl

    less_less : (j k l : Key) → key_cmp j k ≡ Less → key_cmp k l ≡ Less → key_cmp j l ≡ Less
    less_less (Some v) (Some w) (Some x) p q = value_order.total-law.trans v w x p q
    less_less (Some v) k None p q = refl
    less_less (Some v) None (Some x) p q = absurd cc
    less_less None (Some w) l p q = absurd cc
    less_less None None l p q = absurd cc

    alike : (j k l : Key) → key_cmp j k ≡ Equal → key_cmp j l ≡ key_cmp k l
    alike j k l e = ap (λ m. key_cmp m l) ((key_equal j k).0 e)
