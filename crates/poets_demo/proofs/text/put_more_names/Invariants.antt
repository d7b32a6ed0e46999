use Rattle.std.proofs.Common.{◌≡◌, ◌++◌, ◌+◌, ◌-◌, ◌≤◌, string_bytes}
use Rattle.std.specs.Prelude.{codes}
use Rattle.std.specs.List.{flat_map, range_with_len}
use Rattle.poets_demo.specs.Text.{sale_name}
use Rattle.poets_demo.proofs.text.put_more_names.Given as goal

abbrev pub invariant-loop-sale : goal.invariant-loop-sale
invariant-loop-sale l = record {
  so_far : string_bytes l.text ≡ string_bytes l.initial.text
      ++ flat_map (λ sale. codes ", " ++ sale_name l.clerk sale) (range_with_len l.initial.sale (l.sale - l.initial.sale));
  within : l.sale ≤ l.sales + 1;
}
