use Rattle.std.proofs.Common.{◌≡◌, ◌++◌, ◌-◌, string_bytes}
use Rattle.std.specs.List.{flat_map, range_with_len}
use Rattle.poets_demo.specs.Text.{sale_lines}
use Rattle.poets_demo.proofs.text.put_sales.Given as goal

abbrev pub invariant-loop-sale : goal.invariant-loop-sale
invariant-loop-sale l =
    string_bytes l.text ≡ string_bytes l.initial.text
    ++ flat_map (sale_lines l.clerk) (range_with_len l.initial.sale (l.sale - l.initial.sale))
