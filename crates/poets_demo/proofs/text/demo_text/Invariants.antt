use Rattle.std.proofs.Common.{◌≡◌, ◌++◌, ◌-◌, string_bytes}
use Rattle.std.specs.List.{flat_map, range_with_len}
use Rattle.poets_demo.specs.Text.{section}
use Rattle.poets_demo.proofs.text.demo_text.Given as goal

abbrev pub invariant-loop-clerk : goal.invariant-loop-clerk
invariant-loop-clerk l =
    string_bytes l.text ≡ string_bytes l.initial.text
    ++ flat_map (λ clerk. section clerk l.sales) (range_with_len l.initial.clerk (l.clerk - l.initial.clerk))
