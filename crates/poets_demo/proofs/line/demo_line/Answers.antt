use Rattle.std.proofs.Common.{◌≡◌, append_assoc, arith, length, of_z, string_bytes, sym, to_z, ◌∙◌}
use Rattle.std.specs.Int.{w128}
use Rattle.std.proofs.lemmas.Int.{ints, to_z-of_z}
use Rattle.std.proofs.lemmas.List.{length-map}
use Rattle.poets_command.specs.Calls.{entry_of, history_of}
use Rattle.poets_demo.proofs.Lines.{line_of, line_of_history}
use Rattle.poets_demo.proofs.line.demo_line.Goals as goal

pub returns : goal.returns
unfolding line_of
returns c =
    let entries = c.args.entries.now in
    let sums = c.sums_of-registered.result in
    let are = c.sums_of-registered.ensures in
    let bits = to_z-of_z w128 sums.paid (omega (arith, ints)) in
    let line : string_bytes c.in_ok-format.field-0 ≡ line_of c.args.sales (length entries) sums.registered sums.recorded sums.ended sums.refused (to_z w128 (of_z w128 sums.paid)) =
    simp append_assoc (simp append_assoc at c.in_ok-format.ensures.ok) in
    line ∙ line_of_history c.args.sales (history_of entries) (length entries) sums.registered sums.recorded sums.ended sums.refused _
    (sym (length-map entries entry_of)) are.registered are.recorded are.ended are.refused (bits ∙ are.paid)
