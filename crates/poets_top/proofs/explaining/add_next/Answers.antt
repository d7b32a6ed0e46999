use Rattle.std.proofs.Common.{map, take, ◌++◌, sym, ◌∙◌, ap, ap₂, append_assoc}
use Rattle.std.specs.Prelude.{string_bytes}
use Rattle.poets_open.specs.Next.{step_of}
use Rattle.poets_top.specs.Explaining.{next_line, next_lines}
use Rattle.poets_top.proofs.Telling.{next_lines-more}
use Rattle.poets_top.proofs.explaining.add_next.Goals as goal

pub loop-step-preserved : goal.loop-step-preserved
loop-step-preserved c =
    let names = c.args.names.now in
    let text = string_bytes c.args.text.now in
    let before = next_lines names (map step_of (take c.loop-step.step-index c.args.steps.now)) in
    let line = next_line names (step_of c.step-item.result) in
    c.in_ok-push_str.ensures.bytes ∙ ap₂ (λ a b. a ++ b) c.loop-step.invariant (c.as_str.ensures.value ∙ c.in_ok-line.ensures)
    ∙ append_assoc text before line
    ∙ ap (λ l. text ++ l) (sym (next_lines-more names c.args.steps.now c.loop-step.step-index c.step-item.result c.loop-step-test.true c.step-item.is))
