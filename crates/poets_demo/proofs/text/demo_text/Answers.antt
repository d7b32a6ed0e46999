use Rattle.std.proofs.Common.{◌≡◌, arith, ◌++◌, ◌-◌, ◌∙◌, ap, string_bytes}
use Rattle.std.specs.List.{flat_map}
use Rattle.poets_demo.specs.Text.{demo_text, section, numbers_to}
use Rattle.poets_demo.proofs.Putting.{one_more}
use Rattle.poets_demo.proofs.Shortness.{demo_short}
use Rattle.poets_demo.proofs.text.demo_text.Goals as goal

pub loop-clerk-preserved : goal.loop-clerk-preserved
loop-clerk-preserved c =
    one_more (λ clerk. section clerk c.args.sales) _ c.loop-clerk.clerk _ _ _ _ (omega arith) c.loop-clerk.invariant c.in_ok-put_section.ensures (omega arith)

pub returns : goal.returns
returns c =
    let count : c.loop-clerk.clerk - 1 ≡ 8 = omega arith in
    let text : string_bytes c.loop-clerk.text ≡ demo_text c.args.sales =
    rw count at c.loop-clerk.invariant ∙ ap (λ s. s ++ flat_map (λ clerk. section clerk c.args.sales) (numbers_to 8)) c.in_ok-text.ensures.ok in
    record {
      text = text;
      short = rw text (demo_short c.args.sales (omega arith));
    }
