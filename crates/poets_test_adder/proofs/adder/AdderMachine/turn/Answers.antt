use Rattle.std.proofs.Common.{ℕ, ◌+◌, ◌%◌, ◌^◌, ◌∙◌, ap, sym}
use Rattle.std.specs.declared.alloc.Global.{Global}
use Rattle.std.specs.declared.sync.Arc.{Arc}
use Rattle.std.specs.Arc.{arc_value}
use Rattle.poets_test_adder.specs.Adding.{adder_calls, total}
use Rattle.poets_test_adder.proofs.Adds.{adds}
use Rattle.poets_test_adder.proofs.adder.AdderMachine.turn.Goals as goal

pub invariant_of-self-2 : goal.invariant_of-self-2
invariant_of-self-2 g c = let f : ℕ × Arc ℕ Global → ℕ × ℕ = λ e. (e.0, arc_value e.1) in let s : ℕ = c.args.self.now.sum in record {
  summed = ap (λ x. (s + x) % 2 ^ 64) (c.deref.ensures ∙ sym c.in_ok-amount.ensures)
      ∙ adds f c.reserve.new.self.items c.push.new.self.items _ s (c.args.self.now.summed ∙ ap (λ l. total (adder_calls l) % 2 ^ 64) (sym c.reserve.ensures.items)) c.in-Ok.ensures.ok;
}
