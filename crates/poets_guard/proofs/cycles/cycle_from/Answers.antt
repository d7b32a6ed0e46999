use Rattle.std.proofs.Common.{◌∷◌, ◌++◌, ◌∙◌, ap}
use Rattle.std.specs.Prelude.{Ok}
use Rattle.poets_guard.proofs.Finding.{found-cycle}
use Rattle.poets_guard.proofs.cycles.cycle_from.Goals as goal

pub unreachable-requires : goal.unreachable-requires
unreachable-requires c =
    found-cycle c.args.graph.now c.args.name c.new-seen.result c.lead.new.seen c.new-seen.ensures.empty (c.in_ok-lead.ensures.searched (ap Ok c.if-not-branch.true)) c.requires

pub returns : goal.returns
returns c = (let led = c.in_ok-lead.ensures.led (ap Ok c.if-not-branch.false) in (led.0, led.1 ∙ ap (λ names. names ++ c.args.name ∷ led.0) c.new-path.ensures, led.2))
