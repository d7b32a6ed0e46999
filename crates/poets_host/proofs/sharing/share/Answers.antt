use Rattle.std.proofs.Common.{subst, sym}
use mathlib.Core.List.{IsPrefix}
use Rattle.poets_turn.specs.Clerks.{turn_frame}
use Rattle.poets_turn.proofs.Fronts.{prefix_nil}
use Rattle.poets_host.specs.Pairs.{pair_of}
use Rattle.poets_host.specs.code.Sharing.{rules_of}
use Rattle.poets_host.proofs.Pairing.{pair_made, pair_new}
use Rattle.poets_host.proofs.sharing.share.Goals as goal

pub returns-in-Err-clause-part : goal.returns-in-Err-clause-part
returns-in-Err-clause-part g c =
    let both = pair_of c.args.first.now c.args.second.now in
    subst (λ e. IsPrefix e.calls both) (sym c.in-Err.ensures.err) (subst (λ cs. IsPrefix cs both) (sym c.requires.new) (prefix_nil both))

pub in_turn-replies-requires-clause-new : goal.in_turn-replies-requires-clause-new
in_turn-replies-requires-clause-new g c = λ _ _.
    pair_new c.in-Ok.started.0 _ _ _ c.in-Some-pop.one c.in-Some.two c.in-Some.ensures.some c.in-Some-pop.ensures.some c.in-Ok.ensures.clerks.0 c.in-Ok.ensures.clerks.1 c.in-Ok.ensures.numbers

pub returns-clause-calls : goal.returns-clause-calls
returns-clause-calls g c =
    pair_made (turn_frame rules_of c.in-Ok.started.0) c.args.first.now c.args.second.now _ _ _ c.in_turn-replies.result c.in_turn-replies.ensures.both c.closed.ensures.clerks

pub returns-clause-part : goal.returns-clause-part
returns-clause-part g c = c.in_turn-replies.ensures.part _ c.closed.ensures.clerks
