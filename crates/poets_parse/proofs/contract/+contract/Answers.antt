use Rattle.std.proofs.Common.{sym, ap}
use Rattle.poets_lex.specs.declared.token.Sign.TheVariants as S
use Rattle.poets_grammar.specs.ContractReading.{as_link, sign_link, either, beside, followed, simple, sequence, parallel}
use Rattle.poets_parse.proofs.Loops.{joining_next}
use Rattle.poets_parse.proofs.contract.+contract.Goals as goal

pub contract-loop-behind-preserved : goal.contract-loop-behind-preserved
contract-loop-behind-preserved g c =
    joining_next (sign_link S.Plus) either (parallel simple) c.in-Some.behind.now c.in_ok-right.after.now c.loop-behind.invariant
    (ap as_link (sym c.in-Some.ensures.found)) c.in-Some.ensures.shorter c.in_ok-right.ensures.gives c.in_ok-right.ensures.shorter c.in_ok-left-2.ensures

pub parallel-loop-behind-preserved : goal.parallel-loop-behind-preserved
parallel-loop-behind-preserved g c =
    joining_next (sign_link S.DoubleBar) beside (sequence simple) c.in-Some.behind.now c.in_ok-right.after.now c.loop-behind.invariant
    (ap as_link (sym c.in-Some.ensures.found)) c.in-Some.ensures.shorter c.in_ok-right.ensures.gives c.in_ok-right.ensures.shorter c.in_ok-left-2.ensures

pub sequence-loop-behind-preserved : goal.sequence-loop-behind-preserved
sequence-loop-behind-preserved g c =
    joining_next (sign_link S.Semicolon) followed simple c.in-Some.behind.now c.in_ok-right.after.now c.loop-behind.invariant
    (ap as_link (sym c.in-Some.ensures.found)) c.in-Some.ensures.shorter c.in_ok-right.ensures.gives c.in_ok-right.ensures.shorter c.in_ok-left-2.ensures
