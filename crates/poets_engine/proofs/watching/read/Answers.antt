use Rattle.std.proofs.Common.{◌-◌, inl, inr, arith}
use Rattle.poets_report.specs.Answers.{answer_of}
use Rattle.poets_engine.proofs.Tallying.{read_absent, read_found, within}
use Rattle.poets_engine.proofs.watching.read.Goals as goal
use Rattle.poets_engine.proofs.watching.read.Goals.{then-number-eq0-via-then-number-eq0, then-number-eq0-via-else-number-eq0+then-watch_count-number}

pub returns-then-number-eq0 : goal.returns-then-number-eq0
returns-then-number-eq0 c = λ rules.
    read_absent rules c.args.number c.args.store.now (elim c.then-number-eq0.branch [
      | then-number-eq0-via-then-number-eq0 w ↦ inl w.if-number-eq0.true
      | then-number-eq0-via-else-number-eq0+then-watch_count-number w ↦ (let count = w.watch_count.ensures in let past = w.if-watch_count-number.true in inr (omega (arith, count, past)))
    ])

pub returns : goal.returns
returns c = λ rules.
    let count = c.watch_count.ensures in
    let some = c.if-number-eq0.false in
    let few = c.if-watch_count-number.false in
    let there = within c.args.store.now.watches (c.args.number - 1) (omega (arith, count, some, few)) in
    read_found rules c.args.number c.args.store.now there.0 (answer_of c.in_ok-read.field-0) (omega (arith, some)) there.1 (c.in_ok-read.ensures there.0 there.1)
