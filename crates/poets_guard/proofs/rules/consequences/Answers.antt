use Rattle.std.proofs.Common.{arith, true, false, sym, ◌∙◌, ap, subst, length, length-set}
use Rattle.std.proofs.lemmas.List.{length-replicate}
use Rattle.poets_guard.specs.code.Rules.{IsLearning, IsWithin, lists}
use Rattle.poets_guard.proofs.Learning.{IsWithin-pending, IsLearning-first, IsLearning-last}
use Rattle.poets_guard.proofs.rules.consequences.Goals as goal

pub loop-rule-init : goal.loop-rule-init
loop-rule-init c =
    let blank = c.in_ok-facts.ensures.items_if_clones_equal (λ y e. e) in
    record {
      facts = length-set c.in_ok-facts.facts.items 0 true ∙ ap length blank ∙ length-replicate c.args.count false;
      waiting = (let n = c.loop.invariant.len in let l = c.loop-test.false in let m = c.loop.auto.counter-end in omega (arith, n, l, m));
      learning = rw blank (IsLearning-first c.args.count c.args.rules.items (lists c.loop.waiting.items) c.requires.some c.loop.invariant.none c.loop.invariant.empty);
    }

pub place-requires-clause-within : goal.place-requires-clause-within
place-requires-clause-within c =
    subst (λ n. IsWithin n c.in-Some.rule) (sym c.loop-rule.invariant.facts)
    (IsWithin-pending c.args.rules.items c.loop-rule.known.facts.items (lists c.loop-rule.known.waiting.items) c.pop.new.self.items c.in-Some.rule
    (subst (IsLearning c.args.rules.items c.loop-rule.known.facts.items (lists c.loop-rule.known.waiting.items)) c.in-Some.ensures.items c.loop-rule.invariant.learning)
    c.args.count c.requires.within)

pub returns-clause-closed : goal.returns-clause-closed
returns-clause-closed c =
    IsLearning-last c.args.rules.items c.loop-rule.known.facts.items (lists c.loop-rule.known.waiting.items) c.loop-rule.known.pending.items
    (let n = c.in_default.ensures.cases.0 in omega (arith, n)) c.loop-rule.invariant.learning
