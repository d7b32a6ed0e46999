use Rattle.std.proofs.Common.{true, false, refl, inl, inr}
use Rattle.std.proofs.lemmas.List.{length-map}
use Rattle.std.proofs.lemmas.Result.{on_ok_weaker}
use Rattle.poets_guard.specs.code.Rules.{lists}
use Rattle.poets_guard.proofs.Learning.{known_at, IsStep-wait, IsLearning-used, IsLearning-learn}
use Rattle.poets_guard.proofs.rules.Known.place.Goals as goal

pub returns-then-not-index-clause-step : goal.returns-then-not-index-clause-step
returns-then-not-index-clause-step c =
    on_ok_weaker c.wait.result
    (IsStep-wait c.args.self.now c.wait.new.self c.args.rule c.args.rule.first (inl refl)
    (known_at c.args.self.now.facts.items c.args.rule.first c.index.result.now false c.requires.within.first c.index.ensures c.if-not-index.true)
    (rw c.requires.waiting c.requires.within.first) c.wait.ensures.facts c.wait.ensures.pending)
    c.wait.ensures.waiting

pub returns-then-not-index-2-clause-step : goal.returns-then-not-index-2-clause-step
returns-then-not-index-2-clause-step c =
    on_ok_weaker c.wait-then-not-index-2.result
    (IsStep-wait c.args.self.now c.wait-then-not-index-2.new.self c.args.rule c.args.rule.second (inr refl)
    (known_at c.args.self.now.facts.items c.args.rule.second c.index-2.result.now false c.requires.within.second c.index-2.ensures c.if-not-index-2.true)
    (rw c.requires.waiting c.requires.within.second) c.wait-then-not-index-2.ensures.facts c.wait-then-not-index-2.ensures.pending)
    c.wait-then-not-index-2.ensures.waiting

pub returns-then-index-clause-step : goal.returns-then-index-clause-step
returns-then-index-clause-step c = λ rules h.
    IsLearning-used rules c.args.self.now.facts.items (lists c.args.self.now.waiting.items) c.args.self.now.pending.items c.args.rule h
    (known_at c.args.self.now.facts.items c.args.rule.conclusion c.index-3.result.now true c.requires.within.conclusion c.index-3.ensures c.if-index.true)

pub returns-clause-step : goal.returns-clause-step
returns-clause-step c =
    on_ok_weaker c.learn.result
    (λ m rules h. rw (c.learn.ensures.facts, m.0, m.1)
    (IsLearning-learn rules c.args.self.now.facts.items (lists c.args.self.now.waiting.items) c.args.self.now.pending.items c.args.rule h
    (known_at c.args.self.now.facts.items c.args.rule.first c.index.result.now true c.requires.within.first c.index.ensures c.if-not-index.false)
    (known_at c.args.self.now.facts.items c.args.rule.second c.index-2.result.now true c.requires.within.second c.index-2.ensures c.if-not-index-2.false)
    (known_at c.args.self.now.facts.items c.args.rule.conclusion c.index-3.result.now false c.requires.within.conclusion c.index-3.ensures c.if-index.false)
    c.requires.within.conclusion (rw (length-map c.args.self.now.waiting.items (λ v. v.items), c.requires.waiting) c.requires.within.conclusion)))
    c.learn.ensures.moved
