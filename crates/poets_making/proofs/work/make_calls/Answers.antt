use Rattle.std.proofs.Common.{[], refl, sym, ◌∙◌, ap, subst}
use Rattle.poets_command.specs.Calls.{calls_of, history_of}
use Rattle.poets_rules.specs.Rules.{book_of_rules, reports_of_rules}
use Rattle.poets_history.specs.Histories.{IsLegal}
use Rattle.poets_making.specs.Noted.{AreNoted}
use Rattle.poets_making.proofs.Making.{calls_more}
use Rattle.poets_making.proofs.Noting.{AreNoted-none}
use Rattle.poets_making.proofs.RightHistories.{right_made}
use Rattle.poets_making.proofs.Taking.{taken_at}
use Rattle.poets_making.proofs.work.make_calls.Goals as goal

pub loop-numbered-init : goal.loop-numbered-init
loop-numbered-init g c = record {
  noted = subst (λ es. AreNoted c.new-engine.result (history_of es)) (sym c.new-entries.ensures)
      (AreNoted-none c.new-engine.result (subst (λ r. IsLegal (book_of_rules r) (reports_of_rules r) []) (sym c.new-engine.ensures.rules) c.new-engine.ensures.legal) c.new-engine.ensures.calls);
  calls = ap (λ es. calls_of (history_of es)) c.new-entries.ensures;
  rules = refl;
}

pub call-requires-clause-taken : goal.call-requires-clause-taken
call-requires-clause-taken g c = λ _ _.
    taken_at c.args.rules c.loop-numbered.engine.rules c.args.calls.now c.loop-numbered.numbered-index c.numbered-item.result c.requires.taken
    c.loop-numbered-test.true c.numbered-item.is (c.loop-numbered.invariant.rules ∙ c.new-engine.ensures.rules)

pub loop-numbered-preserved : goal.loop-numbered-preserved
loop-numbered-preserved g c = record {
  noted = c.in_ok-call.ensures.noted;
  calls = c.in_ok-call.ensures.calls
      ∙ calls_more c.args.calls.now c.loop-numbered.numbered-index c.numbered-item.result (calls_of (history_of c.loop-numbered.entries.items))
      c.loop-numbered-test.true c.numbered-item.is c.loop-numbered.invariant.calls;
  rules = c.call.ensures.frame ∙ c.loop-numbered.invariant.rules;
}

pub returns-clause-right : goal.returns-clause-right
returns-clause-right g c =
    right_made c.args.rules c.loop-numbered.engine.rules (history_of c.loop-numbered.entries.items) c.args.calls.now c.loop-numbered.numbered-index
    (c.loop-numbered.invariant.rules ∙ c.new-engine.ensures.rules) c.recall.ensures c.loop-numbered.invariant.noted.legal c.requires.taken c.loop-numbered.invariant.calls
