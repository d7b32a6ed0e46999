use Rattle.std.proofs.Common.{[], ◌++◌, set, sym, ◌∙◌, ap}
use Rattle.std.proofs.lemmas.List.{map-set, get_or-map}
use Rattle.poets_guard.specs.code.Rules.{lists}
use Rattle.poets_guard.proofs.rules.Known.learn.Goals as goal

pub returns-clause-moved : goal.returns-clause-moved
returns-clause-moved c = (
  map-set (λ v. v.items) c.args.self.now.waiting.items c.args.fact c.append.new.other
      ∙ ap (set (lists c.args.self.now.waiting.items) c.args.fact) c.in_ok-append.ensures.other_items,
  c.in_ok-append.ensures.items ∙ ap (λ v. c.args.self.now.pending.items ++ v.items) c.index_mut-2.ensures.value
      ∙ ap (λ rules. c.args.self.now.pending.items ++ rules) (sym (get_or-map (λ v. v.items) c.args.self.now.waiting.items c.args.fact c.index_mut-2.result.now [] c.requires.1)),
)
