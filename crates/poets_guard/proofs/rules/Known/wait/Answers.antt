use Rattle.std.proofs.Common.{[], ◌∷◌, ◌++◌, set, sym, ◌∙◌, ap}
use Rattle.std.proofs.lemmas.List.{map-set, get_or-map}
use Rattle.poets_guard.specs.code.Rules.{lists}
use Rattle.poets_guard.proofs.rules.Known.wait.Goals as goal

pub returns-clause-waiting : goal.returns-clause-waiting
returns-clause-waiting c =
    map-set (λ v. v.items) c.args.self.now.waiting.items c.args.fact c.push.new.self ∙ ap (set (lists c.args.self.now.waiting.items) c.args.fact) (c.in_ok-push.ensures.items
    ∙ ap (λ v. v.items ++ c.args.rule ∷ []) c.index_mut.ensures.value
    ∙ ap (λ rules. rules ++ c.args.rule ∷ []) (sym (get_or-map (λ v. v.items) c.args.self.now.waiting.items c.args.fact c.index_mut.result.now [] c.requires)))
