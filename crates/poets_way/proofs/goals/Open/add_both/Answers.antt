use Rattle.std.proofs.Common.{◌∙◌}
use Rattle.std.proofs.lemmas.Result.{IfOk-weaker}
use Rattle.poets_syntax.specs.Contract.{contract_of}
use Rattle.poets_way.specs.code.Goals.{Adds, AddsBoth}
use Rattle.poets_way.proofs.Opened.{adds-both}
use Rattle.poets_way.proofs.goals.Open.add_both.Goals as goal

pub returns : goal.returns
returns c =
    let g = c.args.goal in
    let first = contract_of c.args.first.now in
    let second = contract_of c.args.second.now in
    let new = c.add-2.new.self in
    IfOk-weaker c.add-2.result (Adds first g.pairs.items c.args.count c.add.new.self new) (AddsBoth g first second c.args.count c.args.self.now new)
    (λ b h. adds-both g first second c.in_ok-pairs.pairs.items c.args.count (c.in_ok-pairs.ensures ∙ c.as_slice.ensures) c.requires
    c.args.self.now c.add.new.self new c.in_ok-add.field-0 b c.in_ok-add.ensures h) c.add-2.ensures
