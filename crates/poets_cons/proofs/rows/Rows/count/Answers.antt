use Rattle.std.proofs.Common.{rules, ◌≡◌, ◌∙◌, length}
use Rattle.poets_cons.specs.Table.{IsTable, IsRooted}
use Rattle.poets_cons.proofs.Counting.{counted}
use Rattle.poets_cons.proofs.rows.Rows.count.Goals as goal

pub returns : goal.returns
returns c =
    let table : IsTable c.args.self.now = rw c.self.view_is at c.self.invariant.0 in
    let root : IsRooted c.args.self.now = rw c.self.view_is at c.self.invariant.1 in
    let all : c.len.result ≡ length c.self.inside.nodes.items = search rules in
    let here : c.len.result ≡ length c.args.self.now = rw c.self.view_is at all in
    here ∙ counted c.args.self.now table root
