use Rattle.std.proofs.Common.{◌≡◌, List, [], ◌∷◌, ◌++◌, Option, Some, ◌∙◌, ap, sym, subst}
use Rattle.atomic_table.specs.Table.{opening}
use Rattle.poets_turn.specs.code.Turnstile.{Rule}
use Rattle.poets_turn.specs.code.Steps.{first_view}
use Rattle.poets_turn.proofs.Seats.{starts}
use Rattle.poets_turn.proofs.types.Turn.open.Goals as goal

pub new-requires : goal.new-requires
new-requires g c = let f = g.M.Machine.frame c.of.result.value in
    let items : c.push_reserved.new.self.items ≡ Some c.args.machine ∷ [] = c.push_reserved.ensures.items ∙ ap (λ (l : List (Option g.row.M.Denot)). l ++ Some c.args.machine ∷ []) c.in-Ok.ensures.items in
    subst (λ (xs : List (Option g.row.M.Denot)). Rule g.M.Machine.history g.M.Machine.frame f c.args.clerks (opening (0 ∷ 0 ∷ []) xs (first_view f c.args.clerks))) (sym items)
    (starts g.M.Machine.history g.M.Machine.frame f c.args.clerks c.args.machine c.requires.new (ap g.M.Machine.frame (sym c.of.ensures)) c.requires.clerks)
