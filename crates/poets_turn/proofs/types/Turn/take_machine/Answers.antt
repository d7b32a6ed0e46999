use Rattle.std.proofs.Common.{rules, ℕ, List, ◌∷◌, Option, Some, ◌∙◌, ap, sym}
use Rattle.atomic_table.specs.Table.{rest}
use Rattle.poets_turn.proofs.types.Turn.take_machine.Goals as goal

pub exchange-requires : goal.exchange-requires
exchange-requires g c = let h = c.wait_for.ensures.holds in let e = ap (λ m. m.1) h.1 in
    (search rules, (Some h.0, e ∙ ap (λ (l : List (ℕ × Option g.row.M.Denot)). (0, Some h.0) ∷ rest l) (sym e)))
