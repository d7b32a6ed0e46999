use Rattle.std.proofs.Common.{rules, ℕ, List, ◌∷◌, Option, Some, ◌∙◌, refl, ap}
use Rattle.atomic_table.specs.Table.{rest}
use Rattle.poets_turn.proofs.Steps.{passes}
use Rattle.poets_turn.proofs.types.Turn.pass.Goals as goal

pub store-requires : goal.store-requires
store-requires g c = let e = c.exchange.ensures.3 in let x = c.args.machine in (
  search rules,
  search rules,
  passes g.M.Machine.history g.M.Machine.frame _ _ _ _ c.exchange.new.seat.me c.args.ticket _ (g.M.Machine.history x) x _
      (ap (λ m. m.0.stage) e ∙ c.requires.hand.0)
      (ap (λ m. m.1) e ∙ ap (λ (l : List (ℕ × Option g.row.M.Denot)). (0, Some x) ∷ rest l) c.requires.hand.1)
      refl
      (ap (λ m. m.0.setting) e ∙ c.requires.of.setting)
      c.requires.frame
      refl,
)
