use Rattle.std.proofs.Common.{rules, ℕ, List, [], ◌∷◌, ◌++◌, Option, Some, ◌∙◌, refl, ap, sym}
use Rattle.std.specs.Arc.{arc_value}
use Rattle.atomic_table.specs.Table.{Me, rest}
use Rattle.poets_turn.specs.declared.view.View.{View}
use Rattle.poets_turn.specs.declared.view.Stage.TheVariants.{Idle}
use Rattle.poets_turn.proofs.Steps.{enters}
use Rattle.poets_turn.proofs.types.Turn.enter.Goals as goal

pub store-requires : goal.store-requires
store-requires g c = let e = c.exchange.ensures.3 in let x = c.args.machine in let n = c.requires.entry in (
  search rules,
  search rules,
  enters g.M.Machine.history g.M.Machine.frame _ _ _ _ c.exchange.new.seat.me c.args.ticket _ n.0 x _
      (ap (λ m. m.0.stage) e ∙ n.1)
      (ap (λ m. m.1) e ∙ ap (λ (l : List (ℕ × Option g.row.M.Denot)). (0, Some x) ∷ rest l) c.requires.hand.0)
      refl
      (ap (λ m. m.0.setting) e ∙ c.requires.of.setting)
      c.requires.frame
      (arc_value c.args.call.now)
      (n.2 ∙ ap (λ (k : ℕ). n.0 ++ (k, arc_value c.args.call.now) ∷ []) (sym (ap (λ m. m.0.number) e))),
)

pub returns-clause-after : goal.returns-clause-after
returns-clause-after g c = let e = c.exchange.ensures.3 in let x = c.args.machine in let n = c.requires.entry in
    let after = c.store.ensures.2 c.args.ticket n.0 x (arc_value c.args.call.now) (ap (λ m. m.0.stage) e ∙ n.1)
    (ap (λ m. m.1) e ∙ ap (λ (l : List (ℕ × Option g.row.M.Denot)). (0, Some x) ∷ rest l) c.requires.hand.0)
    (n.2 ∙ ap (λ (k : ℕ). n.0 ++ (k, arc_value c.args.call.now) ∷ []) (sym (ap (λ m. m.0.number) e))) in
    after ∙ ap (λ (v : View g.row.M-Call.Denot g.row.M-Frame.Denot). let m : Me (Option g.row.M.Denot) (View g.row.M-Call.Denot g.row.M-Frame.Denot) = (record v { stage = Idle; front = g.M.Machine.history x; calls = v.calls ++ arc_value c.args.call.now ∷ [] }, []) in m) (ap (λ m. m.0) e)
