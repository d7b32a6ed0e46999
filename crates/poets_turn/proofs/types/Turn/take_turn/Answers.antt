use Rattle.std.proofs.Common.{◌≡◌, ℕ, [], ◌∷◌, ◌++◌, ◌∙◌, ap, sym, subst}
use Rattle.std.specs.Arc.{arc_value}
use Rattle.poets_turn.specs.Clerks.{turn_frame}
use Rattle.poets_turn.proofs.Making.{match_ok, ok_fact, called}
use Rattle.poets_turn.proofs.types.Turn.take_turn.Goals as goal

pub enter-requires-clause-entry : goal.enter-requires-clause-entry
enter-requires-clause-entry g c = let h = c.take_machine-ticket.ensures.holds in let x = c.take_machine-ticket.result.1 in let call = arc_value c.args.call.now in
    let adds : g.M.Machine.history c.turn-made.new.self ≡ g.M.Machine.history x ++ (c.args.number, call) ∷ [] =
    ok_fact c.turn-made.result _ _ _ c.if-is_ok.ensures.value c.turn-made.ensures.turn (λ k p. p.0) in (
      g.M.Machine.history x,
      ap (λ m. m.0.stage) h,
      adds ∙ ap (λ (n : ℕ). g.M.Machine.history x ++ (n, call) ∷ []) (sym (ap (λ m. m.0.number) h ∙ c.requires.idle.3)),
    )

pub returns-then-is_ok-clause-call : goal.returns-then-is_ok-clause-call
returns-then-is_ok-clause-call g c = let h = c.take_machine-ticket.ensures.served in let x = c.take_machine-ticket.result.1 in let f = turn_frame g.M.Machine.frame c.args.self.now in
    let framed : g.M.Machine.frame x ≡ f = (h.setting _ c.requires.of.setting).0 in
    match_ok c.turn-made.result _ _ _ _ c.if-is_ok.ensures.value c.turn-made.ensures.turn (λ kept p.
    called g.M.Machine.history g.M.Machine.frame (g.M.Machine.owes f) c.args.seat.now.me.0 c.take_machine-ticket.result.0 x c.take_machine-ticket.new.seat.me _ c.take_machine-ticket.ensures.holds h
    c.requires.of.setting c.enter.new.seat.me.0 c.turn-made.new.self c.args.number (arc_value c.args.call.now) kept c.requires.idle.3 c.requires.idle.2 p.0
    (subst (λ z. g.M.Machine.owes z (g.M.Machine.history x) c.args.number (arc_value c.args.call.now) kept) framed p.1) c.take_machine-ticket.ensures.fits (ap (λ m. m.0) c.enter.ensures.after))
