use Rattle.std.proofs.Common.{[], ◌∷◌, ◌++◌, length, map, take, ◌∙◌, ap, sym, inl, inr, ⊎_elim, arith, length-append}
use Rattle.std.specs.Arc.{arc_value}
use Rattle.poets_turn.specs.Clerks.{front, calls, number}
use Rattle.poets_turn.proofs.Fronts.{prefix_trans}
use Rattle.poets_clerks.proofs.More.{answers_stay, answers_step, calls_step}
use Rattle.poets_clerks.proofs.script.make_script.Goals as goal

pub returns-in-Err-clause-answered : goal.returns-in-Err-clause-answered
returns-in-Err-clause-answered g c = answers_stay _ _ _ _ _ _ _ c.in-Err.ensures.made.longer c.loop-i.invariant.answered

pub returns-in-Err-clause-part : goal.returns-in-Err-clause-part
returns-in-Err-clause-part g c = let i = c.loop-i.invariant in let xs = c.args.script.now in ⊎_elim
    (λ e. inl (e ∙ (i.made ∙ ap (λ j. calls c.args.clerk.now ++ map arc_value (take j xs)) (sym i.long))))
    (λ e. inr (calls_step arc_value xs c.loop-i.i (length c.loop-i.done.items) c.index-script-i.result (calls c.args.clerk.now) (calls c.loop-i.clerk) (calls c.answer.new.clerk) i.long (omega arith) c.index-script-i.is i.made e))
    c.in-Err.ensures.made.calls

pub loop-i-preserved : goal.loop-i-preserved
loop-i-preserved g c = let i = c.loop-i.invariant in let m = c.in-Ok.ensures.made in let xs = c.args.script.now in let more = c.in-Ok-push.ensures.ok in record {
  of = c.answer.ensures.of;
  same = c.answer.ensures.number ∙ i.same;
  longer = prefix_trans (front c.args.clerk.now) (front c.loop-i.clerk) (front c.answer.new.clerk) i.longer m.longer;
  long = let e = ap length more in let n = length-append c.loop-i.done.items (c.in-Ok.d ∷ []) in let o = i.long in omega arith;
  room = let r = i.room in let e = c.push.ensures.room in omega arith;
  answered = answers_step _ arc_value (λ d. (d.place, d.reply)) xs (number c.args.clerk.now) _ (front c.loop-i.clerk) c.loop-i.done.items i.answered
      c.push.new.self.items c.in-Ok.d c.index-script-i.result c.loop-i.i (number c.loop-i.clerk) i.long (omega arith) c.index-script-i.is more i.same m;
  made = calls_step arc_value xs c.loop-i.i c.loop-i.i c.index-script-i.result (calls c.args.clerk.now) (calls c.loop-i.clerk) (calls c.answer.new.clerk) (λ _. c.loop-i.i) (omega arith) c.index-script-i.is i.made m.calls;
}
