use Rattle.std.proofs.Common.{◌≡◌, false, [], ◌∷◌, ◌++◌, ap, sym, ◌∙◌, arith}
use Rattle.std.proofs.lemmas.List.{length_push, map_push}
use Rattle.std.proofs.lemmas.List.Elements.{All-push}
use Rattle.poets_clerks.proofs.scripts.gathered.Goals as goal

pub loop-desk-preserved : goal.loop-desk-preserved
loop-desk-preserved g c = let i = c.loop-desk.invariant in let desk = c.in-Some.desk in let n = length_push c.loop-desk.yielded desk in let r = i.room in let r₀ = r.0 in let r₁ = r.1 in record {
  clerks = c.in-Ok.ensures.ok ∙ (ap (λ l. l ++ desk.clerk ∷ []) i.clerks ∙ sym (map_push (λ d. d.clerk) c.loop-desk.yielded desk));
  answers = c.in-Ok-push.ensures.ok ∙ (ap (λ l. l ++ desk.answers ∷ []) i.answers ∙ sym (map_push (λ d. d.answers) c.loop-desk.yielded desk));
  memory = λ e. All-push (λ d. d.memory ≡ false) c.loop-desk.yielded desk (i.memory c.if-worked.false) e;
  room = let s = c.push.ensures.room in let t = c.push-in-loop-desk.ensures.room in (omega arith, omega arith);
}
