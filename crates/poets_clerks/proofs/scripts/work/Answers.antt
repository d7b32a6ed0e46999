use Rattle.std.proofs.Common.{◌≡◌, ◌<◌, false, List, ◌++◌, length, map, take, drop, ap, sym, ◌∙◌, subst, arith}
use Rattle.std.specs.Prelude.{All, get_or}
use Rattle.std.specs.Arc.{arc_value}
use lib.ListN.{length-map}
use Rattle.poets_turn.specs.Clerks.{IsClerkOf, turn_frame}
use Rattle.poets_clerks.specs.Scripts.{HaveWorked, EachWorked, answers_of, script_calls}
use Rattle.poets_clerks.proofs.Closing.{each_of, each_number}
use Rattle.poets_clerks.proofs.Desks.{at_desk, each_worked, written_over}
use Rattle.poets_clerks.proofs.scripts.work.Goals as goal

pub spread-requires-clause-may : goal.spread-requires-clause-may
spread-requires-clause-may g c κs within k d inside =
    let desks = ap (map (λ e. e.clerk)) c.as_mut_slice.ensures.value ∙ c.in-Ok.ensures.desks in
    let scripts = c.as_slice.ensures in
    let here : k < length c.args.scripts.now.items = omega (arith, length-map c.as_mut_slice.result.now (λ e. e.clerk), ap length desks, c.requires.scripts) in (
      subst (λ l. k < length l) (sym scripts) here,
      at_desk (λ v. IsClerkOf g.M.Machine.frame c.args.turn.now v) (λ e. e.clerk) c.as_mut_slice.result.now c.args.clerks.items desks c.requires.of k d inside,
      λ s. subst (λ l. All (λ y. g.M.Machine.takes (turn_frame g.M.Machine.frame c.args.turn.now) (arc_value y)) (get_or l k s).items) (sym scripts) (c.requires.takes k s here),
    )

pub returns-in-Ok : goal.returns-in-Ok
returns-in-Ok g c =
    let desks = ap (map (λ e. e.clerk)) c.as_mut_slice.ensures.value ∙ c.in-Ok.ensures.desks in
    let old = c.in-Ok.desks in let new = c.spread.new.desks in
    let kept : length new ≡ length c.as_mut_slice.result.now = c.spread.auto.desks in
    let whole : take old.len (new ++ drop (length new) old.items) ≡ new = written_over old.len new old.items (kept ∙ c.as_mut_slice.ensures.len) (sym old.ok.0) in
    let each = subst
    (λ (t : List _ × List _ × List _ × List _). EachWorked g.M.Machine.frame g.M.Machine.answers c.args.turn.now c.gathered.result.memory (map script_calls t.0) t.1 t.2 (map answers_of t.3))
    (λ i. (c.as_slice.ensures i, desks i, sym (c.gathered.ensures.clerks ∙ ap (map (λ d. d.clerk)) whole) i, sym (c.gathered.ensures.answers ∙ ap (map (λ d. d.answers)) whole) i))
    (each_worked g.M.Machine.frame g.M.Machine.answers c.args.turn.now c.gathered.result.memory (λ d. d.memory) (λ d. d.clerk) (λ d. d.answers) answers_of script_calls c.as_slice.result.now c.as_mut_slice.result.now new
    (omega (arith, length-map c.as_mut_slice.result.now (λ e. e.clerk), ap length desks, c.requires.scripts, ap length c.as_slice.ensures)) kept
    (λ k d l e. subst (λ ys. All (λ y. y.memory ≡ false) ys) whole (c.gathered.ensures.memory e) k d l)
    (λ k s d l. c.spread.ensures.did k d l s)) in
    record { worked = HaveWorked.Each each; of = each_of each; numbers = each_number each }
