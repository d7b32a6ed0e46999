use Rattle.std.proofs.Common.{◌∙◌, ap, subst, map}
use Rattle.std.specs.Arc.{arc_value}
use Rattle.std.proofs.lemmas.List.{get_or_default}
use Rattle.poets_clerks.specs.Scripts.{HasWorked, answers_of}
use Rattle.poets_clerks.proofs.Desks.{worked}
use Rattle.poets_clerks.proofs.team.CrewTeam.run.Goals as goal

pub returns : goal.returns
returns g c s = let e = c.make_script-answers.ensures in let xs = c.args.self.now.scripts.now in
    subst (λ l. HasWorked g.M.Machine.frame g.M.Machine.answers c.args.self.now.turn.now c.make_script-answers.result.1 (map arc_value l) c.args.desk.now.clerk c.make_script-answers.new.clerk (answers_of c.make_script-answers.result.0))
    (c.as_slice-script.ensures ∙ ap (λ v. v.items) (get_or_default xs c.args.nth c.index-self-nth.result s c.requires.may.0))
    (worked g.M.Machine.frame g.M.Machine.answers c.args.self.now.turn.now _ arc_value (λ a. (a.place, a.reply)) c.as_slice-script.result.now c.make_script-answers.result.0.items c.args.desk.now.clerk c.make_script-answers.new.clerk
    e.of e.number e.longer e.answered e.whole e.part)
