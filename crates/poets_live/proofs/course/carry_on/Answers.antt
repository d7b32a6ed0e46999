use Rattle.std.proofs.Common.{Some, None, ◌∙◌, ap, refl, sym}
use Rattle.std.specs.Prelude.{is_some, not}
use Rattle.poets_live.proofs.Marks.{carries-mark}
use Rattle.poets_live.proofs.course.carry_on.Goals as goal

pub returns-clause-answer : goal.returns-clause-answer
returns-clause-answer c =
    let some = ap is_some (sym c.carried.ensures) ∙ c.is_none.ensures ∙ ap not c.if-is_none.false in
    carries-mark c.args.fold.answer c.set.new.self.answer (record { key = None; row = Some c.in-Some.mark.now }) c.args.marks.now c.in-Some.mark.now
    some c.in-Some.ensures.value refl c.in_ok-set.ensures.ok
