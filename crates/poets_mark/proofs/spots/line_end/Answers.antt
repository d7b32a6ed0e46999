use Rattle.std.proofs.Common.{length, subst}
use Rattle.std.proofs.lemmas.List.{take_rest}
use Rattle.memchr.specs.Find.{Nowhere, NoneBefore}
use Rattle.poets_mark.specs.Spots.{IsBreak}
use Rattle.poets_mark.proofs.Breaking.{ends_before, ends_last}
use Rattle.poets_mark.proofs.spots.line_end.Goals as goal

pub returns-in-Some : goal.returns-in-Some
returns-in-Some c =
    let text = c.args.text.now in let place = c.args.place in let next = c.in-Some.next in
    ends_before text place c.requires next
    (subst (λ rest. NoneBefore (IsBreak rest) 0 (length rest) next) (take_rest text place) c.in-Some.ensures.0)
    (subst (λ rest. IsBreak rest next) (take_rest text place) c.in-Some.ensures.1)

pub returns-in-None : goal.returns-in-None
returns-in-None c =
    let text = c.args.text.now in let place = c.args.place in
    ends_last text place c.requires (subst (λ rest. Nowhere (IsBreak rest) 0 (length rest)) (take_rest text place) c.in-None.ensures)
