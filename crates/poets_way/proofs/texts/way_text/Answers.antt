use Rattle.std.proofs.Common.{◌∙◌, ◌++◌, ap, sym, map, reverse, string_bytes, [], append-nil}
use Rattle.std.proofs.lemmas.List.{drop_all}
use Rattle.poets_way.specs.Moves.{move_of}
use Rattle.poets_way.specs.code.Writing.{moves_text}
use Rattle.poets_way.proofs.Written.{written_whole}
use Rattle.poets_way.proofs.texts.way_text.Goals as goal

pub returns : goal.returns
returns c =
    let text = string_bytes c.loop-step.text in
    let steps = c.moves-step-items.result.now in
    let over = drop_all c.loop-step.step-index steps c.loop-step-test.false in
    sym (append-nil text) ∙ ap (λ ms. text ++ moves_text (map move_of ms) (reverse c.loop-step.parts.items)) (sym over)
    ∙ c.loop-step.invariant ∙ ap (λ ms. moves_text ms []) c.moves-step-items.ensures ∙ written_whole c.args.way.now
