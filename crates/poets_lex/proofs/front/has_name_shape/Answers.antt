use Rattle.std.proofs.Common.{rules, tests, ◌-◌, arith, drop, length, sym, ◌∙◌}
use Rattle.std.proofs.lemmas.List.{length-drop, take_all}
use Rattle.std.proofs.lemmas.Iterator.{YieldsList-from_slice}
use Rattle.std.proofs.lemmas.Iterator.Search.{all_from_yields_List}
use Rattle.poets_lex.specs.Bytes.{is_in_name}
use Rattle.poets_lex.proofs.Fronts.{name-shape}
use Rattle.poets_lex.proofs.front.has_name_shape.Goals as goal

pub returns-then-begins_name : goal.returns-then-begins_name
returns-then-begins_name c =
    let text = c.args.text.now in
    let all = all_from_yields_List is_in_name _ _ _ c.all.ensures.ran (YieldsList-from_slice (drop 1 text) (c.iter.ensures.rest ∙ take_all (length text - 1) (drop 1 text) (omega (arith, length-drop 1 text)))) (λ x b q k. search (rules, tests)) in
    name-shape text c.all.result (omega (arith, c.in-len1-up.len_at_least)) (sym c.begins_name.ensures ∙ c.if-begins_name.true) all
