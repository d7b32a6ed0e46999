use Rattle.std.proofs.Common.{rules, ◌∙◌, ◌≤◌, length, tests, map}
use Rattle.std.specs.Str.Parse.{starts_with_minus}
use Rattle.std.specs.Prelude.{string_bytes}
use Rattle.std.proofs.lemmas.Iterator.{YieldsList-from_slice}
use Rattle.std.proofs.lemmas.Iterator.Search.{any_from_yields_List}
use Rattle.std.proofs.lemmas.List.{length-map}
use Rattle.clap.proofs.WalkLemmas.{list_any-map}
use Rattle.poets_words.proofs.Forms.{plain_where_none}
use Rattle.poets_words.proofs.reading.is_plain.Goals as goal

pub returns-then-contains : goal.returns-then-contains
returns-then-contains c =
    let words = c.args.words.now in
    let any = any_from_yields_List (λ w. starts_with_minus (string_bytes w)) _ _ _ c.any.ensures.ran (YieldsList-from_slice words cc) (λ x b q k. search (rules, tests)) in
    let few : (1 ≤ length words) × (length words ≤ 2) = search rules in
    plain_where_none (map string_bytes words) c.any.result (any ∙ list_any-map starts_with_minus string_bytes words) (rw length-map few)
