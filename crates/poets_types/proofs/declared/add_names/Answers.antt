use Rattle.std.proofs.Common.{◌≡◌, true, false, take, get_or, ◌∙◌, arith}
use Rattle.std.specs.Prelude.{◌||◌}
use Rattle.std.specs.BTreeSet.{contains}
use Rattle.std.proofs.Math.Bool.{or_assoc}
use Rattle.std.proofs.lemmas.List.Folds.{list_any_more}
use Rattle.poets_value.specs.Names.{name_cmp}
use Rattle.poets_expr.specs.Env.{same_name}
use Rattle.poets_syntax.specs.Typed.{is_among}
use Rattle.poets_types.proofs.Binders.{check_new_more}
use Rattle.poets_types.proofs.declared.add_names.Goals as goal

pub returns-then-not-branch-clause-told : goal.returns-then-not-branch-clause-told
returns-then-not-branch-clause-told c =
    let used = contains name_cmp c.args.seen.now in
    let i = c.loop-name.name-index in
    let x = get_or c.args.names.now i (record { id = 0 }) in
    let taken : (used x || is_among (take i c.args.names.now) x) ≡ true = grind (arith, c.loop-name.invariant.seen x) in
    c.loop-name.invariant.rest ∙ rw taken at (check_new_more used c.args.names.now i (record { id = 0 }) c.loop-name-test.true)

pub loop-name-preserved : goal.loop-name-preserved
loop-name-preserved c =
    let used = contains name_cmp c.args.seen.now in
    let i = c.loop-name.name-index in
    let x = get_or c.args.names.now i (record { id = 0 }) in
    let free : (used x || is_among (take i c.args.names.now) x) ≡ false = grind (arith, c.loop-name.invariant.seen x) in
    record {
      rest = c.loop-name.invariant.rest ∙ rw free at (check_new_more used c.args.names.now i (record { id = 0 }) c.loop-name-test.true);
      seen = λ y.
          let more = list_any_more (same_name y) c.args.names.now i (record { id = 0 }) c.loop-name-test.true in
          let kept = c.loop-name.invariant.seen y in
          rw (more, ← or_assoc (used y) (is_among (take i c.args.names.now) y) (same_name y x), ← kept) (c.in_ok-add.ensures.names y);
    }
