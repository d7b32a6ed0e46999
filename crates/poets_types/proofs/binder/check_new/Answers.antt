use Rattle.std.proofs.Common.{◌≡◌, true, false, take, get_or, refl, ◌∙◌, arith}
use Rattle.std.specs.Prelude.{◌||◌}
use Rattle.poets_syntax.specs.Typed.{in_use, is_among}
use Rattle.poets_types.specs.code.Indices.{book_in, reports_in}
use Rattle.poets_types.proofs.Binders.{check_new_more}
use Rattle.poets_types.proofs.binder.check_new.Goals as goal

pub returns-then-is_taken : goal.returns-then-is_taken
returns-then-is_taken c =
    let used = in_use (book_in c.args.index.now) (reports_in c.args.index.now) in
    let x = get_or c.args.names.now c.loop-place.place (record { id = 0 }) in
    let more = check_new_more used c.args.names.now c.loop-place.place (record { id = 0 }) c.loop-place-test.true in
    let taken : (used x || is_among (take c.loop-place.place c.args.names.now) x) ≡ true = grind arith in
    rw (c.loop-place.invariant ∙ more, taken) refl

pub loop-place-preserved : goal.loop-place-preserved
loop-place-preserved c =
    let used = in_use (book_in c.args.index.now) (reports_in c.args.index.now) in
    let x = get_or c.args.names.now c.loop-place.place (record { id = 0 }) in
    let more = check_new_more used c.args.names.now c.loop-place.place (record { id = 0 }) c.loop-place-test.true in
    let free : (used x || is_among (take c.loop-place.place c.args.names.now) x) ≡ false = grind arith in
    c.loop-place.invariant ∙ rw free at more
