use Rattle.std.proofs.Common.{◌≡◌, ◌∙◌, ◌+◌, ◌+ℤ◌, ap, ap₂, sym, arith, w64, pos, Some, suc, subst, take}
use Rattle.std.specs.Prelude.{option_map}
use Rattle.std.specs.Int.{w128}
use Rattle.std.proofs.lemmas.Int.{ints, to_z-of_z}
use Rattle.poets_command.specs.Totals.{if_whole}
use Rattle.poets_folio.proofs.Sums.{sum_from, sum_stops, sum_more}
use Rattle.poets_folio.proofs.total.sum.Goals as goal

pub returns-in_err-number : goal.returns-in_err-number
returns-in_err-number c =
    c.from_residual.ensures
    ∙ sym (ap if_whole (sum_stops (Some (pos 0)) (Some c.loop-row.sum) c.loop-row.row-index c.args.rows.now c.row-item.result (c.loop-row.invariant.so_far ∙ ap Some c.loop-row.sum-is) c.loop-row-test.true c.row-item.is
    (c.number.ensures.adds c.loop-row.sum ∙ ap (option_map (λ n. c.loop-row.sum +ℤ n)) c.in_err-number.was)))

pub loop-row-preserved : goal.loop-row-preserved
loop-row-preserved c =
    let more : sum_from (Some (pos 0)) (take (suc c.loop-row.row-index) c.args.rows.now) ≡ Some (c.loop-row.sum +ℤ c.in_ok-number.field-0) =
    sum_more (Some (pos 0)) (Some c.loop-row.sum) c.loop-row.row-index c.args.rows.now c.row-item.result (c.loop-row.invariant.so_far ∙ ap Some c.loop-row.sum-is) c.loop-row-test.true c.row-item.is
    ∙ c.number.ensures.adds c.loop-row.sum ∙ ap (option_map (λ n. c.loop-row.sum +ℤ n)) c.in_ok-number.was in
    let next : suc c.loop-row.row-index ≡ c.loop-row.row-index + 1 = omega arith in
    let bits = to_z-of_z w128 c.plus-sum.result (omega (arith, ints)) in
    let range = c.in_ok-number.ensures.range in
    let number = to_z-of_z w64 c.in_ok-number.field-0 (omega (arith, ints, range)) in
    let sum : c.plus-sum.result ≡ c.loop-row.sum +ℤ c.in_ok-number.field-0 = c.plus-sum.ensures.sum ∙ ap₂ (λ a b. a +ℤ b) c.loop-row.sum-is number in
    let least = c.plus-sum.ensures.least in
    let greatest = c.plus-sum.ensures.greatest in
    let least_before = c.loop-row.invariant.least in
    let greatest_before = c.loop-row.invariant.greatest in
    record {
      so_far = subst (λ n. sum_from (Some (pos 0)) (take n c.args.rows.now) ≡ Some (c.loop-row.sum +ℤ c.in_ok-number.field-0)) next more ∙ ap Some (sym (bits ∙ sum));
      least = omega (arith, ints, bits, least, least_before);
      greatest = omega (arith, ints, bits, greatest, greatest_before);
    }
