use Rattle.std.proofs.Common.{◌≡◌, ◌++◌, ◌-◌, arith}
use Rattle.std.specs.Prelude.{codes}
use Rattle.poets_demo.specs.Text.{sale_name}
use Rattle.poets_demo.proofs.Putting.{one_more}
use Rattle.poets_demo.proofs.text.put_more_names.Goals as goal

pub loop-sale-preserved : goal.loop-sale-preserved
loop-sale-preserved c = record {
  so_far = one_more (λ sale. codes ", " ++ sale_name c.args.clerk sale) _ c.loop-sale.sale _ _ _ _ (omega arith) c.loop-sale.invariant.so_far c.in_ok-put_next_name.ensures (omega arith);
  within = omega arith;
}

pub returns : goal.returns
returns c =
    let count : c.loop-sale.sale - 2 ≡ c.args.sales - 1 = omega arith in
    rw count at c.loop-sale.invariant.so_far

pub returns-in_ok-put_next_name : goal.returns-in_ok-put_next_name
returns-in_ok-put_next_name c =
    one_more (λ sale. codes ", " ++ sale_name c.args.clerk sale) _ c.loop-sale.sale _ _ _ _ (omega arith) c.loop-sale.invariant.so_far c.in_ok-put_next_name.ensures (omega arith)
