use Rattle.std.proofs.Common.{arith}
use Rattle.poets_demo.specs.Text.{sale_lines}
use Rattle.poets_demo.proofs.Putting.{one_more}
use Rattle.poets_demo.proofs.text.put_sales.Goals as goal

pub loop-sale-preserved : goal.loop-sale-preserved
loop-sale-preserved c =
    one_more (sale_lines c.args.clerk) _ c.loop-sale.sale _ _ _ _ (omega arith) c.loop-sale.invariant c.in_ok-put_sale.ensures (omega arith)

pub returns-in_ok-put_sale : goal.returns-in_ok-put_sale
returns-in_ok-put_sale c =
    one_more (sale_lines c.args.clerk) _ c.loop-sale.sale _ _ _ _ (omega arith) c.loop-sale.invariant c.in_ok-put_sale.ensures (omega arith)
