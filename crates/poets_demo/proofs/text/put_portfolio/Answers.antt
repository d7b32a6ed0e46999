use Rattle.std.proofs.Common.{◌≡◌, ◌++◌, ◌-◌, string_bytes, append_assoc, arith, ap, ◌∙◌, sym}
use Rattle.std.specs.Prelude.{codes}
use Rattle.std.specs.List.{flat_map, range_with_len}
use Rattle.poets_demo.specs.Text.{sale_name, line, portfolio}
use Rattle.poets_demo.proofs.Putting.{line_of_parts, three_more, join_by-numbers_to}
use Rattle.poets_demo.proofs.text.put_portfolio.Goals as goal

pub returns : goal.returns
returns c =
    let names = join_by-numbers_to (sale_name c.args.clerk) (codes ", ") c.args.sales (c.args.sales - 1) (omega arith) in
    let others = flat_map (λ sale. codes ", " ++ sale_name c.args.clerk sale) (range_with_len 2 (c.args.sales - 1)) in
    let first : string_bytes c.write.new.self ≡ string_bytes c.args.text.now ++ (codes "portfolio paid() over " ++ sale_name c.args.clerk 1) = simp append_assoc (simp append_assoc at c.in_ok-write.ensures.bytes) in
    let whole : string_bytes c.writeln.new.self ≡ string_bytes c.args.text.now ++ ((codes "portfolio paid() over " ++ sale_name c.args.clerk 1) ++ others ++ line (codes ";;")) =
    three_more _ _ _ _ _ _ _ first c.in_ok-put_more_names.ensures c.in_ok-writeln.ensures.bytes in
    let all : (codes "portfolio paid() over " ++ sale_name c.args.clerk 1) ++ others ++ line (codes ";;") ≡ portfolio c.args.clerk c.args.sales =
    line_of_parts (codes "portfolio paid() over ") (sale_name c.args.clerk 1) others (codes ";;") ∙ ap (λ n. line (codes "portfolio paid() over " ++ n ++ codes ";;")) (sym names) in
    whole ∙ ap (λ s. string_bytes c.args.text.now ++ s) all
