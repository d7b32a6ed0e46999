use Rattle.std.proofs.Common.{◌≡◌, ◌++◌, ◌*◌, string_bytes, append_assoc}
use Rattle.std.specs.Prelude.{codes}
use Rattle.poets_demo.specs.Text.{registration, delivery, payment, ending}
use Rattle.poets_demo.proofs.Putting.{five_more}
use Rattle.poets_demo.proofs.text.put_sale.Goals as goal

pub returns : goal.returns
returns c =
    let clerk = c.args.clerk in
    let sale = c.args.sale in
    let first : string_bytes c.writeln.new.self ≡ string_bytes c.args.text.now ++ registration clerk sale = simp append_assoc (simp append_assoc at c.in_ok-writeln.ensures.bytes) in
    let second : string_bytes c.writeln-2.new.self ≡ string_bytes c.writeln.new.self ++ delivery clerk sale = simp append_assoc (simp append_assoc at c.in_ok-writeln-2.ensures.bytes) in
    let third : string_bytes c.writeln-3.new.self ≡ string_bytes c.writeln-2.new.self ++ payment clerk sale sale (codes "2006-05-04") = simp append_assoc (simp append_assoc at c.in_ok-writeln-3.ensures.bytes) in
    let fourth : string_bytes c.writeln-4.new.self ≡ string_bytes c.writeln-3.new.self ++ payment clerk sale (3 * sale) (codes "2006-06-02") = simp append_assoc (simp append_assoc at c.in_ok-writeln-4.ensures.bytes) in
    let fifth : string_bytes c.writeln-5.new.self ≡ string_bytes c.writeln-4.new.self ++ ending clerk sale = simp append_assoc (simp append_assoc at c.in_ok-writeln-5.ensures.bytes) in
    five_more _ _ _ _ _ _ _ _ _ _ _ first second third fourth fifth
