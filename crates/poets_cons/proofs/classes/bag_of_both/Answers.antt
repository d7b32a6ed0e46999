use Rattle.std.proofs.Common.{sym, subst}
use Rattle.std.proofs.lemmas.Result.{IfOk-weaker}
use Rattle.poets_cons.specs.code.Bags.{IsBagOfBoth}
use Rattle.poets_cons.specs.code.Classes.{AreShapes, IsBagOfClasses}
use Rattle.poets_cons.proofs.Classing.{classes_joined, shapes_same}
use Rattle.poets_cons.proofs.classes.bag_of_both.Goals as goal

pub bag_of_class-requires-2-clause-shapes : goal.bag_of_class-requires-2-clause-shapes
bag_of_class-requires-2-clause-shapes c =
    subst AreShapes (sym (shapes_same c.args.bags.now.keys c.bag_of_class.new.bags.keys c.args.shapes.now.keys c.in_ok-first.ensures.grows c.requires.shapes))
    c.requires.shapes

pub returns-clause-bag : goal.returns-clause-bag
returns-clause-bag c =
    let old = c.args.bags.now.keys in
    let mid = c.bag_of_class.new.bags.keys in
    let later = c.bag_of_class-2.new.bags.keys in
    let new = c.join.new.bags.keys in
    let keys = c.args.shapes.now.keys in
    let x = c.in_ok-first.ensures in
    let y = c.in_ok-second.ensures in
    let m = c.in_ok-first.first in
    let n = c.in_ok-second.second in
    IfOk-weaker c.join.result (IsBagOfBoth later m n new) (IsBagOfClasses old new keys c.args.a c.args.b)
    (λ j z. classes_joined old mid later new keys c.requires.shapes x.grows y.grows c.args.a c.args.b m n j x.bag y.bag z) c.join.ensures.number
