use Rattle.poets_cons.specs.Table.{contract_at}
use Rattle.poets_cons.specs.code.Classes.{shapes_of}
use Rattle.poets_cons.proofs.Alikeness.{by_classes}
use Rattle.poets_cons.proofs.Classing.{later_class}
use Rattle.poets_cons.proofs.classes.same_class.Goals as goal

pub returns-clause-alike : goal.returns-clause-alike
returns-clause-alike c =
    let nodes = c.args.nodes.now in
    let first = later_class (shapes_of c.class_of.new.known) (shapes_of c.class_of-2.new.known) c.class_of-2.ensures.shapes (contract_at nodes c.args.a)
    c.in_ok-class.class c.in_ok-class.ensures.class in
    by_classes nodes c.requires.table c.args.a c.args.b c.requires.first c.requires.second c.class_of-2.new.known c.in_ok-other.ensures.known
    c.in_ok-class.class c.in_ok-other.other first c.in_ok-other.ensures.class
