use Rattle.std.proofs.Common.{◌∙◌, Some, ap, sym}
use Rattle.std.specs.Option.{option_copied}
use Rattle.poets_cons.proofs.Classing.{parallel_bag}
use Rattle.poets_cons.proofs.classes.bag_of_class.Goals as goal

pub returns-in-Some-Parallel-clause-bag : goal.returns-in-Some-Parallel-clause-bag
returns-in-Some-Parallel-clause-bag c =
    let found = c.in-Some-Parallel in
    parallel_bag c.args.bags.now.keys c.args.shapes.now.keys c.requires.shapes c.args.class found.bag
    (sym c.get_index.ensures.key ∙ ap option_copied found.is ∙ ap Some found.field-0-is)
