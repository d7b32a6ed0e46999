use Rattle.std.proofs.Common.{rules}
use Rattle.poets_expr.specs.Env.{declared_of}
use Rattle.poets_literals.proofs.NameTexts.{found_name, no_other_name}
use Rattle.poets_literals.proofs.names.declared_name.Goals as goal

pub returns-in-Some-clause-found : goal.returns-in-Some-clause-found
returns-in-Some-clause-found c =
    found_name c.args.names.now (declared_of c.args.decls.now.names) c.args.ty c.args.text.now c.in_ok-name.name
    (search rules) (search rules)

pub returns-in_default-clause-none : goal.returns-in_default-clause-none
returns-in_default-clause-none c x h =
    no_other_name c.args.names.now (declared_of c.args.decls.now.names) c.args.ty c.args.text.now c.in_ok-name.name x
    (search rules) (λ e. search rules) h
