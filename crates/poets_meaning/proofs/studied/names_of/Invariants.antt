use Rattle.std.proofs.Common.{◌≡◌, [], take}
use Rattle.indexmap.specs.IndexSet.{insert_all}
use Rattle.poets_expr.specs.Env.{same_name}
use Rattle.poets_meaning.proofs.Found.{names_of}
use Rattle.poets_meaning.proofs.studied.names_of.Given as goal

-- the names so far were entered
abbrev pub invariant-loop-template : goal.invariant-loop-template
invariant-loop-template l = l.names.keys ≡ insert_all same_name [] (names_of (take l.template-index l.templates))
