use Rattle.std.proofs.Common.{map, take}
use Rattle.poets_import.specs.code.Gathering.{Declares}
use Rattle.poets_import.proofs.book.declare.Given as goal

-- the names so far are declared
abbrev pub invariant-loop-name : goal.invariant-loop-name
invariant-loop-name l = Declares (map (λ x. (x, l.ty)) (take l.name-index l.names)) l.initial.decls l.decls
