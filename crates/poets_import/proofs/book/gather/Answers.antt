use Rattle.std.proofs.Common.{◌∷◌, [], List, sym, subst}
use Rattle.std.proofs.lemmas.List.{map-append}
use Rattle.poets_command.specs.Said.{Statement}
use Rattle.poets_command.specs.Statements.{statement_of, statements_of}
use Rattle.poets_import.specs.code.Gathering.{IsDeclaredBy}
use Rattle.poets_import.proofs.Gatherings.{declared_more}
use Rattle.poets_import.proofs.book.gather.Goals as goal

pub loop-statement-preserved : goal.loop-statement-preserved
loop-statement-preserved c =
    let ss = c.loop-statement.yielded in
    let s = c.in-Some.statement in
    subst (λ (all : List Statement). IsDeclaredBy all c.add.new.declared) (sym (map-append statement_of ss (s ∷ [])))
    (declared_more (statements_of ss) (statement_of s) c.loop-statement.declared c.add.new.declared c.loop-statement.invariant c.in_ok-add.ensures)
