use Rattle.poets_syntax.specs.Book.{book_of}
use Rattle.poets_command.specs.Statements.{statements_of}
use Rattle.poets_command.specs.Declarations.{book_from}
use Rattle.poets_session.proofs.Cycling.{cycle_declared, cycle_told, unguarded_cycle}
use Rattle.poets_session.proofs.checking.study_book.Goals as goal

pub unreachable-requires-in_default-number_of : goal.unreachable-requires-in_default-number_of
unreachable-requires-in_default-number_of c =
    let cycle = c.in-Err-Unguarded.cycle in let statements = statements_of c.args.statements.now in
    cycle_declared c.args.statements.now cycle.items c.in-Some.first.now
    (unguarded_cycle (book_of c.args.book) (book_from statements) c.in-Err-Unguarded.field-0 cycle c.requires.book c.in-Err-Unguarded.field-0-is c.in-Err-Unguarded.ensures.unguarded)
    c.in-Some.ensures.found c.in_default-number_of.ensures.none

pub returns-clause-unguarded : goal.returns-clause-unguarded
returns-clause-unguarded c =
    let cycle = c.in-Err-Unguarded.cycle in let statements = statements_of c.args.statements.now in
    cycle_told statements c.in-Some-number_of.statement cycle c.in-Some.first.now
    (unguarded_cycle (book_of c.args.book) (book_from statements) c.in-Err-Unguarded.field-0 cycle c.requires.book c.in-Err-Unguarded.field-0-is c.in-Err-Unguarded.ensures.unguarded)
    c.in-Some.ensures.found c.in-Some-number_of.ensures.found
