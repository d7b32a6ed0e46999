use Rattle.std.proofs.Common.{◌≡◌, ◌++◌}
use Rattle.poets_books.specs.Books.{names_with}
use Rattle.poets_books.proofs.books.names_with.Given as goal

-- the names so far stand before those that are left
abbrev pub invariant-loop-name : goal.invariant-loop-name
invariant-loop-name l = l.found.items ++ names_with l.ty l.name-iterator ≡ names_with l.ty l.decls.names.entries
