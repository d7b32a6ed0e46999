-- What a template's body says of the arguments.
use Rattle.std.specs.Prelude.{List, map}
use Rattle.poets_expr.specs.declared.expr.Expr.{Expr}
use Rattle.poets_expr.specs.Expression.{expression_of}
use Rattle.poets_syntax.specs.declared.term.Template.{Template}
use Rattle.poets_syntax.specs.Book.{book_of}
use Rattle.poets_syntax.specs.Contract.{Contract, contract_of}
use Rattle.poets_syntax.specs.Replace.{replace}
use Rattle.poets_syntax.specs.Givens.{argument_givens}
use Rattle.poets_meaning.specs.Studied.{StudiedBook}

-- the template's body with its parameters replaced
abbrev pub body_with : StudiedBook → Template → List Expr → Contract
body_with s t args =
    replace (argument_givens (book_of s.book).declared t.params.items (map expression_of args)) (contract_of t.body)
