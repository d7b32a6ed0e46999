-- The normal form and the residual of a contract in a studied book.
use Rattle.std.specs.Prelude.{List}
use Rattle.poets_value.specs.declared.event.Event.{Event}
use Rattle.poets_value.specs.declared.value.Name.{Name}
use Rattle.poets_expr.specs.Expression.{Expression}
use Rattle.poets_syntax.specs.Book.{book_of}
use Rattle.poets_syntax.specs.Contract.{Contract}
use Rattle.poets_meaning.specs.Studied.{StudiedBook, marks_of}
use Rattle.poets_calculus.specs.Normal.{app, normal}
use Rattle.poets_calculus.specs.Residual.{after}

-- the normal form of an application in a studied book (`app`)
abbrev pub app_in : StudiedBook → Name → List Expression → Contract
app_in s f args = app (book_of s.book) (marks_of s) f args

-- the normal form of the contract in a studied book (`normal`)
abbrev pub normal_in : StudiedBook → Contract → Contract
normal_in s c = normal (book_of s.book) (marks_of s) c

-- the residual of the contract by the event, in a studied book (`after`)
abbrev pub after_in : StudiedBook → Event → Contract → Contract
after_in s e c = after (book_of s.book) (marks_of s) e c
