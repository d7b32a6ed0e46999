-- Transmissions that take an event.
use Rattle.std.specs.Prelude.{ℕ, Bool, List, []}
use Rattle.poets_value.specs.declared.event.Event.{Event}
use Rattle.poets_expr.specs.declared.env.Decls.{Decls}
use Rattle.poets_expr.specs.declared.expr.Expr.{Expr}
use Rattle.poets_expr.specs.Env.{declared_of}
use Rattle.poets_expr.specs.Expression.{expression_of}
use Rattle.poets_expr.specs.Val.{val}
use Rattle.poets_syntax.specs.declared.term.Binders.{Binders}
use Rattle.poets_syntax.specs.Book.{taken}
use Rattle.poets_syntax.specs.Contract.{Contract, Transmit}
use Rattle.poets_syntax.specs.Replace.{replace}
use Rattle.poets_syntax.specs.Givens.{event_givens}
use Rattle.poets_meaning.specs.Truth.{is_true}
use Rattle.poets_meaning.specs.Studied.{StudiedBook}
use Rattle.poets_calculus.specs.InStudied.{normal_in}
use Rattle.poets_cons.specs.declared.node.Node.{Node}
use Rattle.poets_cons.specs.Table.{contract_at}

-- whether the predicate of a transmission holds of the event
abbrev pub holds_of : Decls → Binders → Event → (when : Expr) → Bool
holds_of decls binders e when = is_true (val (declared_of decls.names) (taken binders e []) (expression_of when))

-- what a transmission before a row leads to where it took the event: the row's contract with the
-- binders replaced, in normal form
abbrev pub taken_at : StudiedBook → Binders → Event → List Node → (then : ℕ) → Contract
taken_at s binders e nodes then = normal_in s (replace (event_givens binders e) (contract_at nodes then))

-- a transmission before the contract of a row
abbrev pub sending : Binders → (when : Expr) → List Node → (then : ℕ) → Contract
sending binders when nodes then = Transmit binders (expression_of when) (contract_at nodes then)
