-- Applications unfolded.
use Rattle.std.specs.Prelude.{◌≡◌, ◌+◌, ◌≤◌, ℕ, List, map, reverse, Some}
use Rattle.poets_expr.specs.declared.env.Decls.{Decls}
use Rattle.poets_expr.specs.declared.expr.Expr.{Expr}
use Rattle.poets_expr.specs.Env.{declared_of}
use Rattle.poets_expr.specs.Expression.{expression_of}
use Rattle.poets_expr.specs.Subst.{Givens}
use Rattle.poets_syntax.specs.declared.term.Param.{Param}
use Rattle.poets_syntax.specs.declared.term.Template.{Template}
use Rattle.poets_syntax.specs.Book.{template_of, book_of}
use Rattle.poets_syntax.specs.Contract.{Contract, contract_of}
use Rattle.poets_syntax.specs.Givens.{argument_givens}
use Rattle.poets_meaning.specs.Studied.{StudiedBook, marks_of}
use Rattle.poets_calculus.specs.Residual.{body_of}
use Rattle.poets_norm.specs.Asking.{to_ask}
use Rattle.poets_norm.specs.Questions.{questions}

-- the pairs are what the arguments give for the parameters, the newest last
abbrev pub AreGivens : Decls → List Param → List Expr → Givens → Type 0
AreGivens decls params args pairs =
    reverse pairs ≡ argument_givens (declared_of decls.names) params (map expression_of args)

-- the template's body with its parameters replaced, in normal form
abbrev pub unfolded : StudiedBook → Template → List Expr → Contract
unfolded s template args = body_of (book_of s.book) (marks_of s) (Some (template_of template)) (map expression_of args)

-- the sum of a number, of the arguments that have to be evaluated, and of the measure of the
-- template's body
abbrev pub with_body : (Contract → ℕ) → Template → List Expr → ℕ → ℕ
with_body measure template args n = n + to_ask args + measure (contract_of template.body)

-- what is evaluated to unfold the template need not be evaluated again in its body
abbrev pub Unfolds : StudiedBook → Template → List Expr → (old new : ℕ) → Type 0
Unfolds s template args old new = new + questions (unfolded s template args) ≤ with_body questions template args old
