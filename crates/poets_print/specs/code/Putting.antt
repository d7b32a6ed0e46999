-- Texts of values as the code has them.
use Rattle.std.specs.Prelude.{ℕ, Bool, List, map}
use Rattle.poets_value.specs.declared.value.Name.{Name}
use Rattle.poets_expr.specs.declared.expr.Expr.{Expr}
use Rattle.poets_expr.specs.Expression.{expression_of}
use Rattle.poets_syntax.specs.declared.term.Term.{Term}
use Rattle.poets_syntax.specs.Contract.{contract_of}
use Rattle.poets_report.specs.declared.report.Answer.{Answer}
use Rattle.poets_command.specs.declared.call.Folio.{Folio}
use Rattle.poets_command.specs.Calls.{folio_row_of}
use Rattle.poets_command.specs.Plain.{Reply}
use Rattle.poets_lex.specs.Table.{Table}
use Rattle.poets_print.specs.Texts.{name_text, bracketed, behind_commas, listed, expression_text}
use Rattle.poets_print.specs.Texts.{contract_text}
use Rattle.poets_print.specs.Lines.{part_text, reply_text}

-- names, with `, ` between them
abbrev pub names_text : Table → List Name → List ℕ
names_text names xs = listed (name_text names) xs

-- arguments, each after `, `
abbrev pub more_arguments : Table → List Expr → List ℕ
more_arguments names args = behind_commas (expression_text names) (map expression_of args)

-- parts of a portfolio, each after `, `
abbrev pub more_parts : Table → List (Name × Answer) → List ℕ
more_parts names parts = behind_commas (part_text names) (map folio_row_of parts)

-- a part of an expression, in brackets or not
abbrev pub expression_part : Table → Bool → Expr → List ℕ
expression_part names in_brackets part = bracketed in_brackets (expression_text names (expression_of part))

-- a part of a contract, in brackets or not
abbrev pub contract_part : Table → Bool → Term → List ℕ
contract_part names in_brackets part = bracketed in_brackets (contract_text names (contract_of part))

-- the parts of a portfolio, and its total where there is one
abbrev pub folio_text : Table → Folio → List ℕ
folio_text names folio = reply_text names (Reply.Folio (map folio_row_of folio.rows.items) folio.total)

-- what a contract's residual is, how many events it stands after, and whether it may end or was
-- ended
abbrev pub shown_text : Table → Term → ℕ → (may_end ended : Bool) → List ℕ
shown_text names residual count may_end ended =
    reply_text names (Reply.Shown (contract_of residual) count may_end ended)
