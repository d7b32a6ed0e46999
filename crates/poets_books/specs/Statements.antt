-- The printed texts of statements.
use Rattle.std.specs.Prelude.{ℕ, List, [], ◌++◌, Option, Some, None, codes}
use Rattle.poets_expr.specs.Expression.{Expression}
use Rattle.poets_syntax.specs.declared.term.Param.{Param}
use Rattle.poets_report.specs.Plain.{Template, Report}
use Rattle.poets_command.specs.Said.{Statement, Agents, Kinds, Clerk, Journal, Command, Numbered}
use Rattle.poets_command.specs.Said as said
use Rattle.poets_lex.specs.Table.{Table}
use Rattle.poets_print.specs.Texts.{name_text, type_text, listed, expression_text, binders_text}
use Rattle.poets_print.specs.Texts.{contract_text}
use Rattle.poets_print.specs.Lines.{command_text}
use Rattle.poets_printed.specs.Numbered.{numbered_text}

-- `n: Int`
abbrev pub parameter_text : Table → Param → List ℕ
parameter_text names p = name_text names p.name ++ codes ": " ++ type_text p.ty

-- `(n: Int, a: Agent)`
abbrev pub parameters_text : Table → List Param → List ℕ
parameters_text names params = codes "(" ++ listed (parameter_text names) params ++ codes ")"

-- `template f(n: Int) = c`
abbrev pub template_text : Table → Template → List ℕ
template_text names t =
    codes "template " ++ name_text names t.name ++ parameters_text names t.params ++ codes " = "
    ++ contract_text names t.body

-- ` by e`, where there is a key
abbrev pub key_text : Table → Option Expression → List ℕ
key_text names None = []
key_text names (Some key) = codes " by " ++ expression_text names key

-- `fold x = e with (a, b, r, t) in e by e`
abbrev pub fold_text : Table → Report → List ℕ
fold_text names q =
    codes "fold " ++ name_text names q.carry ++ codes " = " ++ expression_text names q.start
    ++ codes " with (" ++ binders_text names q.binders ++ codes ") in " ++ expression_text names q.step
    ++ key_text names q.key

-- `report q(n: Int): Int = fold x = e with (a, b, r, t) in e by e`
abbrev pub report_text : Table → Report → List ℕ
report_text names q =
    codes "report " ++ name_text names q.name ++ parameters_text names q.params ++ codes ": " ++ type_text q.ty
    ++ codes " = " ++ fold_text names q

-- the text of a statement, without the `;;` after it
abbrev pub statement_text : Table → Statement → List ℕ
statement_text names (Agents xs) = codes "agents " ++ listed (name_text names) xs
statement_text names (Kinds xs) = codes "kinds " ++ listed (name_text names) xs
statement_text names (said.Template t) = template_text names t
statement_text names (said.Report q) = report_text names q
statement_text names Clerk = codes "clerk"
statement_text names Journal = codes "journal"
statement_text names (Command c) = command_text names c
statement_text names (Numbered clerk c) = numbered_text names clerk c
