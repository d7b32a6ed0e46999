-- What a reader of the code answers, against reading on lists.
use Rattle.std.specs.Prelude.{◌≡◌, ◌<◌, List, length, map, Option, Result, Ok, Err, IfOk, option_map}
use Rattle.std.specs.Borrow.{Bor}
use Rattle.poets_value.specs.Listed.{Listed}
use Rattle.poets_value.specs.declared.value.Name.{Name}
use Rattle.poets_value.specs.declared.value.Ty.{Ty}
use Rattle.poets_expr.specs.declared.expr.Expr.{Expr}
use Rattle.poets_expr.specs.Expression.{Expression, expression_of}
use Rattle.poets_syntax.specs.declared.term.Param.{Param}
use Rattle.poets_syntax.specs.declared.term.Term.{Term}
use Rattle.poets_syntax.specs.Contract.{contract_of}
use Rattle.poets_lex.specs.declared.token.Tok.{Tok}
use Rattle.poets_lex.specs.declared.token.Token.{Token}
use Rattle.poets_grammar.specs.Tokens.{toks}
use Rattle.poets_grammar.specs.Reading.{Answer, Reading, Reader, Link, expression}
use Rattle.poets_grammar.specs.ContractReading.{ContractReader, simple}
use Rattle.poets_parse.specs.declared.fault.SyntaxFault.{SyntaxFault}
use Rattle.poets_parse.specs.declared.fault.SyntaxFault.TheVariants as F
use Rattle.poets_parse.specs.declared.fault.ReadFault.{ReadFault}
use Rattle.poets_parse.specs.declared.fault.ReadFault.TheVariants as R

-- a refusal comes where nothing is read, and at its place; memory may run out anywhere
abbrev pub Refuses : {Y : Type 0} → ReadFault → Answer Y → Type 0
Refuses (R.Unfit left) read = read ≡ Err left
Refuses R.Memory read = Unit {0}

-- what a reader's fault is to those who ask for a statement
abbrev pub syntax_fault : ReadFault → SyntaxFault
syntax_fault (R.Unfit left) = F.NoSentence
syntax_fault R.Memory = F.Memory

-- the answer, as it is viewed, is what is read
abbrev pub Gives : {X Y : Type 0} → (X → Y) → Result X ReadFault → Answer Y → Type 0
Gives view (Ok x) read = read ≡ Ok (view x)
Gives view (Err fault) read = Refuses fault read

-- the same of a reader that answers what stands after, too
abbrev pub GivesFront : {X Y : Type 0} → (X → Y) → Result (X × Bor (List Token)) ReadFault → Reading Y → Type 0
GivesFront view result read = Gives (λ p. (view p.0, toks p.1.now)) result read

-- the answer is the expression that the rule reads, over the reader of whole expressions
abbrev pub GivesExpression : (Reader → Reader) → List Token → Result (Expr × Bor (List Token)) ReadFault → Type 0
GivesExpression rule tokens result = GivesFront expression_of result (rule expression (toks tokens))

-- the answer is the contract that the rule reads, over the reader of simple contracts
abbrev pub GivesContract : (ContractReader → ContractReader) → List Token → Result (Term × Bor (List Token)) ReadFault →
    Type 0
GivesContract rule tokens result = GivesFront contract_of result (rule simple (toks tokens))

-- the answer is the list that is read, by its items
abbrev pub GivesItems : {X : Type 0} → Result (Listed X × Bor (List Token)) ReadFault → Reading (List X) → Type 0
GivesItems result read = GivesFront (λ l. l.items) result read

-- the expressions of a list, as plain data
abbrev pub expressions_of : Listed Expr → List Expression
expressions_of args = map expression_of args.items

-- the answer is the list of arguments that is read, by its expressions as plain data
abbrev pub GivesArguments : Result (Listed Expr × Bor (List Token)) ReadFault → Reading (List Expression) → Type 0
GivesArguments result read = GivesFront expressions_of result read

-- the name, the parameters and the type of a report, as plain data
abbrev pub head_of : Name × Listed Param × Ty → Name × List Param × Ty
head_of head = (head.0, head.1.items, head.2)

-- the name of what a report carries, and its start, as plain data
abbrev pub start_of : Name × Expr → Name × Expression
start_of start = (start.0, expression_of start.1)

-- the step of a report and its key, as plain data
abbrev pub step_of : Expr × Option Expr → Expression × Option Expression
step_of step = (expression_of step.0, option_map expression_of step.1)

-- the answer is the tokens after what is read, and nothing where it does not stand there
abbrev pub Finds : Option (Bor (List Token)) → Option (List Tok) → Type 0
Finds found read = option_map (λ r. toks r.now) found ≡ read

-- the answer is what is read and the tokens after it, and nothing where it does not stand there
abbrev pub FindsFront : {X : Type 0} → Option (X × Bor (List Token)) → Link X → Type 0
FindsFront found read = option_map (λ p. (p.0, toks p.1.now)) found ≡ read

-- what is made is this expression, if memory is found for it
abbrev pub Makes : {E : Type 0} → Result Expr E → Expression → Type 0
Makes result e = IfOk result (λ made. expression_of made ≡ e)

-- less of the tokens stands after what was read
abbrev pub LeavesLess : {X : Type 0} → List Token → Result (X × Bor (List Token)) ReadFault → Type 0
LeavesLess tokens result = IfOk result (λ p. length p.1.now < length tokens)
