-- Statements that are worked by hand: their tokens, and what they say.
use Rattle.std.specs.Prelude.{ℕ, List, [], ◌∷◌, replicate, pos, negsuc}
use Rattle.poets_value.specs.declared.value.Name.{Name}
use Rattle.poets_value.specs.declared.value.Value.TheVariants as V
use Rattle.poets_expr.specs.declared.expr.Op.TheVariants as O
use Rattle.poets_expr.specs.Expression.{Expression, Minus, Not, Literal, Unary, Binary}
use Rattle.poets_syntax.specs.Contract.{Contract, Success, Plus, Par, Seq, App}
use Rattle.poets_command.specs.Plain.{Register}
use Rattle.poets_command.specs.Said.{Statement, Agents, Command}
use Rattle.poets_lex.specs.declared.token.Word.TheVariants as W
use Rattle.poets_lex.specs.declared.token.Sign.TheVariants as S
use Rattle.poets_lex.specs.declared.token.Tok.{Tok}
use Rattle.poets_lex.specs.declared.token.Tok.TheVariants as K

abbrev pub number : ℕ → Tok
number n = K.Number (pos n)

abbrev pub literal : ℕ → Expression
literal n = Literal (V.Int (pos n))

abbrev pub name : ℕ → Name
name n = record { id = n }

-- 1 or 2 and not 3 = 4
abbrev pub mixed : List Tok
mixed = number 1 ∷ K.Word W.Or ∷ number 2 ∷ K.Word W.And ∷ K.Word W.Not ∷ number 3 ∷ K.Sign S.Equal ∷ number 4 ∷ []

abbrev pub mixed_tree : Expression
mixed_tree = Binary O.Or (literal 1) (Binary O.And (literal 2) (Unary Not (Binary O.Eq (literal 3) (literal 4))))

-- 1 - 2 - 3
abbrev pub less : List Tok
less = number 1 ∷ K.Sign S.Minus ∷ number 2 ∷ K.Sign S.Minus ∷ number 3 ∷ []

abbrev pub less_tree : Expression
less_tree = Binary O.Sub (Binary O.Sub (literal 1) (literal 2)) (literal 3)

-- 1 = 2 = 3
abbrev pub chained : List Tok
chained = number 1 ∷ K.Sign S.Equal ∷ number 2 ∷ K.Sign S.Equal ∷ number 3 ∷ []

-- -5
abbrev pub negative : List Tok
negative = K.Sign S.Minus ∷ number 5 ∷ []

abbrev pub negative_tree : Expression
negative_tree = Literal (V.Int (negsuc 4))

-- -(5)
abbrev pub negated : List Tok
negated = K.Sign S.Minus ∷ K.Sign S.LeftParen ∷ number 5 ∷ K.Sign S.RightParen ∷ []

abbrev pub negated_tree : Expression
negated_tree = Unary Minus (literal 5)

-- a() + b() || Success ; b()
abbrev pub joint : List Tok
joint =
    K.Name (name 0) ∷ K.Sign S.LeftParen ∷ K.Sign S.RightParen ∷ K.Sign S.Plus
    ∷ K.Name (name 1) ∷ K.Sign S.LeftParen ∷ K.Sign S.RightParen ∷ K.Sign S.DoubleBar
    ∷ K.Word W.Success ∷ K.Sign S.Semicolon
    ∷ K.Name (name 1) ∷ K.Sign S.LeftParen ∷ K.Sign S.RightParen ∷ []

abbrev pub joint_tree : Contract
joint_tree = Plus (App (name 0) []) (Par (App (name 1) []) (Seq Success (App (name 1) [])))

-- agents ann, bob
abbrev pub agents : List Tok
agents = K.Word W.Agents ∷ K.Name (name 0) ∷ K.Sign S.Comma ∷ K.Name (name 1) ∷ []

abbrev pub agents_said : Statement
agents_said = Agents (name 0 ∷ name 1 ∷ [])

-- register x = Success
abbrev pub registered : List Tok
registered = K.Word W.Register ∷ K.Name (name 0) ∷ K.Sign S.Equal ∷ K.Word W.Success ∷ []

abbrev pub registered_said : Statement
registered_said = Command (Register (name 0) Success)

-- agents ann,
abbrev pub cut_off : List Tok
cut_off = K.Word W.Agents ∷ K.Name (name 0) ∷ K.Sign S.Comma ∷ []

-- agents ann,,
abbrev pub two_commas : List Tok
two_commas = K.Word W.Agents ∷ K.Name (name 0) ∷ K.Sign S.Comma ∷ K.Sign S.Comma ∷ []

-- that many `(`
abbrev pub nested : ℕ → List Tok
nested n = replicate n (K.Sign S.LeftParen)

-- that many `+`
abbrev pub added : ℕ → List Tok
added n = replicate n (K.Sign S.Plus)
