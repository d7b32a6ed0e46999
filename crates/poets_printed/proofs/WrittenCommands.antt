-- The tokens of a printed command, how many brackets are open in them, and how many operators they have.
use Rattle.std.proofs.Common.{◌≡◌, ℕ, suc, ◌+◌, ◌≤◌, List, [], ◌∷◌, refl, arith, pos}
use Rattle.poets_value.specs.declared.value.Name.{Name}
use Rattle.poets_expr.specs.Expression.{Expression}
use Rattle.poets_syntax.specs.Contract.{Contract}
use Rattle.poets_command.specs.Plain as plain
use Rattle.poets_command.specs.Plain.{Command}
use Rattle.poets_lex.specs.declared.token.Word.TheVariants as W
use Rattle.poets_lex.specs.declared.token.Sign.TheVariants as S
use Rattle.poets_lex.specs.declared.token.Tok.{Tok}
use Rattle.poets_lex.specs.declared.token.Tok.TheVariants as K
use Rattle.poets_grammar.specs.Statements.{IsCommand}
use Rattle.poets_printed.proofs.Measures.{Fits, marked, depth_of_all, contract_depth}
use Rattle.poets_printed.proofs.ContractDepths.{one_more_open, arguments_keep}
use Rattle.poets_printed.proofs.Operators.{no_more_operators, arguments_few}
use Rattle.poets_printed.proofs.Written.{fits_ahead}
use Rattle.poets_printed.proofs.WrittenContracts.{written_call, written_contract, fits_call, fits_contract}
use Rattle.poets_printed.proofs.WrittenContracts.{count_call, count_contract}

-- further names after commas, ahead of the others
abbrev pub written_after_name : List Name → List Tok → List Tok
written_after_name [] ts = ts
written_after_name (x ∷ xs) ts = K.Sign S.Comma ∷ K.Name x ∷ written_after_name xs ts

-- names with commas between them, ahead of the others
abbrev pub written_names : List Name → List Tok → List Tok
written_names [] ts = ts
written_names (x ∷ xs) ts = K.Name x ∷ written_after_name xs ts

-- the tokens of the printed command
abbrev pub written_command : Command → List Tok
written_command (plain.Register x c) = K.Word W.Register ∷ K.Name x ∷ K.Sign S.Equal ∷ written_contract c []
written_command (plain.Transmit x e) =
    K.Word W.Transmit ∷ K.Name x ∷ K.Name e.sender ∷ K.Name e.receiver ∷ K.Number e.what.amount ∷ K.Name e.what.kind
    ∷ K.Day e.day ∷ []
written_command (plain.Void x k) = K.Word W.Void ∷ K.Name x ∷ K.Number (pos k) ∷ []
written_command (plain.End x) = K.Word W.End ∷ K.Name x ∷ []
written_command (plain.Show x) = K.Word W.Show ∷ K.Name x ∷ []
written_command (plain.Tally q args) = K.Word W.Tally ∷ written_call q args []
written_command (plain.Portfolio q args names) =
    K.Word W.Portfolio ∷ written_call q args (K.Word W.Over ∷ written_names names [])
written_command (plain.Watch q args) = K.Word W.Watch ∷ written_call q args []
written_command (plain.Read n) = K.Word W.Read ∷ K.Number (pos n) ∷ []

-- ---- brackets

fits_after_name : (most : ℕ) (xs : List Name) → Fits most 0 (written_after_name xs [])
fits_after_name most [] = omega arith
fits_after_name most (x ∷ xs) = (omega arith, (omega arith, fits_after_name most xs))

fits_names : (most : ℕ) (xs : List Name) → Fits most 0 (written_names xs [])
fits_names most [] = omega arith
fits_names most (x ∷ xs) = (omega arith, fits_after_name most xs)

fits_over : (most : ℕ) (xs : List Name) → Fits most 0 (K.Word W.Over ∷ written_names xs [])
fits_over most xs = (omega arith, fits_names most xs)

-- a call of a report that was read, ahead of what fits
fits_asked :
    (most : ℕ) (q : Name) (args : List Expression) (ts : List Tok) → 0 + suc (depth_of_all args) ≤ suc most →
    Fits (suc most) 0 ts → Fits (suc most) 0 (written_call q args ts)
fits_asked most q args ts room h =
    fits_ahead (suc (depth_of_all args)) (written_call q args) (fits_call q args) (suc most) 0 ts room h

-- a contract that was read
fits_registered :
    (most : ℕ) (c : Contract) → contract_depth c ≤ suc most → Fits (suc most) 0 (written_contract c [])
fits_registered most c room =
    fits_ahead (contract_depth c) (written_contract c) (fits_contract c) (suc most) 0 [] (omega (arith, room))
    (omega arith)

-- printing a command that was read opens at most one bracket more
pub fits_command :
    {read : List Tok} {command : Command} (most : ℕ) →
    IsCommand read command → Fits most 0 read → Fits (suc most) 0 (written_command command)
fits_command most (IsCommand.Register {ts = ts} {c = c} r) h =
    (omega arith, (omega arith, (omega arith, fits_registered most c (one_more_open ts c most r h.1.1.1))))
fits_command most IsCommand.Transmit h =
    (omega arith, (omega arith, (omega arith, (omega arith, (omega arith, (omega arith, (omega arith, omega arith)))))))
fits_command most IsCommand.Void h = (omega arith, (omega arith, (omega arith, omega arith)))
fits_command most IsCommand.End h = (omega arith, (omega arith, omega arith))
fits_command most IsCommand.Show h = (omega arith, (omega arith, omega arith))
fits_command most (IsCommand.Tally {q = q} {args = args} r) h =
    (omega arith, fits_asked most q args [] (arguments_keep r most 0 h.1.1).0 (omega arith))
fits_command most (IsCommand.Portfolio {q = q} {args = args} {names = names} r over) h =
    let room = (arguments_keep r most 0 h.1.1).0 in
    let us = K.Word W.Over ∷ written_names names [] in
    (omega arith, fits_asked most q args us room (fits_over (suc most) names))
fits_command most (IsCommand.Watch {q = q} {args = args} r) h =
    (omega arith, fits_asked most q args [] (arguments_keep r most 0 h.1.1).0 (omega arith))
fits_command most IsCommand.Read h = (omega arith, (omega arith, omega arith))

-- ---- operators

count_after_name : (xs : List Name) → marked (written_after_name xs []) ≡ 0
count_after_name [] = refl
count_after_name (x ∷ xs) = omega (arith, count_after_name xs)

count_names : (xs : List Name) → marked (written_names xs []) ≡ 0
count_names [] = refl
count_names (x ∷ xs) = omega (arith, count_after_name xs)

-- printing a command that was read has no operator more
pub count_command :
    {read : List Tok} {command : Command} → IsCommand read command → marked (written_command command) ≤ marked read
count_command (IsCommand.Register {ts = ts} {c = c} r) =
    omega (arith, no_more_operators ts c r, count_contract c [])
count_command IsCommand.Transmit = omega arith
count_command IsCommand.Void = omega arith
count_command IsCommand.End = omega arith
count_command IsCommand.Show = omega arith
count_command (IsCommand.Tally {q = q} {args = args} r) = omega (arith, arguments_few r, count_call q args [])
count_command (IsCommand.Portfolio {q = q} {args = args} {names = names} r over) =
    let us = K.Word W.Over ∷ written_names names [] in
    omega (arith, arguments_few r, count_call q args us, count_names names)
count_command (IsCommand.Watch {q = q} {args = args} r) = omega (arith, arguments_few r, count_call q args [])
count_command IsCommand.Read = omega arith
