use Rattle.std.proofs.Common.{◌≡◌, ◌-◌}
use Rattle.poets_mark.specs.Places.{statement_tokens}
use Rattle.poets_mark.proofs.pieces.from_statement.Given as goal

-- the statement is so many statements on in the tokens that are left
abbrev pub invariant-loop : goal.invariant-loop
invariant-loop l = statement_tokens (l.number - l.counter) l.rest ≡ statement_tokens (l.number - 1) l.tokens
