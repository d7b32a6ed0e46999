use Rattle.std.proofs.Common.{◌≡◌, get_or, arith}
use Rattle.poets_lex.proofs.Lexemes.{day-token, no-day}
use Rattle.poets_lex.proofs.lexeme.day.Goals as goal

pub returns-in_default-from_text-clause-none : goal.returns-in_default-from_text-clause-none
returns-in_default-from_text-clause-none c =
    no-day c.args.text.now (rw c.in_ok-get.ensures.lookup.0.2 at c.in_default-from_text.ensures.refuses)

pub returns-clause-some : goal.returns-clause-some
returns-clause-some c = λ table.
    let first : get_or c.args.text.now 0 0 ≡ 64 = omega arith in
    day-token table c.args.place c.args.text.now c.in-Ok.day c.in_ok-get.ensures.lookup.0.1 first (rw c.in_ok-get.ensures.lookup.0.2 at c.in-Ok.ensures.day)
