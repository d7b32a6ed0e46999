use Rattle.std.proofs.Common.{◌≡◌, ◌<◌, ◌^◌, take, pos, refl, arith, to_z, of_z, w64}
use Rattle.std.specs.Char.{is_ascii_digit}
use Rattle.std.specs.List.{prefix_len}
use Rattle.std.proofs.lemmas.Int.{ints}
use Rattle.poets_lex.specs.Bytes.{decimal}
use Rattle.poets_lex.proofs.Fronts.{front-passes}
use Rattle.poets_lex.proofs.Lexemes.{number-token, number-long}
use Rattle.poets_lex.proofs.lexeme.number.Goals as goal

pub decimal-requires : goal.decimal-requires
decimal-requires c = rw c.digit_count-count.ensures (front-passes is_ascii_digit c.args.text.now)

pub returns-in-Some-clause-ok : goal.returns-in-Some-clause-ok
returns-in-Some-clause-ok c = λ table.
    let text = c.args.text.now in
    let value : c.in-Some.number ≡ pos (decimal (take (prefix_len is_ascii_digit text) text)) = rw c.digit_count-count.ensures at c.in-Some.ensures.value in
    let small : decimal (take (prefix_len is_ascii_digit text) text) < 2 ^ 63 = rw c.digit_count-count.ensures at c.in-Some.ensures.small in
    let same : to_z w64 (of_z w64 c.in-Some.number) ≡ c.in-Some.number = omega (arith, ints) in
    rw (same, c.digit_count-count.ensures) (number-token table c.args.place text c.in-Some.number c.requires.digit value small)

pub returns-in-None-clause-fault : goal.returns-in-None-clause-fault
returns-in-None-clause-fault c =
    (refl, number-long c.args.text.now c.requires.digit (rw c.digit_count-count.ensures at c.in-None.ensures.large))
