-- Loops over operands that links join.
use Rattle.std.proofs.Common.{◌≡◌, ◌<◌, List, length, Some, Ok, sym, subst, arith}
use Rattle.std.proofs.lemmas.List.{length-map}
use Rattle.poets_lex.specs.declared.token.Tok.{Tok}
use Rattle.poets_lex.specs.declared.token.Token.{Token}
use Rattle.poets_grammar.specs.Tokens.{toks}
use Rattle.poets_grammar.specs.Reading.{Reading, Link, joined}
use Rattle.poets_grammar.proofs.Joined.{Goes, begins, goes_on, joined_fails, ends_at, fails_at}

-- reading the tokens is to go on at the rest with what was joined so far
pub record Joining {J A : Type 0} (link : List Tok → Link J) (join : J → A → A → A) (operand : List Tok → Reading A) (tokens : List Token) (left : A) (rest : List Token) : Type 0 where
  pub goes : Goes link join operand (joined link join operand) (toks tokens) left (toks rest)
  pub less : length rest < length tokens

-- a link and an operand follow
pub joining_next : {J A : Type 0} (link : List Tok → Link J) (join : J → A → A → A) (operand : List Tok → Reading A) {tokens rest : List Token} (behind after : List Token) {a b c : A} {j : J} →
    Joining link join operand tokens a rest → link (toks rest) ≡ Some (j, toks behind) → length behind < length rest →
    operand (toks behind) ≡ Ok (b, toks after) → length after < length behind → c ≡ join j a b → Joining link join operand tokens c after
joining_next link join operand {tokens} {rest} behind after i l s o t e =
    let shorter : length (toks after) < length (toks rest) = omega (arith, length-map after (λ x. x.what), length-map rest (λ x. x.what)) in
    record { goes = subst (λ x. Goes link join operand (joined link join operand) (toks tokens) x (toks after)) (sym e) (goes_on link join operand i.goes l o shorter); less = omega (arith, i.less) }

-- the first operand, and the ends of a loop
pub ruleset joining = (begins, joined_fails, ends_at, fails_at)
