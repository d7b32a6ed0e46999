use Rattle.std.proofs.Common.{◌≡◌, ℕ, ◌-◌, List, length, length-drop, take, take_all, drop, ap, ◌∙◌, subst, arith}
use Rattle.std.specs.Prelude.{unwrap_or}
use Rattle.poets_lex.specs.declared.token.Token.{Token}
use Rattle.poets_lex.specs.Table.{Table}
use Rattle.poets_lex.specs.Lexes.{Lexes}
use Rattle.poets_grammar.specs.Tokens.{toks}
use Rattle.poets_parse.specs.Sentences.{AreBegun}
use Rattle.poets_session.specs.Pieces.{ahead_of_end}
use Rattle.poets_mark.specs.Places.{statement_tokens, first_place}
use Rattle.poets_mark.proofs.places.stop_of.Goals as goal

pub returns : goal.returns
returns c =
    let text = c.args.text.now in
    let tokens = c.in-Ok.tokens.items in
    let count = c.in_ok-count.count in
    let rest : c.from_statement-rest.result.now ≡ statement_tokens (c.args.number - 1) tokens =
    c.from_statement-rest.ensures ∙ ap (statement_tokens (c.args.number - 1)) c.as_slice.ensures in
    let own = c.from_statement-rest.result.now in
    let cut : take (length own - count) (drop count own) ≡ drop count own =
    take_all (length own - count) (drop count own) (omega (arith, length-drop count own)) in
    let place : List Token → ℕ = λ ts. unwrap_or (first_place ts) (length text) in
    record {
      tokens = tokens;
      names = c.tokens.new.names;
      lexed = subst (λ (old : Table). Lexes old text 0 tokens c.tokens.new.names) c.new-names.ensures c.in-Ok.ensures.ok;
      count = count;
      begun =
          subst (λ (ts : List Token). AreBegun (toks ts) count) (c.ahead_of_end.ensures.ahead ∙ ap ahead_of_end rest)
          c.in_ok-count.ensures.exact;
      here = c.place_of_first.ensures ∙ ap place cut ∙ ap (λ (ts : List Token). place (drop count ts)) rest;
    }
