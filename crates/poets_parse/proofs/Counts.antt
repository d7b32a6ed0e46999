-- How many tokens there are.
use Rattle.std.proofs.Common.{◌≡◌, List, length, sym}
use Rattle.std.proofs.lemmas.List.{length-map}
use Rattle.poets_lex.specs.declared.token.Token.{Token}
use Rattle.poets_grammar.specs.Tokens.{toks}

pub as_many : (tokens : List Token) → length tokens ≡ length (toks tokens)
as_many tokens = sym (length-map tokens (λ t. t.what))
