use Rattle.std.proofs.Common.{List, sym, subst}
use Rattle.poets_lex.specs.declared.token.Token.{Token}
use Rattle.poets_grammar.specs.Tokens.{toks}
use Rattle.poets_import.specs.Phrases.{Called, Say}
use Rattle.poets_import.proofs.OneWay.{say_same}
use Rattle.poets_import.proofs.phrases.name_in.Goals as goal

pub returns-clause-none : goal.returns-clause-none
returns-clause-none c = λ e x after h.
    c.in-None.ensures.none x
    (subst (λ (ts : List Token). Say (toks ts) (Called x)) (sym c.as_slice.ensures) (say_same c.in_ok-tokens.ensures.cut h.says).0)
