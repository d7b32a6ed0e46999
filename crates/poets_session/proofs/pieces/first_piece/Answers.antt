use Rattle.std.proofs.Common.{◌+◌, ◌∷◌, All, true, take, sym, ap, ◌∙◌, subst}
use Rattle.std.proofs.lemmas.List.{take_rest}
use Rattle.std.proofs.lemmas.List.Elements.{All-take, All-drop}
use Rattle.poets_lex.specs.declared.token.Token.{Token}
use Rattle.poets_grammar.specs.Tokens.{toks, IsNatural}
use Rattle.poets_session.specs.Pieces.{pieces_of}
use Rattle.poets_session.specs.code.Splitting.{piece}
use Rattle.poets_session.proofs.pieces.first_piece.Goals as goal

pub returns-in-Some-clause-piece : goal.returns-in-Some-clause-piece
returns-in-Some-clause-piece c =
    let l = c.args.tokens.now in let n = c.in-Some.length in
    c.in-Some.ensures.cut ∙ ap (λ r. piece (toks (take n l)) true ∷ pieces_of (toks r)) (sym (take_rest l (n + 1)))

pub returns-in-Some-clause-natural : goal.returns-in-Some-clause-natural
returns-in-Some-clause-natural c =
    let l = c.args.tokens.now in let n = c.in-Some.length in let P : Token → Type 0 = λ t. IsNatural t.what in
    λ h. (All-take P n l h, subst (All P) (sym (take_rest l (n + 1))) (All-drop P (n + 1) l h))
