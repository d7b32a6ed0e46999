use Rattle.std.proofs.Common.{List, sym, subst}
use Rattle.std.proofs.lemmas.Result.{IfOk-weaker}
use Rattle.poets_lex.specs.declared.token.Token.{Token}
use Rattle.poets_command.specs.Statements.{statement_of}
use Rattle.poets_grammar.specs.Tokens.{AreNatural, toks}
use Rattle.poets_grammar.proofs.Lexed.{read_natural}
use Rattle.poets_import.specs.Phrases.{AreSentence, Says, Sentence}
use Rattle.poets_import.specs.code.Spoken.{AreNoSentence}
use Rattle.poets_import.proofs.Unsaid.{unsaid}
use Rattle.poets_import.proofs.phrases.statement_in.Goals as goal

pub sentence-requires : goal.sentence-requires
sentence-requires c = subst AreNatural (sym c.as_slice.ensures) (read_natural c.in_ok-tokens.ensures.cut)

pub returns-clause-said : goal.returns-clause-said
returns-clause-said c =
    let items = c.in_ok-tokens.tokens.items in
    IfOk-weaker c.sentence.result (λ s. AreSentence (toks items) (statement_of s))
    (λ s. Says c.args.names.now c.args.text.now (Sentence (statement_of s)) c.cut.new.names)
    (λ s say. record { tokens = items; cut = c.in_ok-tokens.ensures.cut; say = say })
    (rw c.as_slice.ensures at c.sentence.ensures.said)

pub returns-clause-none : goal.returns-clause-none
returns-clause-none c = λ e.
    unsaid Sentence c.args.names.now c.args.text.now c.in_ok-tokens.tokens.items c.cut.new.names c.in_ok-tokens.ensures.cut
    (subst (λ (ts : List Token). AreNoSentence (toks ts)) c.as_slice.ensures (c.sentence.ensures.none e))
