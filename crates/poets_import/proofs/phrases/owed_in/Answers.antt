use Rattle.std.proofs.Common.{List, sym, subst}
use Rattle.std.proofs.lemmas.Result.{IfOk-weaker}
use Rattle.poets_lex.specs.declared.token.Token.{Token}
use Rattle.poets_syntax.specs.Contract.{contract_of}
use Rattle.poets_grammar.specs.Tokens.{AreNatural, toks}
use Rattle.poets_grammar.proofs.Lexed.{read_natural}
use Rattle.poets_import.specs.Phrases.{Owed, Say, Says}
use Rattle.poets_import.specs.code.Spoken.{AreNoContract}
use Rattle.poets_import.proofs.Unsaid.{unsaid}
use Rattle.poets_import.proofs.phrases.owed_in.Goals as goal

pub contract-requires : goal.contract-requires
contract-requires c = subst AreNatural (sym c.as_slice.ensures) (read_natural c.in_ok-tokens.ensures.cut)

pub returns-clause-said : goal.returns-clause-said
returns-clause-said c =
    let items = c.in_ok-tokens.tokens.items in
    IfOk-weaker c.contract.result (λ t. Say (toks items) (Owed (contract_of t)))
    (λ t. Says c.args.names.now c.args.text.now (Owed (contract_of t)) c.cut.new.names)
    (λ t say. record { tokens = items; cut = c.in_ok-tokens.ensures.cut; say = say })
    (rw c.as_slice.ensures at c.contract.ensures.said)

pub returns-clause-none : goal.returns-clause-none
returns-clause-none c = λ e.
    unsaid Owed c.args.names.now c.args.text.now c.in_ok-tokens.tokens.items c.cut.new.names c.in_ok-tokens.ensures.cut
    (subst (λ (ts : List Token). AreNoContract (toks ts)) c.as_slice.ensures (c.contract.ensures.none e))
