use Rattle.std.proofs.Common.{◌-◌, sym, subst}
use Rattle.poets_grammar.specs.Tokens.{AreNatural}
use Rattle.poets_grammar.proofs.Lexed.{read_natural}
use Rattle.poets_mark.proofs.Named.{natural_ahead, natural_statement}
use Rattle.poets_mark.proofs.places.name_place.Goals as goal

pub faulty_token-requires-clause-all : goal.faulty_token-requires-clause-all
faulty_token-requires-clause-all c = subst AreNatural (sym c.as_slice-all.ensures) (read_natural c.in-Ok.ensures.ok)

pub faulty_token-requires-clause-own : goal.faulty_token-requires-clause-own
faulty_token-requires-clause-own c =
    let all = subst AreNatural (sym c.as_slice-all.ensures) (read_natural c.in-Ok.ensures.ok) in
    let rest = natural_statement (c.args.fault.now.statement - 1) c.as_slice-all.result.now all in
    subst AreNatural (sym c.ahead_of_end-own.ensures.ahead)
    (natural_ahead c.from_statement-rest.result.now (subst AreNatural (sym c.from_statement-rest.ensures) rest))
