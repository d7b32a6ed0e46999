use Rattle.std.proofs.Common.{◌≡◌, ◌++◌, take}
use Rattle.poets_grammar.specs.Tokens.{AreNatural, toks}
use Rattle.poets_import.specs.Phrases.{registration}
use Rattle.poets_import.proofs.phrases.registered.Given as goal

-- the tokens so far stand behind `register x =`
abbrev pub invariant-loop-token : goal.invariant-loop-token
invariant-loop-token l = record {
  tokens : toks l.all.items ≡ registration ++ toks (take l.token-index l.tokens);
  natural : AreNatural l.all.items;
}
