use Rattle.std.proofs.Common.{sym}
use Rattle.std.specs.Prelude.{string_bytes}
use Rattle.poets_lex.proofs.Found.{get-map}
use Rattle.poets_lex.proofs.names.Names.text.Goals as goal

pub returns-clause-name : goal.returns-clause-name
returns-clause-name c =
    let found = get-map string_bytes c.self.inside.texts.keys c.args.name.id c.in-Some.text.now (sym c.in-Some.ensures.key) in
    rw c.as_str.ensures.value (c.self.invariant.1 _ _ found).0

pub returns-clause-once : goal.returns-clause-once
returns-clause-once c =
    let found = get-map string_bytes c.self.inside.texts.keys c.args.name.id c.in-Some.text.now (sym c.in-Some.ensures.key) in
    rw (c.as_str.ensures.value, ← c.self.view_is) (c.self.invariant.1 _ _ found).1
