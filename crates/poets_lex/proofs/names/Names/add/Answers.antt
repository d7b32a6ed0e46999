use Rattle.std.proofs.Common.{◌≡◌, ℕ, ◌<◌, ◌^◌, None, arith, sym, List, [], ◌∷◌, ◌++◌, length, length-append, subst, ap}
use Rattle.std.specs.Prelude.{string_bytes}
use Rattle.poets_lex.specs.Table.{place_of, texts_of, IsTable}
use Rattle.poets_lex.proofs.Found.{keys-added, length-of-map, IsTable-push}
use Rattle.poets_lex.proofs.names.Names.add.Goals as goal

pub returns-clause-table : goal.returns-clause-table
returns-clause-table c =
    let k = keys-added c.self.inside.texts.keys c.in-Ok.own c.args.text.now c.in-Ok.ensures.ok (rw (← c.self.view_is) at c.requires.new) in
    rw (c.in-Ok-insert.ensures.keys, ← c.self.view_is) k

pub invariant_of-self : goal.invariant_of-self
invariant_of-self c = rw c.in_default-insert.ensures.err c.self.invariant

pub invariant_of-self-2 : goal.invariant_of-self-2
invariant_of-self-2 c =
    let keys = c.self.inside.texts.keys in
    let new = c.insert.new.self.keys in
    let fresh : place_of c.args.text.now (texts_of keys) ≡ None = rw (← c.self.view_is) at c.requires.new in
    let k : texts_of new ≡ texts_of keys ++ c.args.text.now ∷ [] = rw c.in-Ok-insert.ensures.keys (keys-added keys c.in-Ok.own c.args.text.now c.in-Ok.ensures.ok fresh) in
    let more = length-of-map string_bytes new in
    let grown = ap length k in
    let old = ap length c.self.view_is in
    let len : length new < 2 ^ 32 = omega (arith, length-append {A = List ℕ}, c.requires.room) in
    (len, subst IsTable (sym k) (IsTable-push (texts_of keys) c.args.text.now c.self.invariant.1 c.requires.name fresh))
