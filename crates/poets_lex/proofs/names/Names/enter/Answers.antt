use Rattle.std.proofs.Common.{sym, refl}
use Rattle.std.specs.Str.{bytes_eq}
use Rattle.std.proofs.lemmas.Slice.Eq.{bytes_eq-Decides}
use Rattle.poets_lex.proofs.Found.{known, unknown, position-push}
use Rattle.poets_lex.proofs.names.Names.enter.Goals as goal

pub returns-in-Some-clause-table : goal.returns-in-Some-clause-table
returns-in-Some-clause-table c =
    let e = known (bytes_eq c.args.text.now) c.args.self.now c.in-Some.name.id (sym c.in-Some.ensures) in
    rw e refl

pub returns-clause-table : goal.returns-clause-table
returns-clause-table c =
    let none = unknown (bytes_eq c.args.text.now) c.args.self.now (sym c.in-None.ensures) in
    rw (c.in_ok-add.ensures.table, none) refl

pub returns-clause-name : goal.returns-clause-name
returns-clause-name c =
    let none = unknown (bytes_eq c.args.text.now) c.args.self.now (sym c.in-None.ensures) in
    let same = (bytes_eq-Decides c.args.text.now c.args.text.now).1 refl in
    rw (c.in_ok-add.ensures.table, c.len-id.ensures) (position-push (bytes_eq c.args.text.now) c.args.self.now c.args.text.now none same)
