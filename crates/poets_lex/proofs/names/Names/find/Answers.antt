use Rattle.std.proofs.Common.{rules}
use Rattle.std.specs.Str.{bytes_eq}
use Rattle.std.specs.Prelude.{string_bytes}
use Rattle.poets_lex.proofs.Found.{position-map}
use Rattle.poets_lex.proofs.names.Names.find.Goals as goal

pub returns-in_err-place : goal.returns-in_err-place
returns-in_err-place c =
    let e = position-map (bytes_eq c.args.text.now) string_bytes c.self.inside.texts.keys in
    rw (← c.self.view_is, e) (search rules)

pub returns : goal.returns
returns c =
    let e = position-map (bytes_eq c.args.text.now) string_bytes c.self.inside.texts.keys in
    rw (← c.self.view_is, e) (search rules)
