use Rattle.std.proofs.Common.{rules, ◌≡◌, get_or, arith, true}
use Rattle.poets_lex.specs.Bytes.{is_blank}
use Rattle.poets_lex.proofs.Lexemes.{blank-piece, comment-piece, token-piece}
use Rattle.poets_lex.proofs.piece.take_piece.Goals as goal

pub returns-then-is_blank-clause-ok : goal.returns-then-is_blank-clause-ok
returns-then-is_blank-clause-ok c =
    let blank : is_blank (get_or c.args.text.now 0 0) ≡ true = search rules in
    blank-piece c.args.names.now c.args.place c.args.text.now c.args.tokens.now.items c.requires.some blank

pub returns-then-first-eq35-clause-ok : goal.returns-then-first-eq35-clause-ok
returns-then-first-eq35-clause-ok c =
    rw c.line_length.ensures (comment-piece c.args.names.now c.args.place c.args.text.now c.args.tokens.now.items c.requires.some (omega arith))

pub returns-clause-ok : goal.returns-clause-ok
returns-clause-ok c =
    token-piece c.args.names.now c.args.place c.args.text.now c.in_ok-what.field-0 c.first_token.new.names c.args.tokens.now.items c.push.new.self.items c.in_ok-what.ensures.ok c.in-Ok.ensures.ok
