use Rattle.std.proofs.Common.{◌≡◌, take, refl, sym, ◌∙◌, arith}
use Rattle.std.specs.List.{prefix_len}
use Rattle.std.specs.Str.{IsUtf8}
use Rattle.std.proofs.lemmas.Str.{IsUtf8-from_ascii}
use Rattle.poets_lex.specs.Bytes.{is_in_name}
use Rattle.poets_lex.proofs.Lexemes.{word-token, name-token, name-long, name-front-ascii, name-front-is}
use Rattle.std.proofs.lemmas.Result.{err_from_is_err_and}
use Rattle.poets_lex.proofs.lexeme.word_or_name.Goals as goal
use Rattle.poets_lex.proofs.lexeme.word_or_name.Goals.{in-Some, in-None+in_ok-enter-in-None}

pub returns-then-length-gt-MOST_OF_NAME-clause-fault :
    goal.returns-then-length-gt-MOST_OF_NAME-clause-fault
returns-then-length-gt-MOST_OF_NAME-clause-fault c = λ _.
    (refl, name-long c.args.text.now c.requires.letter (omega arith))

pub unreachable-requires : goal.unreachable-requires
unreachable-requires c =
    let text : IsUtf8 (take c.name_length-length.result c.args.text.now) = rw c.name_length-length.ensures (IsUtf8-from_ascii _ (name-front-ascii c.args.text.now)) in
    c.in_default.ensures.cases.0 text

pub enter-requires-clause-name : goal.enter-requires-clause-name
enter-requires-clause-name c =
    let own : c.in-Ok.own.now ≡ take (prefix_len is_in_name c.args.text.now) c.args.text.now = rw c.name_length-length.ensures at c.in-Ok.ensures.cases.0 in
    rw own (name-front-is c.args.text.now c.requires.letter (omega arith) (λ word e. c.in-None.ensures.none word (own ∙ e)))

pub returns-in_err-enter-in-None-clause-fault : goal.returns-in_err-enter-in-None-clause-fault
returns-in_err-enter-in-None-clause-fault c = let p = err_from_is_err_and c.from_residual.result c.from_residual.ensures.1 in rw (p.1, p.2) (λ other. absurd (other refl))

pub returns-clause-ok : goal.returns-clause-ok
returns-clause-ok c =
    let text = c.args.text.now in
    let own : c.in-Ok.own.now ≡ take (prefix_len is_in_name text) text = rw c.name_length-length.ensures at c.in-Ok.ensures.cases.0 in
    elim c.match-word_of.branch [
      | in-Some w ↦ rw (w.what-is, w.names-is, c.name_length-length.ensures) (word-token c.args.names.now c.args.place text w.in-Some.word (sym own ∙ w.in-Some.ensures.some))
      | in-None+in_ok-enter-in-None w ↦
          let name = name-front-is text c.requires.letter (omega arith) (λ word e. w.in-None.ensures.none word (own ∙ e)) in
          let at = rw own at w.in_ok-enter-in-None.ensures.name in
          let table = rw own at w.in_ok-enter-in-None.ensures.table in
          rw (w.what-is, w.names-is, c.name_length-length.ensures) (name-token c.args.names.now c.args.place text w.in_ok-enter-in-None.field-0 w.enter.new.self name at table)
    ]
