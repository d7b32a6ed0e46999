use Rattle.std.proofs.Common.{◌+◌, ◌∷◌, [], length, sym, ap, ◌∙◌, subst, arith}
use Rattle.std.proofs.lemmas.List.{map-append, length-append, length-map}
use Rattle.std.proofs.lemmas.Result.{err_from_is_err_and}
use Rattle.poets_grammar.specs.Tokens.{toks}
use Rattle.poets_command.specs.Statements.{statement_of, statements_of}
use Rattle.poets_session.specs.Pieces.{pieces_of}
use Rattle.poets_session.specs.code.Splitting.{piece}
use Rattle.poets_session.specs.Refusals.{IsUnread}
use Rattle.poets_session.specs.Causes.{IsCauseOf}
use Rattle.poets_session.proofs.Saying.{Standing, standing_first, standing_more, standing_stops, standing_end, nothing_left}
use Rattle.poets_session.proofs.splitting.statements.Goals as goal

pub loop-rest-init : goal.loop-rest-init
loop-rest-init c =
    let p = pieces_of (toks c.args.tokens.now) in
    (subst (λ f. Standing p p (statements_of f)) (sym c.new-found.ensures) (standing_first p), c.requires, omega (arith, ap length c.new-found.ensures))

pub loop-rest-preserved : goal.loop-rest-preserved
loop-rest-preserved c =
    let p = pieces_of (toks c.args.tokens.now) in let found = c.loop-rest.found.items in let s = c.in_ok-read_statement.field-0 in
    let rest = pieces_of (toks c.first_piece-ended.result.2.now) in
    let here = piece (toks c.first_piece-ended.result.0.now) c.first_piece-ended.result.1 in
    let stands = subst (λ r. Standing p r (statements_of found)) c.first_piece-ended.ensures.piece c.loop-rest.invariant.0 in
    let more = standing_more p rest here (statements_of found) (statement_of s) stands c.in_ok-read_statement.ensures.said in
    let items = c.in_ok-push.ensures.items in (
      subst (Standing p rest) (sym (ap statements_of items ∙ map-append statement_of found (s ∷ []))) more,
      (c.first_piece-ended.ensures.natural c.loop-rest.invariant.1).1,
      omega (arith, ap length items ∙ length-append found (s ∷ []), c.first_piece-ended.ensures.shorter, c.loop-rest.invariant.2),
    )

pub returns-in_err-read_statement-clause-stopped : goal.returns-in_err-read_statement-clause-stopped
returns-in_err-read_statement-clause-stopped c =
    let p = pieces_of (toks c.args.tokens.now) in let found = c.loop-rest.found.items in
    let rest = pieces_of (toks c.first_piece-ended.result.2.now) in
    let here = piece (toks c.first_piece-ended.result.0.now) c.first_piece-ended.result.1 in
    let stands = subst (λ r. Standing p r (statements_of found)) c.first_piece-ended.ensures.piece c.loop-rest.invariant.0 in
    let number = ap (λ n. n + 1) (c.len.ensures ∙ sym (length-map found statement_of)) in
    let e = err_from_is_err_and c.from_residual.result c.from_residual.ensures.1 in
    rw (e.1, e.2) (standing_stops p rest here (statements_of found) c.in_err-read_statement.field-0.0 stands
    (subst (λ n. IsCauseOf (IsUnread here n) c.in_err-read_statement.field-0.0) number c.in_err-read_statement.ensures.unread))

pub returns-clause-said : goal.returns-clause-said
returns-clause-said c =
    standing_end (pieces_of (toks c.args.tokens.now)) (pieces_of (toks c.loop-rest.rest.now)) (statements_of c.loop-rest.found.items) c.loop-rest.invariant.0 (nothing_left c.loop-rest.rest.now c.loop-rest-test.ensures)
