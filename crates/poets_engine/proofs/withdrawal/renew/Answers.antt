use Rattle.std.proofs.Common.{◌≡◌, ◌≤◌, ◌+◌, [], sym, ◌∙◌, ap, subst, arith, take, map, get_or, refl}
use Rattle.std.specs.Arc.{arc_value}
use Rattle.std.proofs.lemmas.List.{take-map}
use Rattle.poets_syntax.specs.Applied.{CountsFit}
use Rattle.poets_syntax.specs.Book.{book_of}
use Rattle.poets_cons.specs.Table.{contract_of_rows}
use Rattle.poets_table.specs.Pieces.{joined}
use Rattle.poets_table.specs.TableView.{values_of}
use Rattle.poets_command.specs.Calls.{reply_of}
use Rattle.poets_engine.specs.code.Judgements.{KeptFits, Owed, judgement_of}
use Rattle.poets_engine.specs.code.Renewals.{HaveFirst, asked_along, by_events, owed_at}
use Rattle.poets_engine.proofs.Points.{between, between-none, between-all, mapped_at}
use Rattle.poets_engine.proofs.Pieces.{none_made, piece_judged, piece_asked, piece_refused, piece_within, piece_point}
use Rattle.poets_engine.proofs.withdrawal.renew.Goals as goal

pub loop-place-init : goal.loop-place-init
loop-place-init g c =
    let s = c.args.studied.now in
    let n = c.args.number in
    let pieces = c.args.events.now.pieces in
    let was = c.as_slice-was.ensures in
    let points = c.in_ok-made.ensures ∙ ap (λ xs. map arc_value (take n xs)) was ∙ sym (take-map arc_value n c.args.points.now.items) in
    let owed : owed_at c.args.points.now n ≡ contract_of_rows (arc_value c.in_ok-owed.owed) =
    ap contract_of_rows (mapped_at arc_value c.args.points.now.items n c.index-was-number.result [] c.requires.number
    (subst (λ xs. c.index-was-number.result ≡ get_or xs n c.index-was-number.result) was c.index-was-number.is) ∙ sym c.in_ok-owed.ensures) in
    let none = between-none n pieces in
    record {
      from = omega arith;
      owed = ap (λ ps. by_events s (owed_at c.args.points.now n) (joined ps)) none ∙ ap Owed owed;
      fits = subst (CountsFit (book_of s.book)) owed c.requires.fits;
      points = none_made s (owed_at c.args.points.now n) n pieces (take n (values_of c.args.points.now)) (values_of c.in_ok-made.made) points;
      asks = omega arith;
      rises = omega arith;
    }

pub returns-in_err-push_point-clause-asks : goal.returns-in_err-push_point-clause-asks
returns-in_err-push_point-clause-asks g c =
    let s = c.args.studied.now in
    let within = piece_within s (owed_at c.args.points.now c.args.number) c.args.number c.loop-place.place c.args.events.now.pieces c.in-Some.piece.now
    c.loop-place.invariant.from c.in-Some.ensures.found (contract_of_rows (arc_value c.loop-place.owed)) c.loop-place.invariant.owed in
    let so_far = c.loop-place.invariant.asks in
    omega (arith, within, so_far)

pub returns-in_err-reply-clause-asks : goal.returns-in_err-reply-clause-asks
returns-in_err-reply-clause-asks g c =
    let s = c.args.studied.now in
    let within = piece_within s (owed_at c.args.points.now c.args.number) c.args.number c.loop-place.place c.args.events.now.pieces c.in-Some.piece.now
    c.loop-place.invariant.from c.in-Some.ensures.found (contract_of_rows (arc_value c.loop-place.owed)) c.loop-place.invariant.owed in
    let so_far = c.loop-place.invariant.asks in
    let here = c.go_on.ensures.asks in
    omega (arith, within, so_far, here)

pub returns-in-Refused-clause-owed : goal.returns-in-Refused-clause-owed
returns-in-Refused-clause-owed g c =
    piece_refused c.args.studied.now (owed_at c.args.points.now c.args.number) c.args.number c.loop-place.place c.args.events.now.pieces c.in-Some.piece.now
    c.loop-place.invariant.from c.in-Some.ensures.found (contract_of_rows (arc_value c.loop-place.owed)) c.loop-place.invariant.owed
    (reply_of c.in-Refused.reply) (sym c.in_ok-reply.ensures.choice ∙ ap judgement_of c.in-Refused.is)

pub returns-in-Refused-clause-asks : goal.returns-in-Refused-clause-asks
returns-in-Refused-clause-asks g c =
    let s = c.args.studied.now in
    let within = piece_within s (owed_at c.args.points.now c.args.number) c.args.number c.loop-place.place c.args.events.now.pieces c.in-Some.piece.now
    c.loop-place.invariant.from c.in-Some.ensures.found (contract_of_rows (arc_value c.loop-place.owed)) c.loop-place.invariant.owed in
    let so_far = c.loop-place.invariant.asks in
    let here = c.go_on.ensures.asks in
    omega (arith, within, so_far, here)

pub loop-place-preserved : goal.loop-place-preserved
loop-place-preserved g c =
    let s = c.args.studied.now in
    let first = owed_at c.args.points.now c.args.number in
    let n = c.args.number in
    let place = c.loop-place.place in
    let pieces = c.args.events.now.pieces in
    let piece = c.in-Some.piece.now in
    let from = c.loop-place.invariant.from in
    let found = c.in-Some.ensures.found in
    let so_far = contract_of_rows (arc_value c.loop-place.owed) in
    let kept = c.loop-place.invariant.owed in
    let judged = sym c.in_ok-reply.ensures.choice ∙ ap judgement_of c.in-Owed.is in
    let more = piece_asked s first n place pieces piece from found so_far kept in
    let asked = c.loop-place.invariant.asks in
    let here = c.go_on.ensures.asks in
    let rose = c.loop-place.invariant.rises in
    let rises = c.go_on.ensures.rises in
    record {
      from = omega (arith, from);
      owed = piece_judged s first n place pieces piece from found so_far kept ∙ judged;
      fits = subst (KeptFits (book_of s.book)) (ap judgement_of c.in-Owed.is) c.in_ok-reply.ensures.fits;
      points = piece_point s first n place pieces piece from found so_far kept (take n (values_of c.args.points.now)) (values_of c.loop-place.made) (values_of c.push_point.new.points)
          (arc_value c.loop-place.owed) c.loop-place.invariant.points c.in_ok-push_point.ensures refl;
      asks = omega (arith, more, asked, here);
      rises = omega (arith, rose, rises);
    }

pub returns-clause-owed : goal.returns-clause-owed
returns-clause-owed g c =
    let s = c.args.studied.now in
    let first = owed_at c.args.points.now c.args.number in
    let over = c.loop-place-test.false in
    let count = c.piece_count-place-end.ensures.count in
    let all = between-all c.args.number c.loop-place.place c.args.events.now.pieces (omega (arith, over, count)) in (
      subst (λ ps. by_events s first (joined ps) ≡ Owed (contract_of_rows (arc_value c.loop-place.owed))) all c.loop-place.invariant.owed,
      c.loop-place.invariant.fits,
      subst (λ ps. HaveFirst s first ps (take c.args.number (values_of c.args.points.now)) (values_of c.loop-place.made)) all c.loop-place.invariant.points,
    )

pub returns-clause-asks : goal.returns-clause-asks
returns-clause-asks g c =
    let over = c.loop-place-test.false in
    let count = c.piece_count-place-end.ensures.count in
    let all = between-all c.args.number c.loop-place.place c.args.events.now.pieces (omega (arith, over, count)) in
    subst (λ ps. c.loop-place.asks ≤ c.args.asks.now + asked_along c.args.studied.now (owed_at c.args.points.now c.args.number) (joined ps)) all c.loop-place.invariant.asks
