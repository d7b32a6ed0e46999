use Rattle.std.proofs.Common.{[], length, refl, sym, ◌∙◌, subst, arith}
use Rattle.std.specs.Prelude.{IsTrue, ◌↔◌}
use Rattle.std.specs.Arc.{arc_value}
use Rattle.poets_expr.specs.Env.{declared_of}
use Rattle.poets_meaning.specs.Perf.{Perf}
use Rattle.poets_cons.specs.Table.{contract_of_rows}
use Rattle.poets_table.specs.TableView.{row_view, values_of}
use Rattle.poets_command.specs.Calls.{reply_of}
use Rattle.poets_rules.specs.Rules.{book_of_rules}
use Rattle.std.proofs.lemmas.List.{length-map}
use Rattle.poets_live.specs.Watching.{AllFollowLog}
use Rattle.poets_command.specs.Plain.{Command, Reply}
use Rattle.poets_engine.specs.code.Changes.{Withdraws}
use Rattle.poets_engine.specs.code.Makes.{Makes}
use Rattle.poets_engine.proofs.Keeping.{watches_follow}
use Rattle.poets_engine.specs.code.Renewals.{IsRenewed}
use Rattle.poets_engine.proofs.Withdrawing.{void_ended, void_nowhere, piece_below, fits_at, renewal_refused, renewal_each, place_below_log, renewal_made, renewal_asks, void_asks}
use Rattle.poets_engine.proofs.withdrawal.void.Goals as goal

pub returns-then-row-clause-ok : goal.returns-then-row-clause-ok
returns-then-row-clause-ok g c =
    void_ended c.args.rules.now c.args.name c.args.place c.args.store.now c.in-Some.number (row_view c.row-row.result.now) (sym c.in-Some.ensures) c.row-row.ensures c.if-row.true

pub returns-in_default-place_in-clause-ok : goal.returns-in_default-place_in-clause-ok
returns-in_default-place_in-clause-ok g c =
    void_nowhere c.args.rules.now c.args.name c.args.place c.args.store.now c.in-Some.number (row_view c.row-row.result.now) (sym c.in-Some.ensures) c.row-row.ensures
    c.if-row.false (sym c.in_default-place_in.ensures)

pub renew-requires-clause-number : goal.renew-requires-clause-number
renew-requires-clause-number g c =
    piece_below c.args.rules.now c.args.name c.args.place c.args.store.now c.in-Some.number (row_view c.row-row.result.now) (sym c.in-Some.ensures) c.row-row.ensures
    c.if-row.false c.in-Some-place_in.from_nought (sym c.in-Some-place_in.ensures)
    c.requires.kept c.in_ok-cut.cut c.in_ok-cut.ensures c.events-left.result.now.pieces c.events-left.ensures.events c.events-left.ensures.starts
    c.piece_of-piece.result c.piece_of-piece.ensures c.row-row.result.now.points refl

pub renew-requires-clause-fits : goal.renew-requires-clause-fits
renew-requires-clause-fits g c =
    fits_at c.args.rules.now c.args.name c.args.place c.args.store.now c.in-Some.number (row_view c.row-row.result.now) (sym c.in-Some.ensures) c.row-row.ensures
    c.if-row.false c.in-Some-place_in.from_nought (sym c.in-Some-place_in.ensures)
    c.requires.kept c.in_ok-cut.cut c.in_ok-cut.ensures c.events-left.result.now.pieces c.events-left.ensures.events c.events-left.ensures.starts
    c.piece_of-piece.result c.piece_of-piece.ensures c.row-row.result.now.points refl

-- what was made anew asked no more than the bound says
pub returns-in_err-reply-clause-asks : goal.returns-in_err-reply-clause-asks
returns-in_err-reply-clause-asks g c =
    let most = renewal_asks c.args.rules.now c.args.name c.args.place c.args.store.now c.in-Some.number (row_view c.row-row.result.now) (sym c.in-Some.ensures) c.row-row.ensures
    c.if-row.false c.in-Some-place_in.from_nought (sym c.in-Some-place_in.ensures)
    c.requires.kept c.in_ok-cut.cut c.in_ok-cut.ensures c.events-left.result.now.pieces c.events-left.ensures.events c.events-left.ensures.starts
    c.piece_of-piece.result c.piece_of-piece.ensures c.row-row.result.now.points refl in
    let all = void_asks c.args.rules.now c.args.name c.args.place c.args.store.now c.in-Some.number (row_view c.row-row.result.now) (sym c.in-Some.ensures) c.row-row.ensures
    c.if-row.false c.in-Some-place_in.from_nought (sym c.in-Some-place_in.ensures)
    c.requires.kept c.in_ok-cut.cut c.in_ok-cut.ensures c.events-left.result.now.pieces c.events-left.ensures.events c.events-left.ensures.starts
    c.piece_of-piece.result c.piece_of-piece.ensures c.row-row.result.now.points refl in
    let here = c.renew.ensures.asks in
    omega (arith, most, all, here)

pub returns-in-Refused-clause-asks : goal.returns-in-Refused-clause-asks
returns-in-Refused-clause-asks g c =
    let most = renewal_asks c.args.rules.now c.args.name c.args.place c.args.store.now c.in-Some.number (row_view c.row-row.result.now) (sym c.in-Some.ensures) c.row-row.ensures
    c.if-row.false c.in-Some-place_in.from_nought (sym c.in-Some-place_in.ensures)
    c.requires.kept c.in_ok-cut.cut c.in_ok-cut.ensures c.events-left.result.now.pieces c.events-left.ensures.events c.events-left.ensures.starts
    c.piece_of-piece.result c.piece_of-piece.ensures c.row-row.result.now.points refl in
    let all = void_asks c.args.rules.now c.args.name c.args.place c.args.store.now c.in-Some.number (row_view c.row-row.result.now) (sym c.in-Some.ensures) c.row-row.ensures
    c.if-row.false c.in-Some-place_in.from_nought (sym c.in-Some-place_in.ensures)
    c.requires.kept c.in_ok-cut.cut c.in_ok-cut.ensures c.events-left.result.now.pieces c.events-left.ensures.events c.events-left.ensures.starts
    c.piece_of-piece.result c.piece_of-piece.ensures c.row-row.result.now.points refl in
    let here = c.renew.ensures.asks in
    omega (arith, most, all, here)

pub returns-in_err-withdraw-in-Owed-clause-asks : goal.returns-in_err-withdraw-in-Owed-clause-asks
returns-in_err-withdraw-in-Owed-clause-asks g c =
    let most = renewal_asks c.args.rules.now c.args.name c.args.place c.args.store.now c.in-Some.number (row_view c.row-row.result.now) (sym c.in-Some.ensures) c.row-row.ensures
    c.if-row.false c.in-Some-place_in.from_nought (sym c.in-Some-place_in.ensures)
    c.requires.kept c.in_ok-cut.cut c.in_ok-cut.ensures c.events-left.result.now.pieces c.events-left.ensures.events c.events-left.ensures.starts
    c.piece_of-piece.result c.piece_of-piece.ensures c.row-row.result.now.points refl in
    let all = void_asks c.args.rules.now c.args.name c.args.place c.args.store.now c.in-Some.number (row_view c.row-row.result.now) (sym c.in-Some.ensures) c.row-row.ensures
    c.if-row.false c.in-Some-place_in.from_nought (sym c.in-Some-place_in.ensures)
    c.requires.kept c.in_ok-cut.cut c.in_ok-cut.ensures c.events-left.result.now.pieces c.events-left.ensures.events c.events-left.ensures.starts
    c.piece_of-piece.result c.piece_of-piece.ensures c.row-row.result.now.points refl in
    let here = c.renew.ensures.asks in
    let watches = c.withdraw.ensures.asks in
    omega (arith, most, all, here, watches)

pub returns-in_ok-withdraw-in-Owed-clause-asks : goal.returns-in_ok-withdraw-in-Owed-clause-asks
returns-in_ok-withdraw-in-Owed-clause-asks g c =
    let most = renewal_asks c.args.rules.now c.args.name c.args.place c.args.store.now c.in-Some.number (row_view c.row-row.result.now) (sym c.in-Some.ensures) c.row-row.ensures
    c.if-row.false c.in-Some-place_in.from_nought (sym c.in-Some-place_in.ensures)
    c.requires.kept c.in_ok-cut.cut c.in_ok-cut.ensures c.events-left.result.now.pieces c.events-left.ensures.events c.events-left.ensures.starts
    c.piece_of-piece.result c.piece_of-piece.ensures c.row-row.result.now.points refl in
    let all = void_asks c.args.rules.now c.args.name c.args.place c.args.store.now c.in-Some.number (row_view c.row-row.result.now) (sym c.in-Some.ensures) c.row-row.ensures
    c.if-row.false c.in-Some-place_in.from_nought (sym c.in-Some-place_in.ensures)
    c.requires.kept c.in_ok-cut.cut c.in_ok-cut.ensures c.events-left.result.now.pieces c.events-left.ensures.events c.events-left.ensures.starts
    c.piece_of-piece.result c.piece_of-piece.ensures c.row-row.result.now.points refl in
    let here = c.renew.ensures.asks in
    let watches = c.withdraw.ensures.asks in
    omega (arith, most, all, here, watches)

pub returns-in-Refused-clause-ok : goal.returns-in-Refused-clause-ok
returns-in-Refused-clause-ok g c =
    renewal_refused c.args.rules.now c.args.name c.args.place c.args.store.now c.in-Some.number (row_view c.row-row.result.now) (sym c.in-Some.ensures) c.row-row.ensures
    c.if-row.false c.in-Some-place_in.from_nought (sym c.in-Some-place_in.ensures)
    c.requires.kept c.in_ok-cut.cut c.in_ok-cut.ensures c.events-left.result.now.pieces c.events-left.ensures.events c.events-left.ensures.starts
    c.piece_of-piece.result c.piece_of-piece.ensures c.row-row.result.now.points refl
    (reply_of c.in-Refused.reply)
    (subst (IsRenewed c.args.rules.now.studied c.row-row.result.now.points c.events-left.result.now.pieces c.piece_of-piece.result) c.in-Refused.is c.in_ok-reply.ensures.owed)

pub withdraw-requires-clause-points : goal.withdraw-requires-clause-points
withdraw-requires-clause-points g c =
    let owed = subst (IsRenewed c.args.rules.now.studied c.row-row.result.now.points c.events-left.result.now.pieces c.piece_of-piece.result) c.in-Owed.is c.in_ok-reply.ensures.owed in
    sym (length-map c.in-Owed.points.items arc_value)
    ∙ renewal_each c.args.rules.now c.args.name c.args.place c.args.store.now c.in-Some.number (row_view c.row-row.result.now) (sym c.in-Some.ensures) c.row-row.ensures
    c.if-row.false c.in-Some-place_in.from_nought (sym c.in-Some-place_in.ensures)
    c.requires.kept c.in_ok-cut.cut c.in_ok-cut.ensures c.events-left.result.now.pieces c.events-left.ensures.events c.events-left.ensures.starts
    c.piece_of-piece.result c.piece_of-piece.ensures c.row-row.result.now.points refl
    (arc_value c.in-Owed.current) (values_of c.in-Owed.points) owed.0 owed.2

pub withdraw-requires-clause-place : goal.withdraw-requires-clause-place
withdraw-requires-clause-place g c =
    place_below_log c.args.rules.now c.args.name c.args.place c.args.store.now c.in-Some.number (row_view c.row-row.result.now) (sym c.in-Some.ensures) c.row-row.ensures
    c.if-row.false c.in-Some-place_in.from_nought (sym c.in-Some-place_in.ensures)
    c.requires.kept c.in_ok-cut.cut c.in_ok-cut.ensures c.events-left.result.now.pieces c.events-left.ensures.events c.events-left.ensures.starts
    c.piece_of-piece.result c.piece_of-piece.ensures c.row-row.result.now.points refl

pub withdraw-requires-clause-follow : goal.withdraw-requires-clause-follow
withdraw-requires-clause-follow g c =
    subst (λ book. AllFollowLog book.decls c.args.store.now.log c.args.store.now.watches) (sym c.book.ensures.book)
    (watches_follow c.args.rules.now c.requires.kept.ledger c.args.store.now c.requires.kept.is)

pub returns-in_ok-withdraw-in-Owed-clause-ok : goal.returns-in_ok-withdraw-in-Owed-clause-ok
returns-in_ok-withdraw-in-Owed-clause-ok g c =
    let rules = c.args.rules.now in
    let may_end = c.may_end_rows-may_end.result in
    let owed = subst (IsRenewed rules.studied c.row-row.result.now.points c.events-left.result.now.pieces c.piece_of-piece.result) c.in-Owed.is c.in_ok-reply.ensures.owed in
    let tells = subst (λ t. IsTrue may_end ↔ Perf (book_of_rules rules) [] (contract_of_rows t) []) c.deref.ensures c.may_end_rows-may_end.ensures in
    subst (λ count. Makes rules (Command.Void c.args.name c.args.place) c.args.store.now c.withdraw.new.self (Reply.Voided count may_end)) (sym c.len-count.ensures.count)
    (renewal_made c.args.rules.now c.args.name c.args.place c.args.store.now c.in-Some.number (row_view c.row-row.result.now) (sym c.in-Some.ensures) c.row-row.ensures
    c.if-row.false c.in-Some-place_in.from_nought (sym c.in-Some-place_in.ensures)
    c.requires.kept c.in_ok-cut.cut c.in_ok-cut.ensures c.events-left.result.now.pieces c.events-left.ensures.events c.events-left.ensures.starts
    c.piece_of-piece.result c.piece_of-piece.ensures c.row-row.result.now.points refl
    (arc_value c.in-Owed.current) (values_of c.in-Owed.points) owed.0 owed.2 may_end tells c.withdraw.new.self
    (subst (λ book. Withdraws (declared_of book.decls.names) c.in_ok-cut.cut (arc_value c.in-Owed.current) (values_of c.in-Owed.points) c.args.store.now c.withdraw.new.self) c.book.ensures.book
    c.in_ok-withdraw-in-Owed.ensures.ok))
