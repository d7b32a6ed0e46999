use Rattle.std.proofs.Common.{subst, sym}
use Rattle.std.specs.Prelude.{remove}
use Rattle.std.specs.List.{All, AllZip}
use Rattle.poets_expr.specs.Env.{declared_of}
use Rattle.poets_report.specs.Folds.{events_of}
use Rattle.poets_live.specs.Watching.{AllFollowLog, AllLeadToLog, Follows, HasRoomIn, HaveRoom}
use Rattle.poets_live.specs.code.Watches.{IsLed, LeadsToLog}
use Rattle.poets_live.proofs.Leading.{all-unmapped, zip-map, zip-three}
use Rattle.poets_live.proofs.watches.Watches.without.Goals as goal

pub all_without-requires-clause-follow : goal.all_without-requires-clause-follow
all_without-requires-clause-follow g c =
    let d = declared_of c.args.decls.now.names in
    let ws = c.self.inside.watches.items in
    let seen = subst (λ v. AllFollowLog c.args.decls.now c.args.log.now.items v.watches) (sym c.self.view_is) c.requires.seen in
    let all = all-unmapped (Follows d (events_of c.args.log.now.items)) (λ s. s.watch) ws seen in
    subst (λ ws. All (λ s. Follows d (events_of c.as_slice-2.result.now) s.watch) ws) (sym c.as_slice.ensures.value)
    (subst (λ l. All (λ s. Follows d (events_of l) s.watch) ws) (sym c.as_slice-2.ensures) all)

pub returns-clause-leads : goal.returns-clause-leads
returns-clause-leads g c =
    let ws = c.self.inside.watches.items in
    let rest = remove c.args.log.now.items c.args.place in
    let moves = c.in_ok-moves.moves.items in
    let led = subst (λ ws. AllZip (IsLed c.args.decls.now rest) ws moves) c.as_slice.ensures.value
    (subst (λ l. AllZip (IsLed c.args.decls.now (remove l c.args.place)) c.as_slice.result.now moves) c.as_slice-2.ensures c.in_ok-moves.ensures.led) in
    subst (λ v. AllLeadToLog c.args.decls.now rest v.watches moves) c.self.view_is
    (zip-map (IsLed c.args.decls.now rest) (LeadsToLog c.args.decls.now rest) (λ s. s.watch) (λ x y h. h.0) ws moves led)

pub returns-clause-room : goal.returns-clause-room
returns-clause-room g c =
    let ws = c.self.inside.watches.items in
    let rest = remove c.args.log.now.items c.args.place in
    let moves = c.in_ok-moves.moves.items in
    let led = subst (λ ws. AllZip (IsLed c.args.decls.now rest) ws moves) c.as_slice.ensures.value
    (subst (λ l. AllZip (IsLed c.args.decls.now (remove l c.args.place)) c.as_slice.result.now moves) c.as_slice-2.ensures c.in_ok-moves.ensures.led) in
    subst (λ v. HaveRoom v moves) c.self.view_is
    (zip-three (IsLed c.args.decls.now rest) HasRoomIn (λ s. s.watch) (λ s. s.room) (λ x y h. h.1) ws moves led)
