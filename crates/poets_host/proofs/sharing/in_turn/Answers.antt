use Rattle.std.proofs.Common.{◌∙◌, subst}
use mathlib.Core.List.{IsPrefix}
use Rattle.poets_turn.specs.Clerks.{front, turn_frame}
use Rattle.poets_host.specs.code.Sharing.{rules_of}
use Rattle.poets_host.proofs.Pairing.{both_parted, both_replied, first_failed, second_failed}
use Rattle.poets_host.proofs.sharing.in_turn.Goals as goal

pub returns-in_err-reply-clause-part : goal.returns-in_err-reply-clause-part
returns-in_err-reply-clause-part g c =
    let new = c.requires.new in
    first_failed c.args.first.now c.args.second.now c.args.one.now c.ask.new.clerk c.args.two.now new.first new.one.calls new.two.calls c.in_err-reply.ensures.memory

pub returns-in_err-next-clause-part : goal.returns-in_err-next-clause-part
returns-in_err-next-clause-part g c =
    let new = c.requires.new in
    let heard = subst (λ f. IsPrefix f (front c.hear.new.clerk)) c.note-note.ensures.note.1 c.hear.ensures.seen.1 in
    second_failed c.args.first.now c.args.second.now c.args.one.now c.ask.new.clerk c.note-note.new.clerk c.hear.new.clerk new.first (c.hear.ensures.same.0 ∙ new.second) new.one.calls
    (c.hear.ensures.same.1 ∙ new.two.calls) c.note-note.ensures.same.1 heard c.ask-2.new.clerk c.in_ok-reply.ensures.made.0 c.in_err-next.ensures.memory

pub returns-clause-both : goal.returns-clause-both
returns-clause-both g c =
    let new = c.requires.new in
    let heard = subst (λ f. IsPrefix f (front c.hear.new.clerk)) c.note-note.ensures.note.1 c.hear.ensures.seen.1 in
    both_replied c.args.first.now c.args.second.now c.args.one.now c.ask.new.clerk c.note-note.new.clerk c.hear.new.clerk new.first (c.hear.ensures.same.0 ∙ new.second) new.one.calls
    (c.hear.ensures.same.1 ∙ new.two.calls) c.note-note.ensures.same.1 heard (turn_frame rules_of c.args.turn.now) c.ask-2.new.clerk c.in_ok-reply.reply c.in_ok-next.next
    c.in_ok-reply.ensures.made c.in_ok-next.ensures.made

pub returns-clause-part : goal.returns-clause-part
returns-clause-part g c =
    let new = c.requires.new in
    let heard = subst (λ f. IsPrefix f (front c.hear.new.clerk)) c.note-note.ensures.note.1 c.hear.ensures.seen.1 in
    both_parted c.args.first.now c.args.second.now c.args.one.now c.ask.new.clerk c.note-note.new.clerk c.hear.new.clerk new.first (c.hear.ensures.same.0 ∙ new.second) new.one.calls
    (c.hear.ensures.same.1 ∙ new.two.calls) c.note-note.ensures.same.1 heard c.ask-2.new.clerk c.in_ok-reply.ensures.made.0 c.in_ok-next.ensures.made.0
