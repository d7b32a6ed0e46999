use Rattle.std.proofs.Common.{◌<◌, ◌∙◌, ap, length, slice_get, subst, sym, take}
use Rattle.poets_table.specs.Pieces.{AreShort, joined, pieces_of, starts_of}
use Rattle.poets_table.proofs.Pieces.{front-short, start-there}
use Rattle.poets_table.proofs.events.Events.start.Goals as goal

pub count_in-requires : goal.count_in-requires
count_in-requires c =
    subst (λ ps. AreShort (pieces_of (take c.args.place ps))) (sym c.deref.ensures.value)
    (front-short c.self.inside.sealed.items c.args.place c.self.invariant.0)

pub returns : goal.returns
returns c =
    let within = subst (λ e. c.args.place < length e.pieces) (sym c.self.view_is) c.requires in
    let count = c.count_in.ensures ∙ ap (λ ps. length (joined (pieces_of (take c.args.place ps)))) c.deref.ensures.value in
    ap (λ e. slice_get (starts_of e.pieces) c.args.place) (sym c.self.view_is)
    ∙ start-there c.self.inside.sealed.items c.self.inside.last.items c.args.place c.count_in.result within count
