use Rattle.std.proofs.Common.{◌<◌, length, sym, subst, arith}
use Rattle.poets_table.proofs.Pieces.{length-starts}
use Rattle.poets_table.proofs.cut.Cut.start.Goals as goal

pub start-requires : goal.start-requires
start-requires c =
    let h = subst (λ v. c.args.piece < length v.starts) (sym c.self.view_is) c.requires in
    let e = length-starts 0 c.self.inside.rest.pieces in
    omega (arith, h, e)
