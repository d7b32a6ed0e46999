use Rattle.std.proofs.Common.{◌≡◌, append_assoc, string_bytes}
use Rattle.poets_top.specs.Checking.{book_line}
use Rattle.poets_top.proofs.checking.book_line.Goals as goal

pub returns : goal.returns
returns c =
    let line : string_bytes c.in_ok-format.field-0 ≡ book_line c.args.templates c.args.reports = simp append_assoc c.in_ok-format.ensures.ok in
    line
