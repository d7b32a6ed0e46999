use Rattle.std.proofs.Common.{subst, sym}
use Rattle.std.specs.List.{IsDistinct}
use Rattle.poets_expr.specs.Env.{same_name}
use Rattle.poets_meaning.proofs.Found.{names_of, IsDistinct-names}
use Rattle.poets_meaning.proofs.studied.Studied.of.Goals as goal

pub names_of-requires : goal.names_of-requires
names_of-requires c =
    let checked = c.requires.checked in
    subst (λ ts. IsDistinct same_name (names_of ts)) (sym c.as_slice.ensures) (IsDistinct-names c.args.book.templates.items checked.0 checked.1.distinct)
