use Rattle.poets_print.proofs.Days.{of_day}
use Rattle.poets_books.proofs.parts.day_text.Goals as goal

pub unreachable-requires : goal.unreachable-requires
unreachable-requires c =
    c.in_default.ensures.cases.0 (of_day c.text-bytes.result c.args.day c.text-bytes.ensures.text)
