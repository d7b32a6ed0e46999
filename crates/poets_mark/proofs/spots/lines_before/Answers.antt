use Rattle.std.proofs.Common.{take, length, ap, ◌∙◌}
use Rattle.memchr.specs.Find.{is_byte}
use Rattle.memchr.proofs.lemmas.CallerLemmas.{length-places}
use Rattle.poets_mark.proofs.spots.lines_before.Goals as goal

pub returns-clause-count : goal.returns-clause-count
returns-clause-count c = c.count.ensures ∙ ap length c.memchr_iter.ensures.value ∙ length-places (is_byte 10) (take c.args.place c.args.text.now)
