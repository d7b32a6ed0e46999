use Rattle.std.proofs.Common.{refl}
use Rattle.poets_journal.proofs.Parts.{whole_record}
use Rattle.poets_journal.proofs.records.record.Goals as goal

pub returns-clause-some : goal.returns-clause-some
returns-clause-some c = whole_record c.args.bytes.now c.number-size.result _ _ c.in-len4-up.len_at_least c.number-size.ensures refl c.if-rest-size.false refl
