use Rattle.std.proofs.Common.{◌≡◌, ◌+◌, ◌∙◌, length, sym, arith}
use Rattle.poets_journal.specs.Journals.{texts_of}
use Rattle.poets_journal.proofs.Parts.{damaged_at, length_texts, one_more, begins_shorter}
use Rattle.poets_journal.proofs.start.records.Goals as goal

pub returns-in_default-clause-damaged : goal.returns-in_default-clause-damaged
returns-in_default-clause-damaged c =
    let inv = c.reading.invariant in
    let count : c.len.result ≡ length (texts_of c.reading.texts) = c.len.ensures ∙ sym (length_texts c.reading.texts.items) in
    damaged_at c.args.bytes.now (texts_of c.reading.texts) c.reading.rest.now c.behind.result.now (c.len.result + 1) c.requires inv.records (omega (arith, count)) (c.is_open.ensures.yes c.reading-test.true) c.behind.ensures c.in_default.ensures.none

pub reading-preserved : goal.reading-preserved
reading-preserved c =
    let inv = c.reading.invariant in
    let m = one_more c.in-Some.text.now c.reading.rest.now c.behind.result.now c.in-Some.more.now (c.is_open.ensures.yes c.reading-test.true) c.behind.ensures c.in-Some.ensures.some.0
    c.args.bytes.now c.reading.texts.items c.push.new.list.items c.in_ok-copied.field-0 inv.records inv.few c.in_ok-push.ensures.items c.in_ok-copied.ensures in
    record { records = m.0; more = c.in-Some.ensures.some.1; few = m.1 }

pub reading-smaller : goal.reading-smaller
reading-smaller c = begins_shorter c.in-Some.text.now c.reading.rest.now c.behind.result.now c.in-Some.more.now (c.is_open.ensures.yes c.reading-test.true) c.behind.ensures c.in-Some.ensures.some.0

pub returns-clause-opened : goal.returns-clause-opened
returns-clause-opened c =
    let inv = c.reading.invariant in
    record { rest = c.reading.rest.now; records = inv.records; closed = c.is_open.ensures.no c.reading-test.false; place = omega (arith, inv.few) }
