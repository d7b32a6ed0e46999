use Rattle.std.proofs.Common.{◌+◌, ◌<◌, ◌≤◌, length}
use Rattle.poets_journal.specs.Texts.{AreRecords}
use Rattle.poets_journal.specs.Journals.{texts_of}
use Rattle.poets_journal.proofs.start.records.Given as goal

abbrev pub invariant-reading : goal.invariant-reading
invariant-reading l = record {
  records : AreRecords l.bytes (texts_of l.texts) l.rest;
  more : 0 < length l.rest;
  few : length l.texts.items + length l.rest ≤ length l.bytes;
}

abbrev pub decreases-reading : goal.decreases-reading
decreases-reading l = length l.rest
