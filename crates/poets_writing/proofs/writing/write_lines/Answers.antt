use Rattle.std.proofs.Common.{◌∙◌}
use Rattle.poets_writing.proofs.Lines.{Appends-line, AppendsPart-line, AppendsPart-lines, OnErr-anyway}
use Rattle.poets_writing.proofs.writing.write_lines.Goals as goal

pub returns-in_err-line-clause-stopped : goal.returns-in_err-line-clause-stopped
returns-in_err-line-clause-stopped g c =
    OnErr-anyway c.from_residual.result _
    (AppendsPart-lines c.args.names.now c.args.earlier c.loop-place.place c.args.entries.now c.index-entries-place.result _ _ c.loop-place-test.true c.index-entries-place.is c.loop-place.invariant.bytes)

pub returns-in_err-write_all-clause-stopped : goal.returns-in_err-write_all-clause-stopped
returns-in_err-write_all-clause-stopped g c =
    OnErr-anyway c.from_residual-in_err-write_all.result _
    (AppendsPart-line c.args.names.now c.args.earlier c.loop-place.place c.args.entries.now c.index-entries-place.result _ _ c.loop-place-test.true c.index-entries-place.is
    c.loop-place.invariant.bytes _ c.as_bytes.result.now (c.as_bytes.ensures.value ∙ c.in_ok-line.ensures) c.in_err-write_all.ensures.err)

pub loop-place-preserved : goal.loop-place-preserved
loop-place-preserved g c = record {
  kept = c.in_ok-write_all.ensures.cause.kept ∙ c.loop-place.invariant.kept;
  bytes =
      Appends-line c.args.names.now c.args.earlier c.loop-place.place c.args.entries.now c.index-entries-place.result _ _ c.loop-place-test.true c.index-entries-place.is
      c.loop-place.invariant.bytes _ c.as_bytes.result.now (c.as_bytes.ensures.value ∙ c.in_ok-line.ensures) c.in_ok-write_all.ensures.ok;
}
