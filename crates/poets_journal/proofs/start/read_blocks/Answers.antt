use Rattle.std.proofs.Common.{◌≡◌, ◌<◌, ◌+◌, ◌-◌, ◌∙◌, if◌then◌else◌, true, false, true≢false, length, IfSome, refl, sym, ap, subst, arith}
use Rattle.poets_disk.proofs.Moments.{rests_same, rests_both}
use Rattle.poets_journal.proofs.Parts.{no_error, read_on, read_done, read_whole, read_none, reading_smaller}
use Rattle.poets_journal.specs.declared.start.OpenFault.TheVariants as OpenFault
use Rattle.poets_journal.proofs.start.read_blocks.Goals as goal

pub reading-init : goal.reading-init
reading-init g c = record {
  rests = rests_same (g.D.Disk.seen c.args.disk.now);
  within = omega (arith, ap length c.new-bytes.ensures);
  front = read_none (g.D.Disk.seen c.args.disk.now).bytes c.new-bytes.result.items c.new-bytes.ensures;
  done = λ e. absurd (true≢false e);
  kept = refl;
}

pub read_part-requires-clause-long : goal.read_part-requires-clause-long
read_part-requires-clause-long g c = subst (λ o. IfSome o (λ file. c.args.long ≡ length file)) (sym c.reading.invariant.rests.same) c.requires.long

pub reading-preserved : goal.reading-preserved
reading-preserved g c = record {
  rests = rests_both _ _ _ c.reading.invariant.rests c.read_part.ensures.rests;
  within = c.in_ok-more.ensures.fits;
  front = read_on (g.D.Disk.seen c.args.disk.now).bytes _ _ _ c.in_ok-more.more c.reading.invariant.rests.same c.reading.invariant.front c.in_ok-more.ensures.more;
  done = read_done (g.D.Disk.seen c.args.disk.now).bytes _ _ _ c.in_ok-more.more c.reading.invariant.rests.same c.in_ok-more.ensures.more;
  kept = c.in_ok-more.ensures.same (no_error c.in_ok-more.more OpenFault.Disk) ∙ c.reading.invariant.kept;
}

pub reading-smaller : goal.reading-smaller
reading-smaller g c =
    subst (λ b. (if c.in_ok-more.more then c.args.long - length c.read_part.new.bytes.items + 1 else 0) < (if b then c.args.long - length c.reading.bytes.items + 1 else 0)) (sym c.reading-test.true)
    (reading_smaller c.in_ok-more.more c.args.long (length c.reading.bytes.items) (length c.read_part.new.bytes.items) c.in_ok-more.ensures.grows c.reading.invariant.within c.in_ok-more.ensures.fits)

pub returns-clause-bytes : goal.returns-clause-bytes
returns-clause-bytes g c = read_whole (g.D.Disk.seen c.args.disk.now).bytes c.reading.bytes.items c.reading.invariant.front (c.reading.invariant.done c.reading-test.false)

pub returns-in_err-more-clause-rests : goal.returns-in_err-more-clause-rests
returns-in_err-more-clause-rests g c = rests_both _ _ _ c.reading.invariant.rests c.read_part.ensures.rests
