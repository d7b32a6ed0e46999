use Rattle.std.proofs.Common.{◌≡◌, ◌∙◌, ℕ, List, [], ◌∷◌, IfSome, map, option_map, ap, subst, sym, arith}
use Rattle.poets_value.specs.Listed.{Listed}
use Rattle.poets_journal.specs.Journals.{texts_of}
use Rattle.poets_journal.specs.code.Opens.{IsOpened}
use Rattle.poets_journal.proofs.Starting.{ready_of, short_during, short_bytes, short_gate, long_gate}
use Rattle.poets_journal.proofs.start.open.Goals as goal

pub returns-then-len-gt1-clause-ready : goal.returns-then-len-gt1-clause-ready
returns-then-len-gt1-clause-ready g c =
    let list = c.in_ok-bytes.bytes.items in
    let o = c.in_ok-opened.opened in
    ready_of (g.D.Disk.seen c.read_sure.new.disk) list (texts_of o.texts) o.gate
    (subst (λ l. IsOpened l (texts_of o.texts) o.gate) c.as_slice.ensures c.in_ok-opened.ensures.opened) c.in_ok-bytes.ensures.long
    (subst (λ b. IfSome b (λ file. list ≡ file)) (sym c.read_sure.ensures.rests.same) c.in_ok-bytes.ensures.bytes) c.in_ok-bytes.ensures.sure

pub returns-in_err-close_gate-clause-during : goal.returns-in_err-close_gate-clause-during
returns-in_err-close_gate-clause-during g c =
    let a = g.D.Disk.seen c.args.disk.now in
    let b = g.D.Disk.seen c.read_sure.new.disk in
    let d = g.D.Disk.seen c.close_gate.new.disk in
    let close = c.close_gate.ensures in
    short_during a b d c.read_sure.ensures.rests close.time close.during (short_bytes b d close.time close.during (g.met.D.Disk.reads_image c.close_gate.new.disk))

pub returns-clause-during : goal.returns-clause-during
returns-clause-during g c =
    let a = g.D.Disk.seen c.args.disk.now in
    let b = g.D.Disk.seen c.read_sure.new.disk in
    let d = g.D.Disk.seen c.close_gate.new.disk in
    let close = c.close_gate.ensures in
    short_during a b d c.read_sure.ensures.rests close.time close.during (short_bytes b d close.time close.during (g.met.D.Disk.reads_image c.close_gate.new.disk))

pub returns-then-len-gt1-clause-file : goal.returns-then-len-gt1-clause-file
returns-then-len-gt1-clause-file g c =
    c.read_sure.ensures.rests.same ∙ long_gate (g.D.Disk.seen c.args.disk.now).bytes c.in_ok-bytes.bytes.items (omega (arith, c.if-len-gt1.true, c.len.ensures)) c.in_ok-bytes.ensures.bytes

pub returns-clause-file : goal.returns-clause-file
returns-clause-file g c =
    c.in_ok-close_gate.ensures.file
    ∙ ap (option_map (λ (file : List ℕ). 0 ∷ [])) c.read_sure.ensures.rests.same
    ∙ short_gate (g.D.Disk.seen c.args.disk.now).bytes c.in_ok-bytes.bytes.items (omega (arith, c.if-len-gt1.false, c.len.ensures)) c.in_ok-bytes.ensures.bytes

pub returns-then-len-gt1-clause-still : goal.returns-then-len-gt1-clause-still
returns-then-len-gt1-clause-still g c = λ some. c.read_sure.ensures.rests.during

pub returns-clause-still : goal.returns-clause-still
returns-clause-still g c = λ some. absurd (some (ap (map (λ (t : Listed ℕ). t.items)) c.new.ensures))
