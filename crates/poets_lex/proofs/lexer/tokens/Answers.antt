use Rattle.std.proofs.Common.{arith}
use Rattle.poets_lex.specs.Lexes.{Reads}
use Rattle.poets_lex.proofs.Readings.{Reads-taken, Extends-reading, Extends-then, reading-length}
use Rattle.poets_lex.proofs.lexer.tokens.Goals as goal

pub loop-rest-init : goal.loop-rest-init
loop-rest-init c = rw c.new-tokens.ensures (record { read = Reads.Nothing; here = omega arith })

pub take_piece-requires-clause-room : goal.take_piece-requires-clause-room
take_piece-requires-clause-room c = omega (arith, reading-length c.loop-rest.invariant.read)

pub returns-in_err-size-clause-names : goal.returns-in_err-size-clause-names
returns-in_err-size-clause-names c =
    Extends-then c.args.names.now c.loop-rest.names c.take_piece.new.names (Extends-reading c.loop-rest.invariant.read) c.take_piece.ensures.names

pub returns-in_err-size-clause-few : goal.returns-in_err-size-clause-few
returns-in_err-size-clause-few c = omega (arith, reading-length c.loop-rest.invariant.read, c.take_piece.ensures.few)

pub loop-rest-preserved : goal.loop-rest-preserved
loop-rest-preserved c =
    let taken = Reads-taken c.loop-rest.invariant.read c.loop-rest.invariant.here c.in_ok-size.ensures.ok in
    record { read = taken.0; here = taken.1 }

pub returns-clause-names : goal.returns-clause-names
returns-clause-names c = Extends-reading c.loop-rest.invariant.read

pub returns-clause-few : goal.returns-clause-few
returns-clause-few c = omega (arith, reading-length c.loop-rest.invariant.read)
