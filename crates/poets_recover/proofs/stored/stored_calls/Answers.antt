use Rattle.std.proofs.lemmas.Result.{err_from_is_err_and}
use Rattle.poets_recover.specs.Stored.{bytes_in}
use Rattle.poets_recover.proofs.Judging.{all_stored, calls_taken, fault_refused, next_refused}
use Rattle.poets_recover.proofs.stored.stored_calls.Goals as goal

pub returns-in_err-check-clause-refused : goal.returns-in_err-check-clause-refused
returns-in_err-check-clause-refused c =
    let told = err_from_is_err_and c.from_residual-in_err-check.result c.from_residual-in_err-check.ensures.1 in
    rw (told.1, told.2)
    (fault_refused c.args.rules.now c.args.names.now (bytes_in c.args.texts.now) c.in_ok-calls.calls.items c.read_calls.new.names c.in_err-check.field-0.0 c.in_ok-calls.ensures.read
    (rw c.as_slice.ensures at c.in_err-check.ensures.fault))

pub returns-then-len-texts-clause-refused : goal.returns-then-len-texts-clause-refused
returns-then-len-texts-clause-refused c =
    rw c.len-then-len-texts.ensures
    (next_refused c.args.rules.now c.args.names.now c.args.texts.now c.in_ok-calls.calls.items c.read_calls.new.names c.in_ok-calls.ensures.read
    (rw c.as_slice.ensures at c.in_ok-check.ensures.typed) (rw c.len.ensures at c.if-len-texts.true))

pub returns-clause-calls : goal.returns-clause-calls
returns-clause-calls c =
    (all_stored c.args.rules.now c.args.names.now c.args.texts.now c.in_ok-calls.calls.items c.read_calls.new.names c.in_ok-calls.ensures.read
    (rw c.as_slice.ensures at c.in_ok-check.ensures.typed) (rw c.len.ensures at c.if-len-texts.false)).0

pub returns-clause-within : goal.returns-clause-within
returns-clause-within c =
    (all_stored c.args.rules.now c.args.names.now c.args.texts.now c.in_ok-calls.calls.items c.read_calls.new.names c.in_ok-calls.ensures.read
    (rw c.as_slice.ensures at c.in_ok-check.ensures.typed) (rw c.len.ensures at c.if-len-texts.false)).1

pub returns-clause-taken : goal.returns-clause-taken
returns-clause-taken c =
    calls_taken c.args.rules.now c.args.names.now (bytes_in c.args.texts.now) c.in_ok-calls.calls.items c.read_calls.new.names c.in_ok-calls.ensures.read
    (rw c.as_slice.ensures at c.in_ok-check.ensures.typed)
