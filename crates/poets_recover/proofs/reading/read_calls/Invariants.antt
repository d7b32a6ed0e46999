use Rattle.poets_session.specs.Sessions.{calls_in}
use Rattle.poets_recover.specs.Stored.{bytes_in}
use Rattle.poets_recover.specs.code.Reading.{HaveSaid}
use Rattle.poets_recover.proofs.reading.read_calls.Given as goal

-- the texts so far say the calls
abbrev pub invariant-loop-text : goal.invariant-loop-text
invariant-loop-text l = HaveSaid l.initial.names (bytes_in l.texts) l.text-index l.room (calls_in l.calls.items) l.names
