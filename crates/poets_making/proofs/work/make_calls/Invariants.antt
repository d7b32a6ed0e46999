use Rattle.std.proofs.Common.{◌≡◌, take}
use Rattle.poets_command.specs.Calls.{calls_of, history_of}
use Rattle.poets_session.specs.Sessions.{calls_in}
use Rattle.poets_making.specs.Noted.{AreNoted}
use Rattle.poets_making.proofs.work.make_calls.Given as goal

abbrev pub invariant-loop-numbered : goal.invariant-loop-numbered
invariant-loop-numbered g l = record {
  noted : AreNoted l.engine (history_of l.entries.items);
  calls : calls_of (history_of l.entries.items) ≡ calls_in (take l.numbered-index l.calls);
  rules : l.engine.rules ≡ l.initial.engine.rules;
}
