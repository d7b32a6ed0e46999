-- Only an accepted command changes the ledger.
use Rattle.std.proofs.Common.{refl}
use Rattle.poets_command.specs.Plain.{Command, Reply}
use Rattle.poets_history.specs.Laws.{OnlyAcceptedChange}

pub only_accepted_change : OnlyAcceptedChange
only_accepted_change l (Command.Register x c) (Reply.Registered n) e = absurd cc
only_accepted_change l (Command.Transmit x v) (Reply.Recorded n b) e = absurd cc
only_accepted_change l (Command.Void x k) (Reply.Voided n b) e = absurd cc
only_accepted_change l (Command.End x) Reply.EndedNow e = absurd cc
only_accepted_change l (Command.Watch x args) (Reply.Watching n) e = absurd cc
only_accepted_change l command r e = refl
