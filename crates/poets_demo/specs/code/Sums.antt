-- Sums that grow reply by reply.
use Rattle.std.specs.Prelude.{◌≡◌, ℕ, ◌+◌, Bool, if◌then◌else◌}
use Rattle.poets_command.specs.declared.call.Reply.{Reply}
use Rattle.poets_command.specs.Calls.{reply_of}
use Rattle.poets_command.specs.Plain as plain

-- the count grows by one for a reply that is such, and stays for any other
abbrev pub Grows : (such : plain.Reply → Bool) → Reply → (old new : ℕ) → Type 0
Grows such reply old new = new ≡ old + (if such (reply_of reply) then 1 else 0)
