-- The session that a source gives, and how a run ends that got none.
use Rattle.std.specs.Prelude.{◌≡◌, ℕ, ◌+◌, ◌≤◌, List, [], length}
use Rattle.poets_io.specs.Streams.{GivesAll, LosesFront}
use Rattle.poets_lex.specs.Table.{Table}
use Rattle.poets_command.specs.Plain.{Entry}
use Rattle.poets_command.specs.Said.{Statement}
use Rattle.poets_session.specs.declared.form.Form.{Form}
use Rattle.poets_session.specs.Refusals.{Refusal, IsRefused}
use Rattle.poets_session.specs.Sessions.{Text, IsSession}
use Rattle.poets_session.specs.Texts.{refusal_text}
use Rattle.poets_writing.specs.Writing.{Stream, HasFailed, IsWritten}
use Rattle.poets_writing.specs.declared.outcome.TheConstants.{NO_SESSION, READ_FAULT, TOO_LONG}
use Rattle.poets_opening.specs.Limits.{block, longest, too_long_text}

-- the source was read to its end, without a fault, and gave this text, which is not too long
pub record Gave (source source' : Stream) (text : Text) : Type 0 where
  pub all : GivesAll source.bytes source'.bytes text
  pub short : length text ≤ longest
  pub faultless : source'.faults ≡ source.faults

-- the source gave a session of the form
pub record GaveSession (source source' : Stream) (form : Form) (names : Table) (statements : List Statement) :
    Type 0 where
  pub text : Text
  pub gave : Gave source source' text
  pub session : IsSession text form names statements

-- the answer where the source gave no session of the form: the status, and the line
pub data RefusesSource (form : Form) (source source' : Stream) :
    (status : ℕ) → List Entry → (line : List ℕ) → Type 0 where
  -- the line of the text's first fault
  Refused : {text : Text} {names : Table} {r : Refusal} → Gave source source' text → IsRefused text form names r →
      RefusesSource form source source' NO_SESSION [] (refusal_text names r)
  -- it gave more bytes than a session may have; they come in blocks, so that at most a block too
  -- many was taken
  TooLong : LosesFront (longest + 1) (longest + block) source.bytes source'.bytes → source'.faults ≡ source.faults →
      RefusesSource form source source' TOO_LONG [] too_long_text

-- how a run ends whose source gave no session of the form, or that had not the memory to read it
pub data EndsUnread (form : Form) (source source' sink sink' : Stream) : (status : ℕ) → List Entry → Type 0 where
  Told : {status : ℕ} {h : List Entry} → IsWritten (RefusesSource form source source') sink sink' status h →
      source'.faults ≡ source.faults → EndsUnread form source source' sink sink' status h
  -- the source failed, and nothing was written
  ReadFailed :
      HasFailed source source' → LosesFront 0 longest source.bytes source'.bytes → sink' ≡ sink →
      EndsUnread form source source' sink sink' READ_FAULT []
