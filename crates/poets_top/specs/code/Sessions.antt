-- Sessions that were read.
use Rattle.std.specs.Prelude.{◌≡◌, List, Result, IfOk, String, string_bytes}
use Rattle.std.specs.declared.alloc.Global.{Global}
use Rattle.poets_command.specs.Said.{Statement}
use Rattle.poets_session.specs.declared.form.Form.{Form}
use Rattle.poets_session.specs.declared.session.Session.{Session}
use Rattle.poets_session.specs.Sessions.{Text, IsSession, Represents}
use Rattle.poets_top.specs.Checking.{book_text}

-- the text is a session of the form that says this, and the code's session holds what it says
pub record IsSessionOf (form : Form) (text : Text) (statements : List Statement) (session : Session) : Type 0 where
  pub is : IsSession text form session.names statements
  pub holds : Represents statements session

-- the session was read from some text of the form
abbrev pub WasRead : Form → Session → Type 0
WasRead form session = (text : Text) × ((statements : List Statement) × IsSessionOf form text statements session)

-- the line, if memory was enough for it, is that of the book that the session holds
abbrev pub TellsItsBook : {E : Type 0} → Session → Result (String Global) E → Type 0
TellsItsBook session result =
    (statements : List Statement) → Represents statements session →
    IfOk result (λ line. string_bytes line ≡ book_text statements)
