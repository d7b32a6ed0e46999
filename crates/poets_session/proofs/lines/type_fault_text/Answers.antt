use Rattle.std.proofs.Common.{◌≡◌, Some, append_assoc, string_bytes, sym, ap}
use Rattle.poets_session.specs.Texts.{fault_text}
use Rattle.poets_syntax.specs.Plain.{WrongCount}
use Rattle.poets_session.proofs.lines.type_fault_text.Goals as goal

pub returns-in_ok-format-in-WrongCount : goal.returns-in_ok-format-in-WrongCount
returns-in_ok-format-in-WrongCount c =
    let w = c.in-WrongCount in
    let line : string_bytes c.in_ok-format-in-WrongCount.field-0 ≡ fault_text c.args.names.now (WrongCount w.name w.wanted w.found) =
    simp append_assoc (rw c.name_text-name-in-WrongCount.ensures at c.in_ok-format-in-WrongCount.ensures.ok) in
    rw w.is (ap Some (sym line))
