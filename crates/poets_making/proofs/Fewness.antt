-- A session has no more scripts than clerks may be.
use Rattle.std.proofs.Common.{◌≡◌, ◌≤◌, List, length, map, ap, arith}
use Rattle.std.specs.Arc.{arc_value}
use Rattle.std.specs.declared.alloc.Global.{Global}
use Rattle.std.specs.declared.sync.Arc.{Arc}
use Rattle.std.proofs.lemmas.List.{length-map}
use Rattle.poets_value.specs.Limits.{most_clerks}
use Rattle.poets_value.specs.Listed.{Listed}
use Rattle.poets_command.specs.declared.call.Command.{Command as CodeCommand}
use Rattle.poets_command.specs.Calls.{command_of}
use Rattle.poets_command.specs.Said.{Statement}
use Rattle.poets_session.specs.declared.form.Form.{Form}
use Rattle.poets_session.specs.Places.{ArePlaced}
use Rattle.poets_session.specs.Sessions.{scripts_of, commands_in}
use Rattle.poets_session.proofs.Scripting.{scripts_few}

-- the lists of the code that hold its scripts are no more
pub scripts_few-held : (form : Form) (statements : List Statement) (scripts : List (Listed (Arc CodeCommand Global))) → ArePlaced form statements →
    commands_in scripts ≡ scripts_of statements → length scripts ≤ most_clerks
scripts_few-held form statements scripts placed held =
    let few = scripts_few form statements placed in
    let many = length-map scripts (λ (script : Listed (Arc CodeCommand Global)). map (λ c. command_of (arc_value c)) script.items) in
    omega (arith, few, many, ap length held)
