use Rattle.std.proofs.Common.{◌≡◌, ◌++◌, ◌∙◌, ℕ, List, ap, subst, append_assoc, string_bytes}
use Rattle.std.specs.Prelude.{IfOk, codes}
use Rattle.std.specs.Fmt.{decimal}
use Rattle.poets_command.specs.Calls.{command_of}
use Rattle.poets_print.specs.Lines.{command_text}
use Rattle.poets_stored.specs.Stored.{stored_text}
use Rattle.poets_stored.proofs.put.CommandPutPutCommand.put.Goals as goal

pub returns : goal.returns
returns c =
    let own : string_bytes c.in_ok-text.text ≡ command_text c.args.self.now (command_of c.args.command.now) =
    subst (λ (names : List (List ℕ)). string_bytes c.in_ok-text.text ≡ command_text names (command_of c.args.command.now)) c.self.view_is c.in_ok-text.ensures in
    let whole : string_bytes c.in_ok-numbered.numbered ≡ decimal c.args.clerk ++ codes ": " ++ string_bytes c.in_ok-text.text =
    simp append_assoc c.in_ok-numbered.ensures.ok in
    let same : c.as_bytes.result.now ≡ stored_text c.args.self.now c.args.clerk c.args.command.now =
    c.as_bytes.ensures.value ∙ whole ∙ ap (λ (text : List ℕ). decimal c.args.clerk ++ codes ": " ++ text) own in
    subst (λ (bytes : List ℕ). IfOk c.copied.result (λ made. made.items ≡ bytes)) same c.copied.ensures
